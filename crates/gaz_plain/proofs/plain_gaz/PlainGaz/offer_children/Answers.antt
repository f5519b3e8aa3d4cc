use Rattle.std.proofs.Common.{ℕ, false, ap, sym, subst, ◌∙◌}
use Rattle.std.specs.Prelude.{◌||◌}
use Rattle.gaz_num.specs.Pieces.{column}
use Rattle.gaz_plain.specs.Children.{is_linked_to, is_of_country, is_named_in, SeesMore}
use Rattle.gaz_plain.proofs.Named.{row_accepted}
use Rattle.gaz_plain.proofs.Below.{child_reached, childless}
use Rattle.gaz_plain.proofs.Offering.{sees_both, sees_nothing, all_offered}
use Rattle.gaz_plain.proofs.plain_gaz.PlainGaz.offer_children.Goals as goal

-- each row was accepted
pub of-requires : goal.of-requires
of-requires c = row_accepted c.args.self.now c.is_gazetteer.ensures c.args.id c.in-Some.line.now (sym c.in-Some.ensures)

pub returns-in-Some-clause-pairs : goal.returns-in-Some-clause-pairs
returns-in-Some-clause-pairs c =
    let gaz = c.args.self.now in
    let is = c.is_gazetteer.ensures in
    let id = c.args.id in
    let keep = c.args.best.now.keep in
    let own = column 9 c.in-Some.line.now in
    let code = c.as_bytes-own.ensures.value ∙ c.country.ensures ∙ ap (column 9) c.of.ensures in
    let two : SeesMore gaz id keep (is_of_country own) c.offer_linked.new.best.pairs c.offer_of_country.new.best.pairs =
    subst (λ (k : ℕ). SeesMore gaz id k (is_of_country own) c.offer_linked.new.best.pairs c.offer_of_country.new.best.pairs) c.offer_linked.ensures.keep
    (subst (λ country. SeesMore gaz id c.offer_linked.new.best.keep (is_of_country country) c.offer_linked.new.best.pairs c.offer_of_country.new.best.pairs) code c.offer_of_country.ensures.more) in
    let three : SeesMore gaz id keep (is_named_in gaz.countries id own) c.offer_of_country.new.best.pairs c.offer_named.new.best.pairs =
    subst (λ (k : ℕ). SeesMore gaz id k (is_named_in gaz.countries id own) c.offer_of_country.new.best.pairs c.offer_named.new.best.pairs) (c.offer_of_country.ensures.keep ∙ c.offer_linked.ensures.keep)
    (subst (λ country. SeesMore gaz id c.offer_of_country.new.best.keep (is_named_in gaz.countries id country) c.offer_of_country.new.best.pairs c.offer_named.new.best.pairs) code c.offer_named.ensures.more) in
    let both = sees_both gaz is id keep (is_linked_to gaz id) (is_of_country own) c.args.best.now.pairs c.offer_linked.new.best.pairs c.offer_of_country.new.best.pairs c.offer_linked.ensures.more two in
    let all = sees_both gaz is id keep (λ row. is_linked_to gaz id row || is_of_country own row) (is_named_in gaz.countries id own) c.args.best.now.pairs c.offer_of_country.new.best.pairs c.offer_named.new.best.pairs both three in
    all_offered gaz is id keep c.args.best.now.pairs c.offer_named.new.best.pairs c.requires.none _ all (child_reached gaz is id c.in-Some.line.now (sym c.in-Some.ensures))

-- no place, no children
pub returns-in-None-clause-pairs : goal.returns-in-None-clause-pairs
returns-in-None-clause-pairs c =
    let gaz = c.args.self.now in
    let is = c.is_gazetteer.ensures in
    let none = childless gaz is c.args.id (sym c.in-None.ensures) in
    all_offered gaz is c.args.id c.args.best.now.keep c.args.best.now.pairs c.args.best.now.pairs c.requires.none (λ row. false)
    (sees_nothing gaz is c.args.id c.args.best.now.keep (λ row. false) c.args.best.now.pairs (λ row at child there. none row child))
    (λ row child. absurd (none row child))
