use Rattle.std.proofs.Common.{◌≡◌, true, false, [], Some, None, take, ap, ap₂, sym, subst, rules, ◌∙◌}
use Rattle.std.specs.Prelude.{unwrap_or}
use Rattle.gaz_row.specs.Row.{id_of, population_of}
use Rattle.gaz_parent.specs.Chain.{is_child}
use Rattle.gaz_pick.specs.Order.{with_pair}
use Rattle.gaz_plain.specs.Kin.{lists_of}
use Rattle.gaz_plain.proofs.Named.{row_accepted}
use Rattle.gaz_plain.proofs.Offering.{found_at, sees_row, sees_nothing, not_one}
use Rattle.gaz_plain.proofs.plain_gaz.PlainGaz.offer_at.Goals as goal

-- each row was accepted
pub of-row-requires : goal.of-row-requires
of-row-requires c = row_accepted c.args.self.now c.is_gazetteer.ensures c.args.child c.in-Some.line.now (sym c.in-Some.ensures)

pub returns-then-is_child-clause-more : goal.returns-then-is_child-clause-more
returns-then-is_child-clause-more c =
    let gaz = c.args.self.now in
    let at = found_at gaz c.is_gazetteer.ensures c.args.id c.args.best.now.keep c.args.child c.in-Some.line.now (sym c.in-Some.ensures) in
    let test : is_child (lists_of gaz) c.args.id c.in-Some.line.now ≡ true = ap (is_child (lists_of gaz) c.args.id) (sym c.of-row.ensures) ∙ sym c.is_child.ensures ∙ c.if-is_child.true in
    let held : c.offer.new.self.pairs ≡ take c.args.best.now.keep (with_pair (c.population.result, c.id.result) c.args.best.now.pairs) = search rules in
    sees_row gaz c.is_gazetteer.ensures c.args.id c.args.best.now.keep c.first_of_more.ensures.next c.in-Some.line.now at.0 test (c.population.result, c.id.result)
    (ap₂ (λ p n. (p, n)) (c.population.ensures ∙ ap population_of c.of-row.ensures) (sym (ap (λ id. unwrap_or id 0) c.id.ensures) ∙ ap id_of c.of-row.ensures))
    c.args.best.now.pairs c.offer.new.self.pairs held c.args.child at.1

pub returns-else-is_child-clause-more : goal.returns-else-is_child-clause-more
returns-else-is_child-clause-more c =
    let gaz = c.args.self.now in
    let test : is_child (lists_of gaz) c.args.id c.in-Some.line.now ≡ false = ap (is_child (lists_of gaz) c.args.id) (sym c.of-row.ensures) ∙ sym c.is_child.ensures ∙ c.if-is_child.false in
    sees_nothing gaz c.is_gazetteer.ensures c.args.id c.args.best.now.keep _ c.args.best.now.pairs
    (not_one gaz c.is_gazetteer.ensures c.args.id c.args.best.now.keep c.args.child (Some c.in-Some.line.now) (sym c.in-Some.ensures)
    (λ row same. subst (λ r. is_child (lists_of gaz) c.args.id r ≡ false) (ap (λ o. unwrap_or o []) same) test))

pub returns-in-None-clause-more : goal.returns-in-None-clause-more
returns-in-None-clause-more c =
    sees_nothing c.args.self.now c.is_gazetteer.ensures c.args.id c.args.best.now.keep _ c.args.best.now.pairs
    (not_one c.args.self.now c.is_gazetteer.ensures c.args.id c.args.best.now.keep c.args.child None (sym c.in-None.ensures) (λ row same. cc))
