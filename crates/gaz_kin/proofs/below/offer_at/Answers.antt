use Rattle.std.proofs.Common.{◌≡◌, ◌≤◌, arith, true, false, [], Some, None, Ok, Err, take, ap, ap₂, sym, subst, rules, ◌∙◌}
use Rattle.std.specs.Prelude.{unwrap_or}
use Rattle.gaz_row.specs.Row.{id_of, population_of}
use Rattle.gaz_parent.specs.Chain.{is_child}
use Rattle.gaz_pick.specs.Order.{with_pair}
use Rattle.gaz_plain.specs.Kin.{lists_of}
use Rattle.gaz_plain.proofs.Offering.{found_at, sees_row, sees_nothing, not_one}
use Rattle.gaz_kin.specs.Leading.{one_asked, only_on, only_ok, only_err, told_on, store_on, over_on}
use Rattle.gaz_kin.specs.Kept.{IsKept}
use Rattle.gaz_kin.specs.Reads.{parents_sought, most_sought}
use Rattle.gaz_kin.proofs.Sought.{at_most}
use Rattle.gaz_kin.proofs.below.offer_at.Goals as goal

pub returns-in-Ok-None-clause-more : goal.returns-in-Ok-None-clause-more
returns-in-Ok-None-clause-more g c told gaz stands known =
    sees_nothing gaz stands.is_gazetteer c.args.id c.args.best.now.keep _ c.args.best.now.pairs
    (not_one gaz stands.is_gazetteer c.args.id c.args.best.now.keep c.args.child None (rw c.in-Ok-None.field-0-is at (c.in-Ok-None.ensures.line told gaz stands)) (λ row same. cc))

pub returns-in-Ok-true-clause-more : goal.returns-in-Ok-true-clause-more
returns-in-Ok-true-clause-more g c told gaz stands known =
    let v = g.P.Pages.view in
    let asked = one_asked _ (v c.args.store.now.pages) (v c.find_row.new.store.pages) _ c.in-Ok-Some.ensures.asked in
    let told_mid = told_on (v c.args.store.now.pages) (v c.find_row.new.store.pages) _ asked told in
    let mid = store_on gaz (v c.args.store.now.pages) (v c.find_row.new.store.pages) c.args.store.now.root c.find_row.new.store.root c.in-Ok-Some.field-0 asked c.in-Ok-Some.ensures.root told stands in
    let row = take c.in-Ok-Some.size c.find_row.new.buf in
    let at = found_at gaz stands.is_gazetteer c.args.id c.args.best.now.keep c.args.child row (rw c.in-Ok-Some.field-0-is at (c.in-Ok-Some.ensures.line told gaz stands)) in
    let test : is_child (lists_of gaz) c.args.id row ≡ true = ap (is_child (lists_of gaz) c.args.id) (sym c.of-row.ensures) ∙ sym (c.in-Ok-true.ensures.is told_mid gaz mid known) ∙ c.in-Ok-true.field-0-test in
    let held : c.offer.new.self.pairs ≡ take c.args.best.now.keep (with_pair (c.population.result, c.id.result) c.args.best.now.pairs) = search rules in
    sees_row gaz stands.is_gazetteer c.args.id c.args.best.now.keep c.first_of_more.ensures.next row at.0 test (c.population.result, c.id.result)
    (ap₂ (λ p n. (p, n)) (c.population.ensures ∙ ap population_of c.of-row.ensures) (sym (ap (λ id. unwrap_or id 0) c.id.ensures) ∙ ap id_of c.of-row.ensures))
    c.args.best.now.pairs c.offer.new.self.pairs held c.args.child at.1

pub returns-in-Ok-true-clause-kept : goal.returns-in-Ok-true-clause-kept
returns-in-Ok-true-clause-kept g c =
    let v = g.P.Pages.view in
    over_on (λ gaz. IsKept (lists_of gaz) c.args.kept.now → IsKept (lists_of gaz) c.is_child.new.kept) (v c.args.store.now.pages) (v c.find_row.new.store.pages) c.args.store.now.root c.find_row.new.store.root c.in-Ok-Some.field-0
    (one_asked _ (v c.args.store.now.pages) (v c.find_row.new.store.pages) _ c.in-Ok-Some.ensures.asked) c.in-Ok-Some.ensures.root c.in-Ok-true.ensures.kept

pub returns-in-Ok-true-clause-asked : goal.returns-in-Ok-true-clause-asked
returns-in-Ok-true-clause-asked g c =
    let v = g.P.Pages.view in
    only_on (v c.args.store.now.pages) (v c.find_row.new.store.pages) (v c.is_child.new.store.pages) c.in-Ok-Some.field-0 (Ok tt) (one_asked _ (v c.args.store.now.pages) (v c.find_row.new.store.pages) _ c.in-Ok-Some.ensures.asked)
    (only_ok (v c.find_row.new.store.pages) (v c.is_child.new.store.pages) c.in-Ok-true.field-0 tt c.in-Ok-true.ensures.asked)

pub returns-in-Ok-false-clause-more : goal.returns-in-Ok-false-clause-more
returns-in-Ok-false-clause-more g c told gaz stands known =
    let v = g.P.Pages.view in
    let asked = one_asked _ (v c.args.store.now.pages) (v c.find_row.new.store.pages) _ c.in-Ok-Some.ensures.asked in
    let told_mid = told_on (v c.args.store.now.pages) (v c.find_row.new.store.pages) _ asked told in
    let mid = store_on gaz (v c.args.store.now.pages) (v c.find_row.new.store.pages) c.args.store.now.root c.find_row.new.store.root c.in-Ok-Some.field-0 asked c.in-Ok-Some.ensures.root told stands in
    let row = take c.in-Ok-Some.size c.find_row.new.buf in
    let test : is_child (lists_of gaz) c.args.id row ≡ false = ap (is_child (lists_of gaz) c.args.id) (sym c.of-row.ensures) ∙ sym (c.in-Ok-false.ensures.is told_mid gaz mid known) ∙ c.in-Ok-false.field-0-test in
    sees_nothing gaz stands.is_gazetteer c.args.id c.args.best.now.keep _ c.args.best.now.pairs
    (not_one gaz stands.is_gazetteer c.args.id c.args.best.now.keep c.args.child (Some row) (rw c.in-Ok-Some.field-0-is at (c.in-Ok-Some.ensures.line told gaz stands))
    (λ other same. subst (λ r. is_child (lists_of gaz) c.args.id r ≡ false) (ap (λ o. unwrap_or o []) same) test))

pub returns-in-Ok-false-clause-kept : goal.returns-in-Ok-false-clause-kept
returns-in-Ok-false-clause-kept g c =
    let v = g.P.Pages.view in
    over_on (λ gaz. IsKept (lists_of gaz) c.args.kept.now → IsKept (lists_of gaz) c.is_child.new.kept) (v c.args.store.now.pages) (v c.find_row.new.store.pages) c.args.store.now.root c.find_row.new.store.root c.in-Ok-Some.field-0
    (one_asked _ (v c.args.store.now.pages) (v c.find_row.new.store.pages) _ c.in-Ok-Some.ensures.asked) c.in-Ok-Some.ensures.root c.in-Ok-false.ensures.kept

pub returns-in-Ok-false-clause-asked : goal.returns-in-Ok-false-clause-asked
returns-in-Ok-false-clause-asked g c =
    let v = g.P.Pages.view in
    only_on (v c.args.store.now.pages) (v c.find_row.new.store.pages) (v c.is_child.new.store.pages) c.in-Ok-Some.field-0 (Ok tt) (one_asked _ (v c.args.store.now.pages) (v c.find_row.new.store.pages) _ c.in-Ok-Some.ensures.asked)
    (only_ok (v c.find_row.new.store.pages) (v c.is_child.new.store.pages) c.in-Ok-false.field-0 tt c.in-Ok-false.ensures.asked)

pub returns-in-Err-is_child-clause-damaged : goal.returns-in-Err-is_child-clause-damaged
returns-in-Err-is_child-clause-damaged g c told gaz stands =
    let v = g.P.Pages.view in
    let asked = one_asked _ (v c.args.store.now.pages) (v c.find_row.new.store.pages) _ c.in-Ok-Some.ensures.asked in
    c.in-Err-is_child.ensures.damaged (told_on (v c.args.store.now.pages) (v c.find_row.new.store.pages) _ asked told) gaz (store_on gaz (v c.args.store.now.pages) (v c.find_row.new.store.pages) c.args.store.now.root c.find_row.new.store.root c.in-Ok-Some.field-0 asked c.in-Ok-Some.ensures.root told stands)

pub returns-in-Err-is_child-clause-asked : goal.returns-in-Err-is_child-clause-asked
returns-in-Err-is_child-clause-asked g c =
    let v = g.P.Pages.view in
    only_on (v c.args.store.now.pages) (v c.find_row.new.store.pages) (v c.is_child.new.store.pages) c.in-Ok-Some.field-0 (Err c.in-Err-is_child.fault) (one_asked _ (v c.args.store.now.pages) (v c.find_row.new.store.pages) _ c.in-Ok-Some.ensures.asked)
    (only_err (v c.find_row.new.store.pages) (v c.is_child.new.store.pages) c.in-Err-is_child.fault c.in-Err-is_child.ensures.asked)

-- ---- how much was read

pub returns-in-Ok-None-clause-few : goal.returns-in-Ok-None-clause-few
returns-in-Ok-None-clause-few g c told gaz stands =
    let found = c.in-Ok-None.ensures.asked.counts.reads in
    let shallow = stands.tree.shallow in
    omega (arith, found, shallow)

pub returns-in-Err-clause-few : goal.returns-in-Err-clause-few
returns-in-Err-clause-few g c told gaz stands =
    let found = c.in-Err.ensures.asked.counts.reads in
    let shallow = stands.tree.shallow in
    omega (arith, found, shallow)

pub returns-in-Ok-true-clause-few : goal.returns-in-Ok-true-clause-few
returns-in-Ok-true-clause-few g c told gaz stands =
    let v = g.P.Pages.view in
    let asked = one_asked _ (v c.args.store.now.pages) (v c.find_row.new.store.pages) _ c.in-Ok-Some.ensures.asked in
    let found = c.in-Ok-Some.ensures.asked.counts.reads in
    let shallow = stands.tree.shallow in
    let more = c.in-Ok-true.ensures.few (told_on (v c.args.store.now.pages) (v c.find_row.new.store.pages) _ asked told) gaz (store_on gaz (v c.args.store.now.pages) (v c.find_row.new.store.pages) c.args.store.now.root c.find_row.new.store.root c.in-Ok-Some.field-0 asked c.in-Ok-Some.ensures.root told stands) in
    let most = subst (λ row. parents_sought gaz row ≤ most_sought gaz) (sym c.of-row.ensures) (at_most gaz c.args.child _ (rw c.in-Ok-Some.field-0-is at (c.in-Ok-Some.ensures.line told gaz stands))) in
    omega (arith, found, shallow, more, most)

pub returns-in-Ok-false-clause-few : goal.returns-in-Ok-false-clause-few
returns-in-Ok-false-clause-few g c told gaz stands =
    let v = g.P.Pages.view in
    let asked = one_asked _ (v c.args.store.now.pages) (v c.find_row.new.store.pages) _ c.in-Ok-Some.ensures.asked in
    let found = c.in-Ok-Some.ensures.asked.counts.reads in
    let shallow = stands.tree.shallow in
    let more = c.in-Ok-false.ensures.few (told_on (v c.args.store.now.pages) (v c.find_row.new.store.pages) _ asked told) gaz (store_on gaz (v c.args.store.now.pages) (v c.find_row.new.store.pages) c.args.store.now.root c.find_row.new.store.root c.in-Ok-Some.field-0 asked c.in-Ok-Some.ensures.root told stands) in
    let most = subst (λ row. parents_sought gaz row ≤ most_sought gaz) (sym c.of-row.ensures) (at_most gaz c.args.child _ (rw c.in-Ok-Some.field-0-is at (c.in-Ok-Some.ensures.line told gaz stands))) in
    omega (arith, found, shallow, more, most)

pub returns-in-Err-is_child-clause-few : goal.returns-in-Err-is_child-clause-few
returns-in-Err-is_child-clause-few g c told gaz stands =
    let v = g.P.Pages.view in
    let asked = one_asked _ (v c.args.store.now.pages) (v c.find_row.new.store.pages) _ c.in-Ok-Some.ensures.asked in
    let found = c.in-Ok-Some.ensures.asked.counts.reads in
    let shallow = stands.tree.shallow in
    let more = c.in-Err-is_child.ensures.few (told_on (v c.args.store.now.pages) (v c.find_row.new.store.pages) _ asked told) gaz (store_on gaz (v c.args.store.now.pages) (v c.find_row.new.store.pages) c.args.store.now.root c.find_row.new.store.root c.in-Ok-Some.field-0 asked c.in-Ok-Some.ensures.root told stands) in
    let most = subst (λ row. parents_sought gaz row ≤ most_sought gaz) (sym c.of-row.ensures) (at_most gaz c.args.child _ (rw c.in-Ok-Some.field-0-is at (c.in-Ok-Some.ensures.line told gaz stands))) in
    omega (arith, found, shallow, more, most)
