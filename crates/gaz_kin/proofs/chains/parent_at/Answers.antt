use Rattle.std.proofs.Common.{◌≤◌, None, Some, ap, sym, subst, arith, ◌∙◌}
use Rattle.gaz_parent.specs.Parent.{parent_of}
use Rattle.gaz_plain.specs.Kin.{lists_of}
use Rattle.gaz_plain.proofs.Named.{parent_with}
use Rattle.gaz_rows.specs.Store.{IsSound}
use Rattle.gaz_kin.specs.Leading.{one_asked, only_on, over_on, told_on, store_on}
use Rattle.gaz_kin.specs.Reads.{parents_sought, most_sought}
use Rattle.gaz_kin.proofs.Answered.{if_ok, if_err}
use Rattle.gaz_kin.proofs.Sought.{at_most}
use Rattle.gaz_kin.proofs.chains.parent_at.Goals as goal

pub returns-in-Ok-Some-clause-found : goal.returns-in-Ok-Some-clause-found
returns-in-Ok-Some-clause-found g c =
    let v = g.P.Pages.view in
    let asked = one_asked _ (v c.args.store.now.pages) (v c.find_row.new.store.pages) _ c.in-Ok-Some.ensures.asked in
    if_ok _ _ c.parent_of.result (λ found over told gaz stands.
    over (told_on (v c.args.store.now.pages) (v c.find_row.new.store.pages) _ asked told) gaz (store_on gaz (v c.args.store.now.pages) (v c.find_row.new.store.pages) c.args.store.now.root c.find_row.new.store.root c.in-Ok-Some.field-0 asked c.in-Ok-Some.ensures.root told stands) (c.none-kept.ensures (lists_of gaz))
    ∙ ap (parent_of (lists_of gaz)) c.of.ensures
    ∙ parent_with gaz stands.is_gazetteer c.args.id (Some _) (rw c.in-Ok-Some.field-0-is at (c.in-Ok-Some.ensures.line told gaz stands)))
    c.parent_of.ensures.found

pub returns-in-Ok-Some-clause-damaged : goal.returns-in-Ok-Some-clause-damaged
returns-in-Ok-Some-clause-damaged g c =
    let v = g.P.Pages.view in
    if_err _ _ c.parent_of.result (λ fault over. over_on (λ gaz. IsSound fault) (v c.args.store.now.pages) (v c.find_row.new.store.pages) c.args.store.now.root c.find_row.new.store.root c.in-Ok-Some.field-0 (one_asked _ (v c.args.store.now.pages) (v c.find_row.new.store.pages) _ c.in-Ok-Some.ensures.asked) c.in-Ok-Some.ensures.root over)
    c.parent_of.ensures.damaged

pub returns-in-Ok-Some-clause-asked : goal.returns-in-Ok-Some-clause-asked
returns-in-Ok-Some-clause-asked g c =
    let v = g.P.Pages.view in
    only_on (v c.args.store.now.pages) (v c.find_row.new.store.pages) (v c.parent_of.new.store.pages) c.in-Ok-Some.field-0 c.parent_of.result (one_asked _ (v c.args.store.now.pages) (v c.find_row.new.store.pages) _ c.in-Ok-Some.ensures.asked) c.parent_of.ensures.asked

pub returns-in-Ok-None-clause-found : goal.returns-in-Ok-None-clause-found
returns-in-Ok-None-clause-found g c told gaz stands = parent_with gaz stands.is_gazetteer c.args.id None (rw c.in-Ok-None.field-0-is at (c.in-Ok-None.ensures.line told gaz stands))

pub returns-in-Ok-Some-clause-few : goal.returns-in-Ok-Some-clause-few
returns-in-Ok-Some-clause-few g c told gaz stands =
    let v = g.P.Pages.view in
    let asked = one_asked _ (v c.args.store.now.pages) (v c.find_row.new.store.pages) _ c.in-Ok-Some.ensures.asked in
    let found = c.in-Ok-Some.ensures.asked.counts.reads in
    let shallow = stands.tree.shallow in
    let more = c.parent_of.ensures.few (told_on (v c.args.store.now.pages) (v c.find_row.new.store.pages) _ asked told) gaz (store_on gaz (v c.args.store.now.pages) (v c.find_row.new.store.pages) c.args.store.now.root c.find_row.new.store.root c.in-Ok-Some.field-0 asked c.in-Ok-Some.ensures.root told stands) in
    let most = subst (λ row. parents_sought gaz row ≤ most_sought gaz) (sym c.of.ensures) (at_most gaz c.args.id _ (rw c.in-Ok-Some.field-0-is at (c.in-Ok-Some.ensures.line told gaz stands))) in
    omega (arith, found, shallow, more, most)

pub returns-in-Ok-None-clause-few : goal.returns-in-Ok-None-clause-few
returns-in-Ok-None-clause-few g c told gaz stands =
    let found = c.in-Ok-None.ensures.asked.counts.reads in
    let shallow = stands.tree.shallow in
    omega (arith, found, shallow)

pub returns-in-Err-clause-few : goal.returns-in-Err-clause-few
returns-in-Err-clause-few g c told gaz stands =
    let found = c.in-Err.ensures.asked.counts.reads in
    let shallow = stands.tree.shallow in
    omega (arith, found, shallow)
