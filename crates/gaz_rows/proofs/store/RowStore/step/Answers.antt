use Rattle.std.proofs.Common.{arith, ◌≤◌, sym, ap, subst, ◌∙◌, ◌≡◌, ◌+◌, ◌<◌, []}
use Rattle.std.specs.Prelude.{IsTrue, true, false, Some, None, ℕ, length}
use Rattle.gaz_heap.specs.Place.{record_at, is_chain}
use Rattle.gaz_leaf.specs.Node.{key_of}
use Rattle.gaz_tree.specs.Pairs.{lookup}
use Rattle.gaz_rows.specs.Index.{line_key}
use Rattle.gaz_page.specs.declared.tree_root.Root.{Root}
use Rattle.gaz_plain.specs.Gazetteer.{limit_of, table_of, line_with}
use Rattle.gaz_keys.specs.Lines.{more_keys}
use Rattle.gaz_rows.specs.Stands.{places_in}
use Rattle.gaz_rows.specs.Steps.{counted, recounted}
use Rattle.gaz_rows.specs.Change.{HasCome}
use Rattle.gaz_rows.specs.Stepping.{ComesRightly, StandsAt, most_between}
use Rattle.gaz_rows.proofs.Working.{map_ok, all_ok}
use Rattle.gaz_rows.proofs.ReindexedTaken.{is_malformed, is_comment}
use Rattle.gaz_rows.proofs.SteppedOver.{short_line, ask_rightly, target_keyed, behind, come_over, come_rightly, none_over, laid_over, map_err, stands_same, come_full, ask_full, lacking_over, was_over, was_key_over, lacks_over, there_over, still, still_behind, pages_full, has_over, fits_over}
use Rattle.gaz_rows.proofs.SlotTaken.{takes_slot, puts_codes}
use Rattle.gaz_rows.proofs.store.RowStore.step.Goals as goal

pub returns-in-Ok-None-clause-steps : goal.returns-in-Ok-None-clause-steps
returns-in-Ok-None-clause-steps g c told gaz stands =
    let none = rw c.in-Ok-None.field-0-is at c.in-Ok-None.ensures in
    (gaz, is_comment gaz c.args.kind c.args.line.now stands.is_gazetteer none.0 none.1, stands)

pub returns-in-Err-clause-fault : goal.returns-in-Err-clause-fault
returns-in-Err-clause-fault g c told gaz stands = is_malformed gaz c.args.kind c.args.line.now c.in-Err.reason c.in-Err.ensures

pub returns-in-Err-key_of-clause-fault : goal.returns-in-Err-key_of-clause-fault
returns-in-Err-key_of-clause-fault g c told gaz stands =
    ask_rightly gaz c.args.kind c.args.line.now c.in-Err-key_of.fault c.from.result (c.in-Err-key_of.ensures.damaged told [] gaz stands) c.from.ensures

pub change_at-requires-clause-short : goal.change_at-requires-clause-short
change_at-requires-clause-short g c = short_line c.args.kind c.args.line.now c.in-Ok-Some.ensures.0

pub come-requires-clause-short : goal.come-requires-clause-short
come-requires-clause-short g c = short_line c.args.kind c.args.line.now c.in-Ok-Some.ensures.0

pub returns-in-Ok-Some-place-clause-steps : goal.returns-in-Ok-Some-place-clause-steps
returns-in-Ok-Some-place-clause-steps g c =
    map_ok c.change_at.result
    (λ st told gaz stands.
    let v = g.P.Pages.view in
    let told_between : IsTrue (v c.key_of.new.self.pages).is_told = subst IsTrue (sym c.key_of.ensures.asked.counts.told) told in
    let target = rw c.in-Ok-Some.field-0-is at c.in-Ok-Some.ensures in
    let keyed = target_keyed c.args.kind c.args.line.now c.in-Ok-Some.target target.1 in
    let b = behind gaz (v c.args.self.now.pages) (v c.key_of.new.self.pages) (v c.place.new.self.pages) c.args.self.now.root c.key_of.new.self.root c.place.new.self.root stands c.args.kind c.args.line.now c.in-Ok.key
    c.requires.one_line target.0 keyed (subst IsTrue (sym c.place.ensures.asked.counts.told) told_between) (c.in-Ok.ensures.asked.same told) c.key_of.ensures.root (c.in-Ok-Some-place.ensures.asked.same told_between) c.place.ensures.root
    (c.in-Ok.ensures.key told gaz stands c.args.kind c.args.line.now target.1) in
    let spot = rw c.in-Ok-Some-place.field-0-is at c.in-Ok-Some-place.ensures.found told_between b.stands_between.pairs b.stands_between.tree in
    st b.told gaz b.stands_now b.over spot c.requires.one_line)
    c.change_at.ensures.stands

pub returns-in-Ok-Some-place-clause-fault : goal.returns-in-Ok-Some-place-clause-fault
returns-in-Ok-Some-place-clause-fault g c =
    map_err c.change_at.result
    (λ fault right told gaz stands.
    let v = g.P.Pages.view in
    let told_between : IsTrue (v c.key_of.new.self.pages).is_told = subst IsTrue (sym c.key_of.ensures.asked.counts.told) told in
    let target = rw c.in-Ok-Some.field-0-is at c.in-Ok-Some.ensures in
    let keyed = target_keyed c.args.kind c.args.line.now c.in-Ok-Some.target target.1 in
    let b = behind gaz (v c.args.self.now.pages) (v c.key_of.new.self.pages) (v c.place.new.self.pages) c.args.self.now.root c.key_of.new.self.root c.place.new.self.root stands c.args.kind c.args.line.now c.in-Ok.key
    c.requires.one_line target.0 keyed (subst IsTrue (sym c.place.ensures.asked.counts.told) told_between) (c.in-Ok.ensures.asked.same told) c.key_of.ensures.root (c.in-Ok-Some-place.ensures.asked.same told_between) c.place.ensures.root
    (c.in-Ok.ensures.key told gaz stands c.args.kind c.args.line.now target.1) in
    let spot = rw c.in-Ok-Some-place.field-0-is at c.in-Ok-Some-place.ensures.found told_between b.stands_between.pairs b.stands_between.tree in
    right b.told gaz b.stands_now b.over spot c.requires.one_line)
    c.change_at.ensures.fault

pub returns-in-Ok-None-place-clause-steps : goal.returns-in-Ok-None-place-clause-steps
returns-in-Ok-None-place-clause-steps g c told gaz stands =
    let v = g.P.Pages.view in
    let told_between : IsTrue (v c.key_of.new.self.pages).is_told = subst IsTrue (sym c.key_of.ensures.asked.counts.told) told in
    let target = rw c.in-Ok-Some.field-0-is at c.in-Ok-Some.ensures in
    let keyed = target_keyed c.args.kind c.args.line.now c.in-Ok-Some.target target.1 in
    let b = behind gaz (v c.args.self.now.pages) (v c.key_of.new.self.pages) (v c.place.new.self.pages) c.args.self.now.root c.key_of.new.self.root c.place.new.self.root stands c.args.kind c.args.line.now c.in-Ok.key
    c.requires.one_line target.0 keyed (subst IsTrue (sym c.place.ensures.asked.counts.told) told_between) (c.in-Ok.ensures.asked.same told) c.key_of.ensures.root (c.in-Ok-None-place.ensures.asked.same told_between) c.place.ensures.root
    (c.in-Ok.ensures.key told gaz stands c.args.kind c.args.line.now target.1) in
    let none = rw c.in-Ok-None-place.field-0-is at c.in-Ok-None-place.ensures.found told_between b.stands_between.pairs b.stands_between.tree in
    none_over gaz (v c.place.new.self.pages) c.place.new.self.root b.stands_now c.args.kind c.args.line.now c.in-Ok.key c.requires.one_line target.0 keyed b.over (sym c.is_delete.ensures ∙ c.if-is_delete.true) none

pub returns-in-Ok-None-2-clause-steps : goal.returns-in-Ok-None-2-clause-steps
returns-in-Ok-None-2-clause-steps g c =
    all_ok c.come.result
    (λ come room count told gaz stands.
    let v = g.P.Pages.view in
    let told_between : IsTrue (v c.key_of.new.self.pages).is_told = subst IsTrue (sym c.key_of.ensures.asked.counts.told) told in
    let target = rw c.in-Ok-Some.field-0-is at c.in-Ok-Some.ensures in
    let keyed = target_keyed c.args.kind c.args.line.now c.in-Ok-Some.target target.1 in
    let b = behind gaz (v c.args.self.now.pages) (v c.key_of.new.self.pages) (v c.place.new.self.pages) c.args.self.now.root c.key_of.new.self.root c.place.new.self.root stands c.args.kind c.args.line.now c.in-Ok.key
    c.requires.one_line target.0 keyed (subst IsTrue (sym c.place.ensures.asked.counts.told) told_between) (c.in-Ok.ensures.asked.same told) c.key_of.ensures.root (c.in-Ok-None-place.ensures.asked.same told_between) c.place.ensures.root
    (c.in-Ok.ensures.key told gaz stands c.args.kind c.args.line.now target.1) in
    let none = rw c.in-Ok-None-place.field-0-is at c.in-Ok-None-place.ensures.found told_between b.stands_between.pairs b.stands_between.tree in
    let table = c.table_of.ensures in
    let root = c.place.new.self.root in
    come_over gaz (v c.place.new.self.pages) c.place.new.self.root b.stands_now c.args.kind c.args.line.now c.in-Ok.key c.requires.one_line target.0 keyed b.over (v c.come.new.self.pages) c.come.new.self.root (sym c.is_delete.ensures ∙ c.if-is_delete.false) none
    (subst (λ t. HasCome (v c.place.new.self.pages) (v c.come.new.self.pages) c.come.new.self.root b.stands_now.pairs (places_in b.stands_now.pairs) c.in-Ok.key (more_keys t c.args.line.now) c.args.line.now) table
    (come b.told b.stands_now.pairs (places_in b.stands_now.pairs) (laid_over gaz (v c.place.new.self.pages) c.place.new.self.root b.stands_now c.args.kind c.args.line.now c.in-Ok.key c.requires.one_line target.0 keyed b.over)))
    (subst (λ t. counted root.counts t < limit_of t) table room)
    (subst (λ t. c.come.new.self.root.counts ≡ recounted root.counts t (counted root.counts t + 1)) table count)
    (ap (λ (r : Root). r.day) c.come.ensures.root))
    c.come.ensures.come c.come.ensures.room c.come.ensures.count

pub returns-in-Ok-None-2-clause-fault : goal.returns-in-Ok-None-2-clause-fault
returns-in-Ok-None-2-clause-fault g c =
    map_err c.come.result
    (λ fault right told gaz stands.
    let v = g.P.Pages.view in
    let told_between : IsTrue (v c.key_of.new.self.pages).is_told = subst IsTrue (sym c.key_of.ensures.asked.counts.told) told in
    let target = rw c.in-Ok-Some.field-0-is at c.in-Ok-Some.ensures in
    let keyed = target_keyed c.args.kind c.args.line.now c.in-Ok-Some.target target.1 in
    let b = behind gaz (v c.args.self.now.pages) (v c.key_of.new.self.pages) (v c.place.new.self.pages) c.args.self.now.root c.key_of.new.self.root c.place.new.self.root stands c.args.kind c.args.line.now c.in-Ok.key
    c.requires.one_line target.0 keyed (subst IsTrue (sym c.place.ensures.asked.counts.told) told_between) (c.in-Ok.ensures.asked.same told) c.key_of.ensures.root (c.in-Ok-None-place.ensures.asked.same told_between) c.place.ensures.root
    (c.in-Ok.ensures.key told gaz stands c.args.kind c.args.line.now target.1) in
    let none = rw c.in-Ok-None-place.field-0-is at c.in-Ok-None-place.ensures.found told_between b.stands_between.pairs b.stands_between.tree in
    come_rightly gaz (v c.place.new.self.pages) c.place.new.self.root b.stands_now c.args.kind c.args.line.now c.in-Ok.key c.requires.one_line target.0 keyed b.over (sym c.is_delete.ensures ∙ c.if-is_delete.false) none b.told fault
    (subst (λ t. ComesRightly t c.place.new.self.root (v c.place.new.self.pages) fault) c.table_of.ensures right))
    c.come.ensures.fault

pub returns-in-Err-place-clause-fault : goal.returns-in-Err-place-clause-fault
returns-in-Err-place-clause-fault g c told gaz stands =
    let v = g.P.Pages.view in
    let told_between : IsTrue (v c.key_of.new.self.pages).is_told = subst IsTrue (sym c.key_of.ensures.asked.counts.told) told in
    let target = rw c.in-Ok-Some.field-0-is at c.in-Ok-Some.ensures in
    let keyed = target_keyed c.args.kind c.args.line.now c.in-Ok-Some.target target.1 in
    let between = stands_same [] gaz (v c.args.self.now.pages) (v c.key_of.new.self.pages) c.args.self.now.root c.key_of.new.self.root (c.in-Ok.ensures.asked.same told) c.key_of.ensures.root stands in
    ask_rightly gaz c.args.kind c.args.line.now c.in-Err-place.fault c.from-in-Err-place.result (c.in-Err-place.ensures.damaged told_between between.pairs between.tree) c.from-in-Err-place.ensures

pub returns-in-Err-key_of-clause-full : goal.returns-in-Err-key_of-clause-full
returns-in-Err-key_of-clause-full g c = ask_full c.args.kind c.args.self.now.root c.in-Err-key_of.fault c.from.result c.from.ensures

pub returns-in-Err-place-clause-full : goal.returns-in-Err-place-clause-full
returns-in-Err-place-clause-full g c = ask_full c.args.kind c.args.self.now.root c.in-Err-place.fault c.from-in-Err-place.result c.from-in-Err-place.ensures

pub returns-in-Ok-Some-place-clause-full : goal.returns-in-Ok-Some-place-clause-full
returns-in-Ok-Some-place-clause-full g c = map_err c.change_at.result (λ fault why. pages_full c.args.kind c.args.self.now.root fault why) c.change_at.ensures.why

pub returns-in-Ok-None-2-clause-full : goal.returns-in-Ok-None-2-clause-full
returns-in-Ok-None-2-clause-full g c =
    map_err c.come.result
    (λ fault right. come_full c.args.kind c.args.self.now.root c.place.new.self.root (g.P.Pages.view c.place.new.self.pages) fault (c.place.ensures.root ∙ c.key_of.ensures.root)
    (sym c.is_delete.ensures ∙ c.if-is_delete.false)
    (subst (λ t. ComesRightly t c.place.new.self.root (g.P.Pages.view c.place.new.self.pages) fault) c.table_of.ensures right))
    c.come.ensures.fault

pub returns-in-Ok-None-clause-idle : goal.returns-in-Ok-None-clause-idle
returns-in-Ok-None-clause-idle g c told gaz stands has = still (g.P.Pages.view c.args.self.now.pages) c.args.self.now.root

pub returns-in-Ok-None-place-clause-idle : goal.returns-in-Ok-None-place-clause-idle
returns-in-Ok-None-place-clause-idle g c told gaz stands has =
    let v = g.P.Pages.view in
    let told_between : IsTrue (v c.key_of.new.self.pages).is_told = subst IsTrue (sym c.key_of.ensures.asked.counts.told) told in
    still_behind (v c.args.self.now.pages) (v c.key_of.new.self.pages) (v c.place.new.self.pages) c.args.self.now.root c.key_of.new.self.root c.place.new.self.root (c.in-Ok.ensures.asked.same told) c.key_of.ensures.asked.unchanged c.key_of.ensures.root
    (still_behind (v c.key_of.new.self.pages) (v c.place.new.self.pages) (v c.place.new.self.pages) c.key_of.new.self.root c.place.new.self.root c.place.new.self.root (c.in-Ok-None-place.ensures.asked.same told_between) c.place.ensures.asked.unchanged c.place.ensures.root
    (still (v c.place.new.self.pages) c.place.new.self.root))

pub returns-in-Ok-Some-place-clause-idle : goal.returns-in-Ok-Some-place-clause-idle
returns-in-Ok-Some-place-clause-idle g c =
    map_ok c.change_at.result
    (λ idle told gaz stands has.
    let v = g.P.Pages.view in
    let told_between : IsTrue (v c.key_of.new.self.pages).is_told = subst IsTrue (sym c.key_of.ensures.asked.counts.told) told in
    let target = rw c.in-Ok-Some.field-0-is at c.in-Ok-Some.ensures in
    let keyed = target_keyed c.args.kind c.args.line.now c.in-Ok-Some.target target.1 in
    let b = behind gaz (v c.args.self.now.pages) (v c.key_of.new.self.pages) (v c.place.new.self.pages) c.args.self.now.root c.key_of.new.self.root c.place.new.self.root stands c.args.kind c.args.line.now c.in-Ok.key
    c.requires.one_line target.0 keyed (subst IsTrue (sym c.place.ensures.asked.counts.told) told_between) (c.in-Ok.ensures.asked.same told) c.key_of.ensures.root (c.in-Ok-Some-place.ensures.asked.same told_between) c.place.ensures.root
    (c.in-Ok.ensures.key told gaz stands c.args.kind c.args.line.now target.1) in
    let spot = rw c.in-Ok-Some-place.field-0-is at c.in-Ok-Some-place.ensures.found told_between b.stands_between.pairs b.stands_between.tree in
    still_behind (v c.args.self.now.pages) (v c.key_of.new.self.pages) (v c.change_at.new.self.pages) c.args.self.now.root c.key_of.new.self.root c.change_at.new.self.root (c.in-Ok.ensures.asked.same told) c.key_of.ensures.asked.unchanged c.key_of.ensures.root
    (still_behind (v c.key_of.new.self.pages) (v c.place.new.self.pages) (v c.change_at.new.self.pages) c.key_of.new.self.root c.place.new.self.root c.change_at.new.self.root (c.in-Ok-Some-place.ensures.asked.same told_between) c.place.ensures.asked.unchanged c.place.ensures.root
    (idle b.told gaz b.stands_now b.over spot c.requires.one_line has)))
    c.change_at.ensures.idle

pub returns-in-Ok-None-2-clause-idle : goal.returns-in-Ok-None-2-clause-idle
returns-in-Ok-None-2-clause-idle g c =
    map_ok c.come.result
    (λ count told gaz stands has.
    let v = g.P.Pages.view in
    let told_between : IsTrue (v c.key_of.new.self.pages).is_told = subst IsTrue (sym c.key_of.ensures.asked.counts.told) told in
    let target = rw c.in-Ok-Some.field-0-is at c.in-Ok-Some.ensures in
    let keyed = target_keyed c.args.kind c.args.line.now c.in-Ok-Some.target target.1 in
    let b = behind gaz (v c.args.self.now.pages) (v c.key_of.new.self.pages) (v c.place.new.self.pages) c.args.self.now.root c.key_of.new.self.root c.place.new.self.root stands c.args.kind c.args.line.now c.in-Ok.key
    c.requires.one_line target.0 keyed (subst IsTrue (sym c.place.ensures.asked.counts.told) told_between) (c.in-Ok.ensures.asked.same told) c.key_of.ensures.root (c.in-Ok-None-place.ensures.asked.same told_between) c.place.ensures.root
    (c.in-Ok.ensures.key told gaz stands c.args.kind c.args.line.now target.1) in
    let none = rw c.in-Ok-None-place.field-0-is at c.in-Ok-None-place.ensures.found told_between b.stands_between.pairs b.stands_between.tree in
    absurd (lacking_over gaz (v c.place.new.self.pages) c.place.new.self.root b.stands_now c.args.kind c.args.line.now c.in-Ok.key c.requires.one_line target.0 keyed b.over (sym c.is_delete.ensures ∙ c.if-is_delete.false) none has))
    c.come.ensures.count

pub returns-in-Ok-None-clause-differ : goal.returns-in-Ok-None-clause-differ
returns-in-Ok-None-clause-differ g c told gaz stands number earlier has puts found = omega arith

pub returns-in-Ok-None-place-clause-differ : goal.returns-in-Ok-None-place-clause-differ
returns-in-Ok-None-place-clause-differ g c told gaz stands number earlier has puts found =
    let first = c.key_of.ensures.asked.unchanged in
    let second = c.place.ensures.asked.unchanged in
    omega (arith, first, second)

pub returns-in-Ok-Some-place-clause-differ : goal.returns-in-Ok-Some-place-clause-differ
returns-in-Ok-Some-place-clause-differ g c =
    map_ok c.change_at.result
    (λ differ told gaz stands number earlier has puts found.
    let v = g.P.Pages.view in
    let told_between : IsTrue (v c.key_of.new.self.pages).is_told = subst IsTrue (sym c.key_of.ensures.asked.counts.told) told in
    let target = rw c.in-Ok-Some.field-0-is at c.in-Ok-Some.ensures in
    let keyed = target_keyed c.args.kind c.args.line.now c.in-Ok-Some.target target.1 in
    let b = behind gaz (v c.args.self.now.pages) (v c.key_of.new.self.pages) (v c.place.new.self.pages) c.args.self.now.root c.key_of.new.self.root c.place.new.self.root stands c.args.kind c.args.line.now c.in-Ok.key
    c.requires.one_line target.0 keyed (subst IsTrue (sym c.place.ensures.asked.counts.told) told_between) (c.in-Ok.ensures.asked.same told) c.key_of.ensures.root (c.in-Ok-Some-place.ensures.asked.same told_between) c.place.ensures.root
    (c.in-Ok.ensures.key told gaz stands c.args.kind c.args.line.now target.1) in
    let spot = rw c.in-Ok-Some-place.field-0-is at c.in-Ok-Some-place.ensures.found told_between b.stands_between.pairs b.stands_between.tree in
    let held = (laid_over gaz (v c.place.new.self.pages) c.place.new.self.root b.stands_now c.args.kind c.args.line.now c.in-Ok.key c.requires.one_line target.0 keyed b.over).held c.in-Ok-Some-place.place (there_over gaz (v c.place.new.self.pages) c.place.new.self.root b.stands_now c.args.kind c.args.line.now c.in-Ok.key c.requires.one_line target.0 keyed b.over c.in-Ok-Some-place.place spot) in
    let at : StandsAt (v c.place.new.self.pages) c.in-Ok.key b.stands_now.pairs c.in-Ok-Some-place.place held.0 = record { at = spot; record_is = held.1.at } in
    let first = c.key_of.ensures.asked.unchanged in
    let second = c.place.ensures.asked.unchanged in
    let third = differ b.told puts b.stands_now.tree.shallow held.0 held.1.at in
    subst (λ l. (v c.change_at.new.self.pages).changed ≤ (v c.args.self.now.pages).changed + most_between (table_of c.args.kind) l c.args.line.now)
    (sym (was_over gaz (v c.place.new.self.pages) c.place.new.self.root b.stands_now c.args.kind c.args.line.now c.in-Ok.key c.requires.one_line target.0 keyed b.over c.in-Ok-Some-place.place held.0 at number earlier has found))
    (omega (arith, first, second, third)))
    c.change_at.ensures.differ

pub returns-in-Ok-None-2-clause-differ : goal.returns-in-Ok-None-2-clause-differ
returns-in-Ok-None-2-clause-differ g c =
    map_ok c.come.result
    (λ count told gaz stands number earlier has puts found.
    let v = g.P.Pages.view in
    let told_between : IsTrue (v c.key_of.new.self.pages).is_told = subst IsTrue (sym c.key_of.ensures.asked.counts.told) told in
    let target = rw c.in-Ok-Some.field-0-is at c.in-Ok-Some.ensures in
    let keyed = target_keyed c.args.kind c.args.line.now c.in-Ok-Some.target target.1 in
    let b = behind gaz (v c.args.self.now.pages) (v c.key_of.new.self.pages) (v c.place.new.self.pages) c.args.self.now.root c.key_of.new.self.root c.place.new.self.root stands c.args.kind c.args.line.now c.in-Ok.key
    c.requires.one_line target.0 keyed (subst IsTrue (sym c.place.ensures.asked.counts.told) told_between) (c.in-Ok.ensures.asked.same told) c.key_of.ensures.root (c.in-Ok-None-place.ensures.asked.same told_between) c.place.ensures.root
    (c.in-Ok.ensures.key told gaz stands c.args.kind c.args.line.now target.1) in
    let none = rw c.in-Ok-None-place.field-0-is at c.in-Ok-None-place.ensures.found told_between b.stands_between.pairs b.stands_between.tree in
    absurd (lacks_over gaz (v c.place.new.self.pages) c.place.new.self.root b.stands_now c.args.kind c.args.line.now c.in-Ok.key c.requires.one_line target.0 keyed b.over none number earlier has found))
    c.come.ensures.count

pub returns-in-Ok-None-clause-stays : goal.returns-in-Ok-None-clause-stays
returns-in-Ok-None-clause-stays g c told gaz stands number was has puts found place stood chain short =
    let none = rw c.in-Ok-None.field-0-is at c.in-Ok-None.ensures in
    absurd (differ (sym none.1 ∙ has))
  where
    differ : None ≡ Some number → ⊥
    differ same = cc

pub returns-in-Ok-None-place-clause-stays : goal.returns-in-Ok-None-place-clause-stays
returns-in-Ok-None-place-clause-stays g c told gaz stands number was has puts found place stood chain short =
    absurd (differ (sym (sym c.is_delete.ensures ∙ c.if-is_delete.true) ∙ puts))
  where
    differ : true ≡ false → ⊥
    differ same = cc

pub returns-in-Ok-Some-place-clause-stays : goal.returns-in-Ok-Some-place-clause-stays
returns-in-Ok-Some-place-clause-stays g c =
    map_ok c.change_at.result
    (λ puts_there told gaz stands number was has puts found place stood chain short.
    let v = g.P.Pages.view in
    let told_between : IsTrue (v c.key_of.new.self.pages).is_told = subst IsTrue (sym c.key_of.ensures.asked.counts.told) told in
    let target = rw c.in-Ok-Some.field-0-is at c.in-Ok-Some.ensures in
    let keyed = target_keyed c.args.kind c.args.line.now c.in-Ok-Some.target target.1 in
    let b = behind gaz (v c.args.self.now.pages) (v c.key_of.new.self.pages) (v c.place.new.self.pages) c.args.self.now.root c.key_of.new.self.root c.place.new.self.root stands c.args.kind c.args.line.now c.in-Ok.key
    c.requires.one_line target.0 keyed (subst IsTrue (sym c.place.ensures.asked.counts.told) told_between) (c.in-Ok.ensures.asked.same told) c.key_of.ensures.root (c.in-Ok-Some-place.ensures.asked.same told_between) c.place.ensures.root
    (c.in-Ok.ensures.key told gaz stands c.args.kind c.args.line.now target.1) in
    let spot = rw c.in-Ok-Some-place.field-0-is at c.in-Ok-Some-place.ensures.found told_between b.stands_between.pairs b.stands_between.tree in
    let held = (laid_over gaz (v c.place.new.self.pages) c.place.new.self.root b.stands_now c.args.kind c.args.line.now c.in-Ok.key c.requires.one_line target.0 keyed b.over).held c.in-Ok-Some-place.place (there_over gaz (v c.place.new.self.pages) c.place.new.self.root b.stands_now c.args.kind c.args.line.now c.in-Ok.key c.requires.one_line target.0 keyed b.over c.in-Ok-Some-place.place spot) in
    let at : StandsAt (v c.place.new.self.pages) c.in-Ok.key b.stands_now.pairs c.in-Ok-Some-place.place held.0 = record { at = spot; record_is = held.1.at } in
    let was_is = was_over gaz (v c.place.new.self.pages) c.place.new.self.root b.stands_now c.args.kind c.args.line.now c.in-Ok.key c.requires.one_line target.0 keyed b.over c.in-Ok-Some-place.place held.0 at number was has found in
    let same_key = ap (line_key stands.slots (table_of c.args.kind)) was_is ∙ was_key_over gaz (v c.place.new.self.pages) c.place.new.self.root b.stands_now c.args.kind c.args.line.now c.in-Ok.key c.requires.one_line target.0 keyed b.over c.in-Ok-Some-place.place held.0 at in
    let here = same_place place c.in-Ok-Some-place.place (sym stood ∙ ap (λ k. lookup (key_of k) stands.pairs) same_key ∙ at.at) in
    subst (λ p. record_at (v c.change_at.new.self.pages).page p ≡ Some c.args.line.now) (sym here)
    (puts_there b.told puts held.0 b.stands_now.pairs (places_in b.stands_now.pairs) (laid_over gaz (v c.place.new.self.pages) c.place.new.self.root b.stands_now c.args.kind c.args.line.now c.in-Ok.key c.requires.one_line target.0 keyed b.over) (there_over gaz (v c.place.new.self.pages) c.place.new.self.root b.stands_now c.args.kind c.args.line.now c.in-Ok.key c.requires.one_line target.0 keyed b.over c.in-Ok-Some-place.place at.at) at.record_is
    (subst (λ p. IsTrue (is_chain p) → ⊥) here chain) (subst (λ l. length c.args.line.now ≤ length l) was_is short)))
    c.change_at.ensures.stays
  where
    same_place : (a b : ℕ) → Some a ≡ Some b → a ≡ b
    same_place a b same = cc

pub returns-in-Ok-None-2-clause-stays : goal.returns-in-Ok-None-2-clause-stays
returns-in-Ok-None-2-clause-stays g c =
    map_ok c.come.result
    (λ count told gaz stands number was has puts found place stood chain short.
    let v = g.P.Pages.view in
    let told_between : IsTrue (v c.key_of.new.self.pages).is_told = subst IsTrue (sym c.key_of.ensures.asked.counts.told) told in
    let target = rw c.in-Ok-Some.field-0-is at c.in-Ok-Some.ensures in
    let keyed = target_keyed c.args.kind c.args.line.now c.in-Ok-Some.target target.1 in
    let b = behind gaz (v c.args.self.now.pages) (v c.key_of.new.self.pages) (v c.place.new.self.pages) c.args.self.now.root c.key_of.new.self.root c.place.new.self.root stands c.args.kind c.args.line.now c.in-Ok.key
    c.requires.one_line target.0 keyed (subst IsTrue (sym c.place.ensures.asked.counts.told) told_between) (c.in-Ok.ensures.asked.same told) c.key_of.ensures.root (c.in-Ok-None-place.ensures.asked.same told_between) c.place.ensures.root
    (c.in-Ok.ensures.key told gaz stands c.args.kind c.args.line.now target.1) in
    let none = rw c.in-Ok-None-place.field-0-is at c.in-Ok-None-place.ensures.found told_between b.stands_between.pairs b.stands_between.tree in
    absurd (lacks_over gaz (v c.place.new.self.pages) c.place.new.self.root b.stands_now c.args.kind c.args.line.now c.in-Ok.key c.requires.one_line target.0 keyed b.over none number was has found))
    c.come.ensures.count

pub returns-in-Ok-None-clause-slot : goal.returns-in-Ok-None-clause-slot
returns-in-Ok-None-clause-slot g c told gaz next stands after code codes has lacks =
    let none = rw c.in-Ok-None.field-0-is at c.in-Ok-None.ensures in
    absurd (differ (sym none.1 ∙ has))
  where
    differ : None ≡ Some code → ⊥
    differ same = cc

pub returns-in-Ok-None-place-clause-slot : goal.returns-in-Ok-None-place-clause-slot
returns-in-Ok-None-place-clause-slot g c told gaz next stands after code codes has lacks = absurd (puts_codes c.args.kind codes (sym c.is_delete.ensures ∙ c.if-is_delete.true))

pub returns-in-Ok-Some-place-clause-slot : goal.returns-in-Ok-Some-place-clause-slot
returns-in-Ok-Some-place-clause-slot g c =
    map_ok c.change_at.result
    (λ done told gaz next stands after code codes has lacks.
    let v = g.P.Pages.view in
    let told_between : IsTrue (v c.key_of.new.self.pages).is_told = subst IsTrue (sym c.key_of.ensures.asked.counts.told) told in
    let target = rw c.in-Ok-Some.field-0-is at c.in-Ok-Some.ensures in
    let keyed = target_keyed c.args.kind c.args.line.now c.in-Ok-Some.target target.1 in
    let b = behind gaz (v c.args.self.now.pages) (v c.key_of.new.self.pages) (v c.place.new.self.pages) c.args.self.now.root c.key_of.new.self.root c.place.new.self.root stands c.args.kind c.args.line.now c.in-Ok.key
    c.requires.one_line target.0 keyed (subst IsTrue (sym c.place.ensures.asked.counts.told) told_between) (c.in-Ok.ensures.asked.same told) c.key_of.ensures.root (c.in-Ok-Some-place.ensures.asked.same told_between) c.place.ensures.root
    (c.in-Ok.ensures.key told gaz stands c.args.kind c.args.line.now target.1) in
    let spot = rw c.in-Ok-Some-place.field-0-is at c.in-Ok-Some-place.ensures.found told_between b.stands_between.pairs b.stands_between.tree in
    let held = (laid_over gaz (v c.place.new.self.pages) c.place.new.self.root b.stands_now c.args.kind c.args.line.now c.in-Ok.key c.requires.one_line target.0 keyed b.over).held c.in-Ok-Some-place.place (there_over gaz (v c.place.new.self.pages) c.place.new.self.root b.stands_now c.args.kind c.args.line.now c.in-Ok.key c.requires.one_line target.0 keyed b.over c.in-Ok-Some-place.place spot) in
    let at : StandsAt (v c.place.new.self.pages) c.in-Ok.key b.stands_now.pairs c.in-Ok-Some-place.place held.0 = record { at = spot; record_is = held.1.at } in
    absurd (has_over gaz (v c.place.new.self.pages) c.place.new.self.root b.stands_now c.args.kind c.args.line.now c.in-Ok.key c.requires.one_line target.0 keyed b.over c.in-Ok-Some-place.place held.0 at code has
    (subst (λ t. line_with t code gaz ≡ None) (sym codes) lacks)))
    c.change_at.ensures.stands

pub returns-in-Ok-None-2-clause-slot : goal.returns-in-Ok-None-2-clause-slot
returns-in-Ok-None-2-clause-slot g c =
    map_ok c.come.result
    (λ come told gaz next stands after code codes has lacks.
    let v = g.P.Pages.view in
    let told_between : IsTrue (v c.key_of.new.self.pages).is_told = subst IsTrue (sym c.key_of.ensures.asked.counts.told) told in
    let target = rw c.in-Ok-Some.field-0-is at c.in-Ok-Some.ensures in
    let keyed = target_keyed c.args.kind c.args.line.now c.in-Ok-Some.target target.1 in
    let b = behind gaz (v c.args.self.now.pages) (v c.key_of.new.self.pages) (v c.place.new.self.pages) c.args.self.now.root c.key_of.new.self.root c.place.new.self.root stands c.args.kind c.args.line.now c.in-Ok.key
    c.requires.one_line target.0 keyed (subst IsTrue (sym c.place.ensures.asked.counts.told) told_between) (c.in-Ok.ensures.asked.same told) c.key_of.ensures.root (c.in-Ok-None-place.ensures.asked.same told_between) c.place.ensures.root
    (c.in-Ok.ensures.key told gaz stands c.args.kind c.args.line.now target.1) in
    takes_slot gaz next stands.slots c.args.kind c.args.line.now c.in-Ok.key b.over
    (fits_over gaz (v c.place.new.self.pages) c.place.new.self.root b.stands_now c.args.kind c.args.line.now c.in-Ok.key c.requires.one_line target.0 keyed b.over)
    (v c.place.new.self.pages) (v c.come.new.self.pages) c.come.new.self.root after b.stands_now.pairs (places_in b.stands_now.pairs)
    (subst (λ t. HasCome (v c.place.new.self.pages) (v c.come.new.self.pages) c.come.new.self.root b.stands_now.pairs (places_in b.stands_now.pairs) c.in-Ok.key (more_keys t c.args.line.now) c.args.line.now) c.table_of.ensures
    (come b.told b.stands_now.pairs (places_in b.stands_now.pairs) (laid_over gaz (v c.place.new.self.pages) c.place.new.self.root b.stands_now c.args.kind c.args.line.now c.in-Ok.key c.requires.one_line target.0 keyed b.over)))
    code codes has)
    c.come.ensures.come
