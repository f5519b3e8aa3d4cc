use Rattle.std.proofs.Common.{sym, subst, ap, ◌≤◌, ◌+◌, ◌∙◌, [], ◌∷◌, length, arith}
use Rattle.std.specs.Prelude.{IsTrue, take, is_some}
use Rattle.gaz_heap.specs.Place.{record_at}
use Rattle.gaz_page.specs.declared.tree_root.Root.{Root}
use Rattle.gaz_plain.specs.Gazetteer.{table_of}
use Rattle.gaz_rows.specs.Laid.{IsLaid}
use Rattle.gaz_rows.proofs.Keyed.{some_inj}
use Rattle.gaz_rows.proofs.LaidReplaced.{laid_same}
use Rattle.gaz_rows.specs.Stepping.{StandsAt, most_between}
use Rattle.gaz_rows.proofs.Working.{map_ok}
use Rattle.gaz_rows.proofs.SteppedOver.{stands_same, record_here, change_rightly, map_err, at_same, ask_rightly, already_over, still_behind}
use Rattle.gaz_rows.proofs.store.RowStore.change_at.Goals as goal

pub returns-in-Ok-clause-stands : goal.returns-in-Ok-clause-stands
returns-in-Ok-clause-stands g c =
    map_ok c.change.result
    (λ st told gaz stands over at one.
    let v = g.P.Pages.view in
    let old = v c.args.self.now.pages in
    let mid = v c.record.new.self.pages in
    let root = c.args.self.now.root in
    let same = c.in-Ok.ensures.asked.same told in
    let told_mid : IsTrue mid.is_told = subst IsTrue (sym c.record.ensures.asked.counts.told) told in
    let here = record_here gaz old root stands c.args.kind c.args.line.now c.args.key.now one c.requires.accepted c.requires.keyed over c.args.place at in
    let stands_mid = stands_same [] gaz old mid root c.record.new.self.root same c.record.ensures.root stands in
    let was = take c.in-Ok.size c.record.new.buf in
    let stood : StandsAt old c.args.key.now stands.pairs c.args.place was = record { at = at; record_is = c.in-Ok.ensures.record told here } in
    let stands_at = at_same old mid c.args.key.now stands.pairs c.args.place was same stood in
    st told_mid gaz stands_mid over stands_at one)
    c.change.ensures.stands

pub returns-in-Ok-clause-idle : goal.returns-in-Ok-clause-idle
returns-in-Ok-clause-idle g c =
    map_ok c.change.result
    (λ idle told gaz stands over at one has.
    let v = g.P.Pages.view in
    let old = v c.args.self.now.pages in
    let mid = v c.record.new.self.pages in
    let root = c.args.self.now.root in
    let same = c.in-Ok.ensures.asked.same told in
    let told_mid : IsTrue mid.is_told = subst IsTrue (sym c.record.ensures.asked.counts.told) told in
    let here = record_here gaz old root stands c.args.kind c.args.line.now c.args.key.now one c.requires.accepted c.requires.keyed over c.args.place at in
    let stands_mid = stands_same [] gaz old mid root c.record.new.self.root same c.record.ensures.root stands in
    let was = take c.in-Ok.size c.record.new.buf in
    let stood : StandsAt old c.args.key.now stands.pairs c.args.place was = record { at = at; record_is = c.in-Ok.ensures.record told here } in
    let stands_at = at_same old mid c.args.key.now stands.pairs c.args.place was same stood in
    let already = already_over gaz mid c.record.new.self.root stands_mid c.args.kind c.args.line.now c.args.key.now one c.requires.accepted c.requires.keyed over c.args.place was stands_at has in
    still_behind old mid (v c.change.new.self.pages) root c.record.new.self.root c.change.new.self.root same c.record.ensures.asked.unchanged c.record.ensures.root (idle told_mid already))
    c.change.ensures.idle

pub returns-in-Ok-clause-fault : goal.returns-in-Ok-clause-fault
returns-in-Ok-clause-fault g c =
    map_err c.change.result
    (λ fault right told gaz stands over at one.
    let v = g.P.Pages.view in
    let old = v c.args.self.now.pages in
    let mid = v c.record.new.self.pages in
    let root = c.args.self.now.root in
    let same = c.in-Ok.ensures.asked.same told in
    let told_mid : IsTrue mid.is_told = subst IsTrue (sym c.record.ensures.asked.counts.told) told in
    let here = record_here gaz old root stands c.args.kind c.args.line.now c.args.key.now one c.requires.accepted c.requires.keyed over c.args.place at in
    let stands_mid = stands_same [] gaz old mid root c.record.new.self.root same c.record.ensures.root stands in
    let was = take c.in-Ok.size c.record.new.buf in
    let stood : StandsAt old c.args.key.now stands.pairs c.args.place was = record { at = at; record_is = c.in-Ok.ensures.record told here } in
    let stands_at = at_same old mid c.args.key.now stands.pairs c.args.place was same stood in
    change_rightly gaz mid c.record.new.self.root stands_mid c.args.kind c.args.line.now c.args.key.now one c.requires.accepted c.requires.keyed over c.args.place was stands_at told_mid fault right)
    c.change.ensures.fault

pub returns-in-Err-clause-fault : goal.returns-in-Err-clause-fault
returns-in-Err-clause-fault g c told gaz stands over at one =
    let here = record_here gaz (g.P.Pages.view c.args.self.now.pages) c.args.self.now.root stands c.args.kind c.args.line.now c.args.key.now one c.requires.accepted c.requires.keyed over c.args.place at in
    ask_rightly gaz c.args.kind c.args.line.now c.in-Err.fault c.from.result (c.in-Err.ensures.damaged told here) c.from.ensures

pub returns-in-Ok-clause-differ : goal.returns-in-Ok-clause-differ
returns-in-Ok-clause-differ g c =
    map_ok c.change.result
    (λ idle told puts low was is.
    let v = g.P.Pages.view in
    let old = v c.args.self.now.pages in
    let mid = v c.record.new.self.pages in
    let root = c.args.self.now.root in
    let same = c.in-Ok.ensures.asked.same told in
    let told_mid : IsTrue mid.is_told = subst IsTrue (sym c.record.ensures.asked.counts.told) told in
    let stood = c.in-Ok.ensures.record told (ap is_some is) in
    let was_is = some_inj was (take c.in-Ok.size c.record.new.buf) (sym is ∙ stood) in
    let first = c.record.ensures.asked.unchanged in
    let second = (c.change.ensures.differ puts (subst (λ (r : Root). r.height ≤ 6) (sym c.record.ensures.root) low)).changed in
    subst (λ l. (v c.change.new.self.pages).changed ≤ old.changed + most_between (table_of c.args.kind) l c.args.line.now) (sym was_is) (omega (arith, first, second)))
    c.change.ensures.idle

pub returns-in-Ok-clause-stays : goal.returns-in-Ok-clause-stays
returns-in-Ok-clause-stays g c =
    map_ok c.change.result
    (λ puts_there told puts was pairs places laid there is chain short.
    let v = g.P.Pages.view in
    let old = v c.args.self.now.pages in
    let mid = v c.record.new.self.pages in
    let root = c.args.self.now.root in
    let same = c.in-Ok.ensures.asked.same told in
    let told_mid : IsTrue mid.is_told = subst IsTrue (sym c.record.ensures.asked.counts.told) told in
    let stood = c.in-Ok.ensures.record told (ap is_some is) in
    let was_is = some_inj was (take c.in-Ok.size c.record.new.buf) (sym is ∙ stood) in
    let laid_mid = subst (λ (r : Root). IsLaid mid r pairs (r.heap ∷ []) places) (sym c.record.ensures.root) (laid_same old mid same root pairs (root.heap ∷ []) places laid) in
    puts_there told_mid puts pairs places laid_mid there (ap (λ p. record_at p c.args.place) same.pages ∙ stood) chain (subst (λ l. length c.args.line.now ≤ length l) was_is short))
    c.change.ensures.stays
