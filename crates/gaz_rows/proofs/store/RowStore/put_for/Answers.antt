use Rattle.std.proofs.Common.{[], ◌∷◌, sym, subst}
use Rattle.std.specs.Prelude.{IsTrue}
use Rattle.std.proofs.lemmas.Result.{IfOk-weaker}
use Rattle.gaz_rows.specs.Laid.{all_but}
use Rattle.gaz_rows.proofs.LaidReplaced.{laid_same, room_same}
use Rattle.gaz_rows.proofs.PuttingFor.{put_there, put_elsewhere, sound_replace}
use Rattle.gaz_rows.proofs.store.RowStore.put_for.Goals as goal

pub returns-in-Ok-true-clause-put : goal.returns-in-Ok-true-clause-put
returns-in-Ok-true-clause-put g c told pairs places laid there =
    let v = g.P.Pages.view in
    put_there (v c.args.self.now.pages) (v c.replace.new.pages) c.args.self.now.root pairs places c.args.place c.args.bytes.now laid there (c.in-Ok-true.ensures.replaces told c.in-Ok-true.field-0-test)

pub returns-in-Err-clause-damaged : goal.returns-in-Err-clause-damaged
returns-in-Err-clause-damaged g c told pairs places laid there room =
    let v = g.P.Pages.view in
    let held = laid.held c.args.place there in
    sound_replace (v c.args.self.now.pages) c.args.place held.0 held.1.at c.in-Err.fault (c.in-Err.ensures.damaged told)

pub returns-in-Ok-clause-put : goal.returns-in-Ok-clause-put
returns-in-Ok-clause-put g c =
    let v = g.P.Pages.view in
    let root = c.args.self.now.root in
    IfOk-weaker c.add_record.result _ _
    (λ now added told pairs places laid there.
    let same = c.in-Ok-false.ensures.same told c.in-Ok-false.field-0-test in
    let told_mid = subst IsTrue (sym c.in-Ok-false.ensures.costs.counts.told) told in
    let told_gone = subst IsTrue (sym c.in-Ok.ensures.costs.counts.told) told_mid in
    let dropped = c.in-Ok.ensures.dropped told_mid pairs places (laid_same (v c.args.self.now.pages) (v c.replace.new.pages) same root pairs (root.heap ∷ []) places laid) there in
    put_elsewhere (v c.args.self.now.pages) (v c.replace.new.pages) (v c.drop_record.new.self.pages) (v c.add_record.new.self.pages) c.drop_record.new.self.root c.add_record.new.self.root
    pairs places c.args.bytes.now c.args.place now same dropped (added told_gone pairs (all_but c.args.place places) dropped.laid))
    c.add_record.ensures.added

pub returns-in-Ok-clause-damaged : goal.returns-in-Ok-clause-damaged
returns-in-Ok-clause-damaged g c told pairs places laid there room =
    let v = g.P.Pages.view in
    let root = c.args.self.now.root in
    let same = c.in-Ok-false.ensures.same told c.in-Ok-false.field-0-test in
    let told_mid = subst IsTrue (sym c.in-Ok-false.ensures.costs.counts.told) told in
    let told_gone = subst IsTrue (sym c.in-Ok.ensures.costs.counts.told) told_mid in
    let dropped = c.in-Ok.ensures.dropped told_mid pairs places (laid_same (v c.args.self.now.pages) (v c.replace.new.pages) same root pairs (root.heap ∷ []) places laid) there in
    c.add_record.ensures.damaged told_gone pairs (all_but c.args.place places) dropped.laid (dropped.room 34 (room_same (v c.args.self.now.pages) (v c.replace.new.pages) same 34 room))

pub returns-in-Err-drop_record-clause-damaged : goal.returns-in-Err-drop_record-clause-damaged
returns-in-Err-drop_record-clause-damaged g c told pairs places laid there room =
    let v = g.P.Pages.view in
    let root = c.args.self.now.root in
    let same = c.in-Ok-false.ensures.same told c.in-Ok-false.field-0-test in
    let told_mid = subst IsTrue (sym c.in-Ok-false.ensures.costs.counts.told) told in
    c.in-Err-drop_record.ensures.damaged told_mid pairs places (laid_same (v c.args.self.now.pages) (v c.replace.new.pages) same root pairs (root.heap ∷ []) places laid) there
