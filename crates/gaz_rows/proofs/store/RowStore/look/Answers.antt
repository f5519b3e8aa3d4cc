use Rattle.std.proofs.Common.{◌∙◌, sym, take, subst}
use Rattle.std.specs.Prelude.{IsTrue}
use Rattle.gaz_rows.proofs.Looked.{none_left, failed_soundly, line_coded, line_passed, record_given}
use Rattle.gaz_rows.proofs.store.RowStore.look.Goals as goal

pub returns-in-Ok-None-clause-looks : goal.returns-in-Ok-None-clause-looks
returns-in-Ok-None-clause-looks g c told left comes have =
    let v = g.P.Pages.view in
    none_left (v c.args.self.now.pages).page (v c.next.new.self.pages).page c.next.new.scan left (rw c.in-Ok-None.field-0-is at (c.in-Ok-None.ensures.gives told left comes))

pub returns-in-Err-clause-looks : goal.returns-in-Err-clause-looks
returns-in-Err-clause-looks g c told left comes have =
    let v = g.P.Pages.view in
    failed_soundly (v c.args.self.now.pages).page (v c.next.new.self.pages).page c.next.new.scan left c.in-Err.fault (c.in-Err.ensures.gives told left comes)

pub returns-in-Ok-clause-looks : goal.returns-in-Ok-clause-looks
returns-in-Ok-clause-looks g c told left comes have =
    let v = g.P.Pages.view in
    let told_mid : IsTrue (v c.next.new.self.pages).is_told = subst IsTrue (sym c.in-Ok-Some.ensures.asked.counts.told) told in
    line_coded c.args.code.now (v c.args.self.now.pages).page (v c.next.new.self.pages).page (v c.record.new.self.pages).page c.next.new.scan left
    c.in-Ok-Some.found (c.in-Ok-Some.ensures.asked.same told).pages have (rw c.in-Ok-Some.field-0-is at (c.in-Ok-Some.ensures.gives told left comes)) c.slot_of-slot.result c.slot_of-slot.ensures c.slot_of-slot.type_inv
    (take c.in-Ok.size c.record.new.buf) (c.in-Ok.ensures.record told_mid) (sym c.has_code.ensures ∙ c.if-has_code.true)

pub returns-in-Ok-2-clause-looks : goal.returns-in-Ok-2-clause-looks
returns-in-Ok-2-clause-looks g c told left comes have =
    let v = g.P.Pages.view in
    let told_mid : IsTrue (v c.next.new.self.pages).is_told = subst IsTrue (sym c.in-Ok-Some.ensures.asked.counts.told) told in
    line_passed c.args.code.now (v c.args.self.now.pages).page (v c.next.new.self.pages).page (v c.record.new.self.pages).page c.next.new.scan left
    c.in-Ok-Some.found (c.in-Ok-Some.ensures.asked.same told).pages have (rw c.in-Ok-Some.field-0-is at (c.in-Ok-Some.ensures.gives told left comes)) c.slot_of-slot.result c.slot_of-slot.ensures c.slot_of-slot.type_inv
    (take c.in-Ok.size c.record.new.buf) (c.in-Ok.ensures.record told_mid) (sym c.has_code.ensures ∙ c.if-has_code.false) (c.in-Ok.ensures.asked.same told_mid).pages

pub returns-in-Err-record-clause-looks : goal.returns-in-Err-record-clause-looks
returns-in-Err-record-clause-looks g c told left comes have =
    let v = g.P.Pages.view in
    let told_mid : IsTrue (v c.next.new.self.pages).is_told = subst IsTrue (sym c.in-Ok-Some.ensures.asked.counts.told) told in
    c.in-Err-record.ensures.damaged told_mid
    (record_given c.args.code.now (v c.args.self.now.pages).page (v c.next.new.self.pages).page (v c.record.new.self.pages).page c.next.new.scan left
    c.in-Ok-Some.found (c.in-Ok-Some.ensures.asked.same told).pages have (rw c.in-Ok-Some.field-0-is at (c.in-Ok-Some.ensures.gives told left comes)))
