use Rattle.std.proofs.Common.{[], ◌∙◌, sym, subst}
use Rattle.std.specs.Prelude.{IsTrue}
use Rattle.gaz_rows.proofs.SteppedOver.{stands_same}
use Rattle.gaz_kin.specs.declared.ids.Part.TheVariants.{Other}
use Rattle.gaz_kin.proofs.Tested.{next_same, no_next}
use Rattle.gaz_kin.proofs.above.look_linked.Goals as goal

pub returns-in-Ok-None-clause-looks : goal.returns-in-Ok-None-clause-looks
returns-in-Ok-None-clause-looks g c told gaz stands left comes = rw c.in-Ok-None.field-0-is at (c.in-Ok-None.ensures.gives told left comes)

pub returns-in-Err-clause-looks : goal.returns-in-Err-clause-looks
returns-in-Err-clause-looks g c told gaz stands left comes = c.in-Err.ensures.gives told left comes

pub returns-in-Ok-true-clause-looks : goal.returns-in-Ok-true-clause-looks
returns-in-Ok-true-clause-looks g c told gaz stands left comes =
    let v = g.P.Pages.view in
    let told_mid = subst IsTrue (sym c.in-Ok-Some.ensures.asked.counts.told) told in
    let mid = stands_same [] gaz (v c.args.store.now.pages) (v c.next_id.new.store.pages) c.args.store.now.root c.next_id.new.store.root (c.in-Ok-Some.ensures.asked.same told) c.in-Ok-Some.ensures.root stands in
    record {
      next = next_same Other (v c.next_id.new.store.pages).page (v c.fits_linked.new.store.pages).page c.next_id.new.scan left c.in-Ok-Some.id (c.in-Ok-true.ensures.asked.same told_mid).pages (rw c.in-Ok-Some.field-0-is at (c.in-Ok-Some.ensures.gives told left comes));
      test = sym (c.in-Ok-true.ensures.fits told_mid gaz mid) ∙ c.in-Ok-true.field-0-test;
    }

pub returns-in-Ok-false-clause-looks : goal.returns-in-Ok-false-clause-looks
returns-in-Ok-false-clause-looks g c told gaz stands left comes =
    let v = g.P.Pages.view in
    let told_mid = subst IsTrue (sym c.in-Ok-Some.ensures.asked.counts.told) told in
    let mid = stands_same [] gaz (v c.args.store.now.pages) (v c.next_id.new.store.pages) c.args.store.now.root c.next_id.new.store.root (c.in-Ok-Some.ensures.asked.same told) c.in-Ok-Some.ensures.root stands in
    record {
      next = next_same Other (v c.next_id.new.store.pages).page (v c.fits_linked.new.store.pages).page c.next_id.new.scan left c.in-Ok-Some.id (c.in-Ok-false.ensures.asked.same told_mid).pages (rw c.in-Ok-Some.field-0-is at (c.in-Ok-Some.ensures.gives told left comes));
      test = sym (c.in-Ok-false.ensures.fits told_mid gaz mid) ∙ c.in-Ok-false.field-0-test;
    }

pub returns-in-Err-fits_linked-clause-looks : goal.returns-in-Err-fits_linked-clause-looks
returns-in-Err-fits_linked-clause-looks g c told gaz stands left comes =
    let v = g.P.Pages.view in
    let told_mid = subst IsTrue (sym c.in-Ok-Some.ensures.asked.counts.told) told in
    let mid = stands_same [] gaz (v c.args.store.now.pages) (v c.next_id.new.store.pages) c.args.store.now.root c.next_id.new.store.root (c.in-Ok-Some.ensures.asked.same told) c.in-Ok-Some.ensures.root stands in
    c.in-Err-fits_linked.ensures.damaged told_mid gaz mid

pub returns-in-Ok-true-clause-ends : goal.returns-in-Ok-true-clause-ends
returns-in-Ok-true-clause-ends g c told gaz stands left comes none =
    absurd (no_next Other (g.P.Pages.view c.next_id.new.store.pages).page c.next_id.new.scan left c.in-Ok-Some.id none (rw c.in-Ok-Some.field-0-is at (c.in-Ok-Some.ensures.gives told left comes)))

pub returns-in-Ok-false-clause-ends : goal.returns-in-Ok-false-clause-ends
returns-in-Ok-false-clause-ends g c told gaz stands left comes none =
    absurd (no_next Other (g.P.Pages.view c.next_id.new.store.pages).page c.next_id.new.scan left c.in-Ok-Some.id none (rw c.in-Ok-Some.field-0-is at (c.in-Ok-Some.ensures.gives told left comes)))

pub returns-in-Err-fits_linked-clause-ends : goal.returns-in-Err-fits_linked-clause-ends
returns-in-Err-fits_linked-clause-ends g c told gaz stands left comes none =
    absurd (no_next Other (g.P.Pages.view c.next_id.new.store.pages).page c.next_id.new.scan left c.in-Ok-Some.id none (rw c.in-Ok-Some.field-0-is at (c.in-Ok-Some.ensures.gives told left comes)))
