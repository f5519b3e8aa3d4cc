use Rattle.std.proofs.Common.{arith}
use Rattle.gaz_slots.proofs.Form.{form_says}
use Rattle.gaz_slots.specs.RecordPage.{mark_in}
use Rattle.gaz_slots.proofs.Packed.{packs_all}
use Rattle.gaz_slots.proofs.RoomLeft.{full_at}
use Rattle.gaz_slots.proofs.record_page.pack.Goals as goal

pub loop-slot-init : goal.loop-slot-init
loop-slot-init c = record {
  form = c.start_page.ensures.form;
  count = c.start_page.ensures.count;
  mark = omega (arith, c.start_page.ensures.mark);
  records = λ k below. absurd (omega arith);
}

pub pack_slot-requires-clause-slots : goal.pack_slot-requires-clause-slots
pack_slot-requires-clause-slots c = (form_says c.args.number c.loop-slot.out c.loop-slot.invariant.form).slots

pub pack_slot-requires-clause-mark : goal.pack_slot-requires-clause-mark
pack_slot-requires-clause-mark c = (form_says c.args.number c.loop-slot.out c.loop-slot.invariant.form).mark

pub loop-slot-preserved : goal.loop-slot-preserved
loop-slot-preserved c = c.pack_slot.ensures.packed c.if-not-pack_slot.false c.args.number c.loop-slot.invariant

pub returns-then-not-pack_slot-clause-full : goal.returns-then-not-pack_slot-clause-full
returns-then-not-pack_slot-clause-full c _ form =
    let i = c.loop-slot.invariant in
    let end = c.used_end-slot-end.ensures in
    full_at (mark_in c.loop-slot.out) c.loop-slot.slot c.args.page.now i.mark (c.pack_slot.ensures.full c.if-not-pack_slot.true c.args.number form) (omega (arith, end.last)) (omega (arith, end.last, end.within))

pub returns-clause-packed : goal.returns-clause-packed
returns-clause-packed c _ = packs_all c.args.number c.loop-slot.slot c.args.page.now c.loop-slot.out (omega (arith, c.used_end-slot-end.ensures.last)) (omega (arith, c.used_end-slot-end.ensures.within)) (λ k past below. c.used_end-slot-end.ensures.free k (omega arith) below) c.loop-slot.invariant
