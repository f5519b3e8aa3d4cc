use Rattle.std.proofs.Common.{◌≡◌, true, List, ℕ, arith, sym, subst}
use Rattle.std.specs.Prelude.{IfSome}
use Rattle.gaz_slots.specs.RecordPage.{is_record_page}
use Rattle.gaz_slots.specs.Edited.{Filled}
use Rattle.gaz_slots.proofs.Form.{form_says}
use Rattle.gaz_slots.proofs.Slots.{slots_fit, slot_small}
use Rattle.gaz_slots.proofs.RoomLeft.{used_in}
use Rattle.gaz_slots.proofs.record_page.insert.Goals as goal

pub find_free-slot-requires : goal.find_free-slot-requires
find_free-slot-requires c = record { size = c.requires.size; slots = slots_fit c.args.number c.args.page.now c.requires.form }

pub put_in_slot-requires : goal.put_in_slot-requires
put_in_slot-requires c =
    let f = form_says c.args.number c.args.page.now c.requires.form in
    record { size = c.requires.size; slot = c.find_free-slot.ensures.within; short = omega arith; slots = f.slots; mark = f.mark }

pub returns-then-put_in_slot : goal.returns-then-put_in_slot
returns-then-put_in_slot c =
    let f = c.put_in_slot.ensures.filled c.args.number c.requires.form c.find_free-slot.ensures.free c.if-put_in_slot.true in
    record {
      filled = f.filled;
      least = λ k below. used_in c.args.page.now k (omega (arith, below, c.find_free-slot.ensures.within)) (c.find_free-slot.ensures.least k below);
      full = λ none_. absurd cc;
      same = λ none_. absurd cc;
      slot = slot_small c.args.number c.find_free-slot.result c.args.bytes.now c.args.page.now c.put_in_slot.new.page f;
      size = c.put_in_slot.ensures.size;
    }

pub insert_packed-requires : goal.insert_packed-requires
insert_packed-requires c = record {
  form = subst (λ (p : List ℕ). is_record_page c.args.number p ≡ true) (sym (c.put_in_slot.ensures.full c.if-put_in_slot.false)) c.requires.form;
  size = c.put_in_slot.ensures.size;
  short = c.requires.short;
}

pub returns-clause-filled : goal.returns-clause-filled
returns-clause-filled c = subst (λ (p : List ℕ). IfSome c.insert_packed.result (λ slot. Filled c.args.number slot c.args.bytes.now p c.insert_packed.new.page)) (c.put_in_slot.ensures.full c.if-put_in_slot.false) c.insert_packed.ensures.filled
