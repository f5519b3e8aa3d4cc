use Rattle.std.proofs.Common.{arith}
use Rattle.gaz_slots.proofs.Form.{form_says}
use Rattle.gaz_slots.proofs.Slots.{free_from}
use Rattle.gaz_slots.proofs.Replaced.{replaced_cleared}
use Rattle.gaz_slots.proofs.record_page.put_before.Goals as goal

pub clear_slot-requires-clause-slot : goal.clear_slot-requires-clause-slot
clear_slot-requires-clause-slot c =
    let f = form_says c.requires.form.0 c.args.page.now c.requires.form.1 in
    omega (arith, c.requires.slot, f.slots, f.mark)

pub put_in_slot-requires : goal.put_in_slot-requires
put_in_slot-requires c =
    let number = c.requires.form.0 in
    let f = form_says number c.args.page.now c.requires.form.1 in
    let cleared = c.clear_slot.ensures.cleared number c.requires.form.1 c.requires.slot in
    record {
      size = c.clear_slot.ensures.size;
      slot = omega (arith, c.requires.slot, cleared.count);
      short = omega (arith, c.requires.short);
      slots = omega (arith, f.slots, cleared.count, cleared.mark);
      mark = omega (arith, f.mark, cleared.mark);
    }

pub returns-clause-replaced : goal.returns-clause-replaced
returns-clause-replaced c done number form =
    let cleared = c.clear_slot.ensures.cleared number form c.requires.slot in
    replaced_cleared number c.args.slot c.args.bytes.now c.args.page.now c.clear_slot.new.page c.put_in_slot.new.page cleared
    (c.put_in_slot.ensures.filled number cleared.form (λ below. free_from c.clear_slot.new.page c.args.slot below cleared.free) done)

pub returns-clause-no_room : goal.returns-clause-no_room
returns-clause-no_room c full =
    let cleared = c.clear_slot.ensures.cleared c.requires.form.0 c.requires.form.1 c.requires.slot in
    omega (arith, c.put_in_slot.ensures.no_room full, cleared.count, cleared.mark, c.requires.slot)
