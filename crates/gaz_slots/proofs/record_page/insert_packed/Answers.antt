use Rattle.std.proofs.Common.{List, ℕ, length, arith, sym, ap, refl, subst, ◌∙◌}
use Rattle.gaz_slots.specs.Edited.{Filled}
use Rattle.gaz_slots.proofs.Form.{form_says}
use Rattle.gaz_slots.proofs.Slots.{slots_fit, slot_small, filled_packed}
use Rattle.gaz_slots.proofs.RoomLeft.{packed_used, full_packed, full_unpacked}
use Rattle.gaz_slots.proofs.record_page.insert_packed.Goals as goal

pub pack-requires : goal.pack-requires
pack-requires c = record { size = c.requires.size; slots = slots_fit c.args.number c.args.page.now c.requires.form; out = refl }

pub find_free-slot-requires : goal.find_free-slot-requires
find_free-slot-requires c =
    let packs = c.pack.ensures.packed c.if-not-pack.false in
    record { size = c.pack.ensures.size; slots = slots_fit c.args.number c.pack.new.out packs.form }

pub put_in_slot-requires : goal.put_in_slot-requires
put_in_slot-requires c =
    let packs = c.pack.ensures.packed c.if-not-pack.false in
    let f = form_says c.args.number c.pack.new.out packs.form in
    record { size = c.pack.ensures.size; slot = c.find_free-slot.ensures.within; short = omega arith; slots = f.slots; mark = f.mark }

pub returns : goal.returns
returns c =
    let packs = c.pack.ensures.packed c.if-not-pack.false in
    let f = c.put_in_slot.ensures.filled c.args.number packs.form c.find_free-slot.ensures.free c.if-not-put_in_slot.false in
    let done = filled_packed c.args.number c.find_free-slot.result c.args.bytes.now c.args.page.now c.pack.new.out c.put_in_slot.new.page packs f.filled in
    record {
      filled = subst (λ (p : List ℕ). Filled c.args.number c.find_free-slot.result c.args.bytes.now c.args.page.now p) (sym c.copy_from_slice.ensures.after) done;
      least = λ k below. packed_used c.args.number c.args.page.now c.pack.new.out k packs (omega (arith, below, c.find_free-slot.ensures.within)) (c.find_free-slot.ensures.least k below);
      full = λ none_. absurd cc;
      same = λ none_. absurd cc;
      slot = slot_small c.args.number c.find_free-slot.result c.args.bytes.now c.pack.new.out c.put_in_slot.new.page f;
      size = ap (λ (p : List ℕ). length p) c.copy_from_slice.ensures.after ∙ c.put_in_slot.ensures.size;
    }

pub returns-then-not-pack-clause-full : goal.returns-then-not-pack-clause-full
returns-then-not-pack-clause-full c _ = full_unpacked (length c.args.bytes.now) c.args.page.now (c.pack.ensures.full c.if-not-pack.true c.requires.form)

pub returns-then-not-put_in_slot-clause-full : goal.returns-then-not-put_in_slot-clause-full
returns-then-not-put_in_slot-clause-full c _ =
    let packs = c.pack.ensures.packed c.if-not-pack.false in
    let f = c.find_free-slot.ensures in
    full_packed c.args.number (length c.args.bytes.now) c.args.page.now c.pack.new.out c.find_free-slot.result packs (record { within = f.within; free = f.free; least = f.least }) (c.put_in_slot.ensures.no_room c.if-not-put_in_slot.true)
