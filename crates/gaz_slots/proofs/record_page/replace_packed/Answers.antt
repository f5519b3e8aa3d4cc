use Rattle.std.proofs.Common.{◌+◌, ◌≤◌, ℕ, List, length, sym, subst, arith}
use Rattle.gaz_slots.specs.RecordPage.{from_in}
use Rattle.gaz_slots.specs.Edited.{Replaced}
use Rattle.gaz_slots.proofs.Form.{form_says}
use Rattle.gaz_slots.proofs.Slots.{slots_fit, used_below, used_from}
use Rattle.gaz_slots.proofs.Replaced.{emptied_of, full_other, slot_packed, replaced_packed}
use Rattle.gaz_slots.proofs.record_page.replace_packed.Goals as goal

pub overwrite-requires-clause-slot : goal.overwrite-requires-clause-slot
overwrite-requires-clause-slot c =
    let below = used_below c.args.page.now c.args.slot c.requires.used in
    omega (arith, below, slots_fit c.args.number c.args.page.now c.requires.form)

pub overwrite-requires-clause-room : goal.overwrite-requires-clause-room
overwrite-requires-clause-room c =
    let page = c.args.page.now in
    let s = c.args.slot in
    let w = (form_says c.args.number page c.requires.form).within s (used_below page s c.requires.used) (used_from page s c.requires.used) in
    subst (λ (p : List ℕ). from_in p s + 0 ≤ 4096) (sym c.copy_from_slice.ensures.after) (omega (arith, w.high))

pub pack-requires-clause-slots : goal.pack-requires-clause-slots
pack-requires-clause-slots c =
    let o = emptied_of c.args.number c.args.slot c.args.page.now c.copy_from_slice.new.self c.overwrite.new.page c.copy_from_slice.ensures.after c.requires.form c.requires.used c.overwrite.ensures.written in
    slots_fit c.args.number c.overwrite.new.page o.replaced.form

pub returns-then-not-pack-clause-full : goal.returns-then-not-pack-clause-full
returns-then-not-pack-clause-full c _ =
    let page = c.args.page.now in
    let s = c.args.slot in
    let o = emptied_of c.args.number s page c.copy_from_slice.new.self c.overwrite.new.page c.copy_from_slice.ensures.after c.requires.form c.requires.used c.overwrite.ensures.written in
    let none_ = c.pack.ensures.full c.if-not-pack.true o.replaced.form in
    full_other c.args.number s (length c.args.bytes.now) page c.overwrite.new.page o (used_below page s c.requires.used) (used_from page s c.requires.used) (omega (arith, none_))

pub put_before-requires : goal.put_before-requires
put_before-requires c =
    let o = emptied_of c.args.number c.args.slot c.args.page.now c.copy_from_slice.new.self c.overwrite.new.page c.copy_from_slice.ensures.after c.requires.form c.requires.used c.overwrite.ensures.written in
    let packs = c.pack.ensures.packed c.if-not-pack.false in
    record {
      form = (c.args.number, packs.form);
      size = c.pack.ensures.size;
      slot = slot_packed c.args.number c.args.slot c.args.page.now c.overwrite.new.page c.pack.new.out o packs;
      short = c.requires.short;
    }

pub returns-then-not-put_before-clause-full : goal.returns-then-not-put_before-clause-full
returns-then-not-put_before-clause-full c _ =
    let page = c.args.page.now in
    let s = c.args.slot in
    let o = emptied_of c.args.number s page c.copy_from_slice.new.self c.overwrite.new.page c.copy_from_slice.ensures.after c.requires.form c.requires.used c.overwrite.ensures.written in
    let packs = c.pack.ensures.packed c.if-not-pack.false in
    let none_ = c.put_before.ensures.no_room c.if-not-put_before.true in
    full_other c.args.number s (length c.args.bytes.now) page c.overwrite.new.page o (used_below page s c.requires.used) (used_from page s c.requires.used) (omega (arith, none_, packs.mark, packs.count))

pub returns-clause-replaced : goal.returns-clause-replaced
returns-clause-replaced c _ =
    let o = emptied_of c.args.number c.args.slot c.args.page.now c.copy_from_slice.new.self c.overwrite.new.page c.copy_from_slice.ensures.after c.requires.form c.requires.used c.overwrite.ensures.written in
    let packs = c.pack.ensures.packed c.if-not-pack.false in
    let there = c.put_before.ensures.replaced c.if-not-put_before.false c.args.number packs.form in
    subst (λ (p : List ℕ). Replaced c.args.number c.args.slot c.args.bytes.now c.args.page.now p) (sym c.copy_from_slice-2.ensures.after)
    (replaced_packed c.args.number c.args.slot c.args.bytes.now c.args.page.now c.overwrite.new.page c.pack.new.out c.put_before.new.page o packs there)
