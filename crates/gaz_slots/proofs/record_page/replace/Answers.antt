use Rattle.std.proofs.Common.{◌≡◌, ◌<◌, ℕ, true, List, sym, subst, arith}
use Rattle.gaz_slots.specs.RecordPage.{count_in, is_record_page}
use Rattle.gaz_slots.specs.Edited.{Replaced}
use Rattle.gaz_slots.proofs.Form.{form_says}
use Rattle.gaz_slots.proofs.Slots.{slots_fit, used_below, used_from}
use Rattle.gaz_slots.proofs.record_page.replace.Goals as goal

pub size_of-requires-clause-slot : goal.size_of-requires-clause-slot
size_of-requires-clause-slot c = omega (arith, used_below c.args.page.now c.args.slot c.requires.used, slots_fit c.args.number c.args.page.now c.requires.form)

pub overwrite-requires-clause-slot : goal.overwrite-requires-clause-slot
overwrite-requires-clause-slot c = omega (arith, used_below c.args.page.now c.args.slot c.requires.used, slots_fit c.args.number c.args.page.now c.requires.form)

pub overwrite-requires-clause-room : goal.overwrite-requires-clause-room
overwrite-requires-clause-room c =
    let page = c.args.page.now in
    let s = c.args.slot in
    let w = (form_says c.args.number page c.requires.form).within s (used_below page s c.requires.used) (used_from page s c.requires.used) in
    omega (arith, w.high, c.if-bytes-size_of.true, c.size_of.ensures.value)

pub returns-then-bytes-size_of-clause-replaced : goal.returns-then-bytes-size_of-clause-replaced
returns-then-bytes-size_of-clause-replaced c _ =
    (c.overwrite.ensures.written c.args.number c.requires.form c.requires.used (omega (arith, c.if-bytes-size_of.true, c.size_of.ensures.value))).replaced

pub put_before-requires : goal.put_before-requires
put_before-requires c =
    let after = sym c.copy_from_slice.ensures.after in
    record {
      form = (c.args.number, subst (λ (p : List ℕ). is_record_page c.args.number p ≡ true) after c.requires.form);
      size = c.copy_from_slice.ensures.len;
      slot = subst (λ (p : List ℕ). c.args.slot < count_in p) after (used_below c.args.page.now c.args.slot c.requires.used);
      short = c.requires.short;
    }

pub returns-clause-replaced : goal.returns-clause-replaced
returns-clause-replaced c _ =
    let form = subst (λ (p : List ℕ). is_record_page c.args.number p ≡ true) (sym c.copy_from_slice.ensures.after) c.requires.form in
    let there = c.put_before.ensures.replaced c.if-not-put_before.false c.args.number form in
    subst (λ (p : List ℕ). Replaced c.args.number c.args.slot c.args.bytes.now p c.copy_from_slice-2.new.self) c.copy_from_slice.ensures.after
    (subst (λ (p : List ℕ). Replaced c.args.number c.args.slot c.args.bytes.now c.copy_from_slice.new.self p) (sym c.copy_from_slice-2.ensures.after) there)
