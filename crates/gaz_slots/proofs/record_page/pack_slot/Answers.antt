use Rattle.std.proofs.Common.{◌≡◌, ◌+◌, ◌-◌, ◌∙◌, sym, take, drop, arith}
use Rattle.gaz_slots.proofs.Form.{form_says}
use Rattle.gaz_slots.proofs.Packed.{packs_none, packs_record}
use Rattle.gaz_slots.proofs.record_page.pack_slot.Goals as goal

pub returns-then-from-eq0-clause-packed : goal.returns-then-from-eq0-clause-packed
returns-then-from-eq0-clause-packed c done number first =
    packs_none number c.args.slot c.args.page.now c.args.out.now c.put_none.new.page (sym c.from_of-from.ensures.value ∙ c.if-from-eq0.true) (c.put_none.ensures.added done number first.form) first

pub returns-clause-packed : goal.returns-clause-packed
returns-clause-packed c done number first =
    let page = c.args.page.now in
    let from = c.from_of-from.ensures.value in
    let size = c.size_of.ensures.value in
    let span : c.from_of-from.result + c.size_of.result - c.from_of-from.result ≡ c.size_of.result = omega arith in
    packs_record number c.args.slot page (take (c.from_of-from.result + c.size_of.result - c.from_of-from.result) (drop c.from_of-from.result page)) c.args.out.now c.put_in_slot.new.page c.requires.slot
    (λ is. c.if-from-eq0.false (from ∙ is))
    (omega (arith, from, size, c.if-end-gt-PAGE.false, c.requires.size))
    (λ i. take ((span ∙ size) i) (drop (from i) page))
    (c.put_in_slot.ensures.filled number first.form (λ below. absurd (omega arith)) done)
    first

pub returns-then-end-gt-PAGE-clause-full : goal.returns-then-end-gt-PAGE-clause-full
returns-then-end-gt-PAGE-clause-full c _ number form =
    let page = c.args.page.now in
    let from = c.from_of-from.ensures.value in
    let w = (form_says number page form).within c.args.slot c.requires.slot (λ is. c.if-from-eq0.false (from ∙ is)) in
    absurd (omega (arith, w.high, from, c.size_of.ensures.value, c.if-end-gt-PAGE.true))
