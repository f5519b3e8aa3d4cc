use Rattle.std.proofs.Common.{◌≡◌, ◌+◌, ◌*◌, ◌-◌, length, sym, ◌∙◌, subst, arith}
use Rattle.std.specs.Int.{w16, to_be_bytes}
use Rattle.gaz_slots.specs.Bytes.{edited}
use Rattle.gaz_slots.specs.Edited.{Placed}
use Rattle.gaz_slots.proofs.Form.{form_says}
use Rattle.gaz_slots.proofs.Placed.{filled, placed}
use Rattle.gaz_slots.proofs.record_page.fill_slot.Goals as goal

pub returns-clause-placed : goal.returns-clause-placed
returns-clause-placed c number form free =
    let s = c.args.slot in
    let old = c.args.page.now in
    let bytes = c.args.bytes.now in
    let f = c.mark.result - length bytes in
    let is : c.put_short-3.new.page ≡ filled s f bytes old =
    c.put_short-3.ensures.page
    ∙ (λ i. edited (18 + 4 * s) (to_be_bytes w16 (length bytes)) ((c.put_short-2.ensures.page ∙ (λ j. edited (16 + 4 * s) (to_be_bytes w16 f) ((c.put_short.ensures.page ∙ (λ k. edited 12 (to_be_bytes w16 f) (c.put.ensures.page k))) j))) i)) in
    subst (Placed number s bytes old) (sym is)
    (placed number s f bytes old (record {
      form = form_says number old form;
      slot = c.requires.slot;
      free = free;
      fits = omega arith;
      room = omega arith;
    }))
