use Rattle.std.proofs.Common.{◌≡◌, ◌+◌, ◌*◌, length, sym, ◌∙◌, subst}
use Rattle.std.specs.Int.{w16, to_be_bytes}
use Rattle.gaz_slots.specs.Bytes.{edited}
use Rattle.gaz_slots.specs.Edited.{Overwritten}
use Rattle.gaz_slots.proofs.Form.{form_says}
use Rattle.gaz_slots.proofs.Slots.{used_below, used_from}
use Rattle.gaz_slots.proofs.Overwritten.{over, overwritten}
use Rattle.gaz_slots.proofs.record_page.overwrite.Goals as goal

pub returns-clause-written : goal.returns-clause-written
returns-clause-written c number form used fits =
    let s = c.args.slot in
    let old = c.args.page.now in
    let bytes = c.args.bytes.now in
    let is : c.put_short.new.page ≡ over s bytes old =
    c.put_short.ensures.page
    ∙ (λ i. edited (18 + 4 * s) (to_be_bytes w16 (length bytes)) ((c.put.ensures.page ∙ (λ j. edited (c.from_of-from.ensures.value j) bytes old)) i)) in
    subst (Overwritten number s bytes old) (sym is)
    (overwritten number s bytes old (record {
      form = form_says number old form;
      slot = used_below old s used;
      used = used_from old s used;
      fits = fits;
    }))
