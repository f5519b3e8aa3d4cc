use Rattle.std.proofs.Common.{◌≡◌, ◌+◌, ◌*◌, sym, ◌∙◌, subst}
use Rattle.std.specs.Int.{w16, to_be_bytes}
use Rattle.gaz_slots.specs.Bytes.{edited}
use Rattle.gaz_slots.specs.Edited.{Cleared}
use Rattle.gaz_slots.proofs.Form.{form_says}
use Rattle.gaz_slots.proofs.Emptied.{emptied, cleared}
use Rattle.gaz_slots.proofs.record_page.clear_slot.Goals as goal

pub returns-clause-cleared : goal.returns-clause-cleared
returns-clause-cleared c number form below =
    let s = c.args.slot in
    let old = c.args.page.now in
    let is : c.put_short-2.new.page ≡ emptied s old = c.put_short-2.ensures.page ∙ (λ i. edited (18 + 4 * s) (to_be_bytes w16 0) (c.put_short.ensures.page i)) in
    subst (Cleared number s old) (sym is) (cleared number s old (form_says number old form) below)
