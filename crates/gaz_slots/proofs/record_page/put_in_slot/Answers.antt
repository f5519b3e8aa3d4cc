use Rattle.gaz_slots.proofs.Filled.{filled_opened}
use Rattle.gaz_slots.proofs.record_page.put_in_slot.Goals as goal

pub returns-clause-filled : goal.returns-clause-filled
returns-clause-filled c number form free _ =
    let opened = c.open_slot.ensures.opened number form free in
    filled_opened number c.args.slot c.args.bytes.now c.args.page.now c.open_slot.new.page c.fill_slot.new.page opened (c.fill_slot.ensures.placed number opened.form opened.free)
