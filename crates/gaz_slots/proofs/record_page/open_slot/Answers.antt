use Rattle.std.proofs.Common.{◌∙◌, arith}
use Rattle.gaz_slots.proofs.Filled.{opened_same, opened_new}
use Rattle.gaz_slots.proofs.record_page.open_slot.Goals as goal

pub returns-then-slot-count-clause-opened : goal.returns-then-slot-count-clause-opened
returns-then-slot-count-clause-opened c number form free = opened_new number c.args.slot c.args.page.now c.add_slot.new.page (c.if-slot-count.true ∙ c.count.ensures.value) (c.add_slot.ensures.added number form)

pub returns-else-slot-count-clause-opened : goal.returns-else-slot-count-clause-opened
returns-else-slot-count-clause-opened c number form free = opened_same number c.args.slot c.args.page.now form (free (omega arith)) (omega arith)
