use Rattle.std.proofs.Common.{arith}
use Rattle.std.proofs.lemmas.Bool.{leb-true}
use Rattle.gaz_slots.specs.RecordPage.{count_in}
use Rattle.gaz_slots.proofs.Falling.{falling_within, falling_apart}
use Rattle.gaz_slots.proofs.record_page.are_falling.Goals as goal

pub returns-clause-within : goal.returns-clause-within
returns-clause-within c is =
    let page = c.args.page.now in
    let marked = leb-true c.mark.result c.loop-slot.lowest is in
    falling_within page c.loop-slot.slot (count_in page) c.loop-slot.lowest c.loop-slot.invariant (omega arith) (omega (arith, marked, c.mark.ensures.value))

pub returns-clause-apart : goal.returns-clause-apart
returns-clause-apart c is =
    let page = c.args.page.now in
    falling_apart page c.loop-slot.slot (count_in page) c.loop-slot.lowest c.loop-slot.invariant (omega arith)
