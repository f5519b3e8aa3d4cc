use Rattle.gaz_slots.proofs.Falling.{Falling}
use Rattle.gaz_slots.proofs.record_page.are_falling.Given as goal

abbrev pub invariant-loop-slot : goal.invariant-loop-slot
invariant-loop-slot l = Falling l.page l.slot l.lowest
