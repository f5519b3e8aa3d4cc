use Rattle.gaz_slots.specs.Edited.{PacksFirst}
use Rattle.gaz_slots.proofs.record_page.pack.Given as goal

abbrev pub invariant-loop-slot : goal.invariant-loop-slot
invariant-loop-slot l = PacksFirst l.number l.slot l.page l.out
