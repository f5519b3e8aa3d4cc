use Rattle.std.proofs.Common.{◌≡◌, true}
use Rattle.gaz_slots.specs.RecordPage.{all_below, is_within}
use Rattle.gaz_slots.proofs.record_page.are_within.Given as goal

abbrev pub invariant-loop-slot : goal.invariant-loop-slot
invariant-loop-slot l = all_below l.slot (is_within l.page) ≡ true
