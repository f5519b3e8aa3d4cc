use Rattle.std.proofs.Common.{◌≡◌, true}
use Rattle.gaz_slots.specs.RecordPage.{all_below, is_apart}
use Rattle.gaz_slots.proofs.record_page.are_apart.Given as goal

abbrev pub invariant-loop-slot : goal.invariant-loop-slot
invariant-loop-slot l = all_below l.slot (λ slot. all_below slot (is_apart l.page slot)) ≡ true
