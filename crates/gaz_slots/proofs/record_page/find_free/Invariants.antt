use Rattle.std.proofs.Common.{◌≢◌, ◌<◌, ℕ}
use Rattle.gaz_slots.specs.RecordPage.{from_in}
use Rattle.gaz_slots.proofs.record_page.find_free.Given as goal

abbrev pub invariant-loop-slot : goal.invariant-loop-slot
invariant-loop-slot l = (k : ℕ) → k < l.slot → from_in l.page k ≢ 0
