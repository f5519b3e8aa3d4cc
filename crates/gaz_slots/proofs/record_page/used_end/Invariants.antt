use Rattle.std.proofs.Common.{◌≡◌, ◌≢◌, ◌≤◌, ◌<◌, ◌-◌, ℕ}
use Rattle.gaz_slots.specs.RecordPage.{from_in}
use Rattle.gaz_slots.specs.Room.{used_below}
use Rattle.gaz_slots.proofs.record_page.used_end.Given as goal

abbrev pub invariant-loop-slot : goal.invariant-loop-slot
invariant-loop-slot l = record {
  within : l.end ≤ l.slot;
  free : (k : ℕ) → l.end ≤ k → k < l.slot → from_in l.page k ≡ 0;
  used : 0 < l.end → from_in l.page (l.end - 1) ≢ 0;
  last : l.end ≡ used_below l.slot l.page;
}
