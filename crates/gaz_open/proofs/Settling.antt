-- An opening, from its parts.
use Rattle.std.proofs.Common.{IsTrue, ◌≡◌, ◌+◌, ◌≤◌, ℕ, ◌∙◌, arith}
use Rattle.gaz_outside.specs.declared.station.Area.{Area}
use Rattle.gaz_outside.specs.Station.{StationView, Confined, Counts, LeavesOnly}
use Rattle.gaz_redo.specs.Slots.{SameBytes}
use Rattle.gaz_redo.specs.Recovered.{OnlyRise, SlotsToRedo, StandsFor}
use Rattle.gaz_redo.proofs.Steps.{still, both_stay}
use Rattle.gaz_open.specs.Opens.{IsOpening, IsSettled, NothingToRedo}
use Rattle.gaz_open.proofs.Opened.{while_synced, while_recovered, while_read, same_slots, same_nothing}

-- what only syncs
pub opening_synced : (v0 v1 : StationView) → (IsTrue v0.is_told → Confined SameBytes v0 v1) → Counts 0 0 v0 v1 → v0.faults ≤ v1.faults → IsOpening v0 v1
opening_synced v0 v1 stays counts faults = record {
  counts = record { told = counts.told; faults = faults; reads = counts.reads_grow; writes = counts.writes_grow };
  moments = λ told. while_synced v0 v1 (stays told);
  printed = λ told. (stays told).printed;
  writes = λ told slots redo. let most = counts.writes in omega (arith, most);
  untouched = λ told nothing. stays told;
  unwritten = λ told nothing. let most = counts.writes in let least = counts.writes_grow in omega (arith, most, least);
}

-- and then recovers
pub opening_recovered : (v0 v1 v2 : StationView) → (IsTrue v0.is_told → Confined SameBytes v0 v1) → Counts 0 0 v0 v1 → v0.faults ≤ v1.faults → ((a : Area) → IsTrue v0.is_told → v0.may_leave a (v0.bytes a))
    → OnlyRise v1 v2 → (IsTrue v1.is_told → LeavesOnly v1 v2 (StandsFor v1)) → (IsTrue v1.is_told → v2.printed ≡ v1.printed) → (IsTrue v1.is_told → (slots : ℕ) → SlotsToRedo v1 slots → v2.writes ≤ v1.writes + slots + 1)
    → (IsTrue v1.is_told → NothingToRedo v1.bytes → Confined SameBytes v1 v2) → (IsTrue v1.is_told → NothingToRedo v1.bytes → v2.writes ≡ v1.writes) → IsOpening v0 v2
opening_recovered v0 v1 v2 stays counts faults may_stay rise moments printed writes untouched unwritten =
    let here : IsTrue v0.is_told → IsTrue v1.is_told = λ told. still v0.is_told v1.is_told counts.told told in
    record {
      counts = record { told = rise.told ∙ counts.told; faults = omega (arith, faults, rise.faults); reads = omega (arith, counts.reads_grow, rise.reads); writes = omega (arith, counts.writes_grow, rise.writes) };
      moments = λ told. while_recovered v0 v1 (stays told) v2 (λ a. may_stay a told) (moments (here told));
      printed = λ told. printed (here told) ∙ (stays told).printed;
      writes = λ told slots redo. let most = counts.writes in let redone = writes (here told) slots (same_slots v0 v1 (stays told) slots redo) in omega (arith, most, redone);
      untouched = λ told nothing. both_stay v0 v1 v2 (stays told) (untouched (here told) (same_nothing v0 v1 (stays told) nothing));
      unwritten = λ told nothing. let most = counts.writes in let least = counts.writes_grow in let same = unwritten (here told) (same_nothing v0 v1 (stays told) nothing) in omega (arith, most, least, same);
    }

-- and then reads
pub opening_read : (v0 v1 v2 : StationView) (n : ℕ) → IsOpening v0 v1 → ((a : Area) → IsTrue v0.is_told → v0.may_leave a (v0.bytes a)) → (IsTrue v0.is_told → IsSettled v0 v1) → (IsTrue v1.is_told → Confined SameBytes v1 v2) → OnlyRise v1 v2 → (IsTrue v1.is_told → Counts n 0 v1 v2) → IsOpening v0 v2
opening_read v0 v1 v2 n opening may_stay settled stays rise costs =
    let here : IsTrue v0.is_told → IsTrue v1.is_told = λ told. still v0.is_told v1.is_told opening.counts.told told in
    record {
      counts = record { told = rise.told ∙ opening.counts.told; faults = omega (arith, opening.counts.faults, rise.faults); reads = omega (arith, opening.counts.reads, rise.reads); writes = omega (arith, opening.counts.writes, rise.writes) };
      moments = λ told. while_read v0 v1 v2 (settled told) (stays (here told)) (λ a. may_stay a told) (opening.printed told) (opening.moments told);
      printed = λ told. (stays (here told)).printed ∙ opening.printed told;
      writes = λ told slots redo. let most = opening.writes told slots redo in let none = (costs (here told)).writes in omega (arith, most, none);
      untouched = λ told nothing. both_stay v0 v1 v2 (opening.untouched told nothing) (stays (here told));
      unwritten = λ told nothing. let same = opening.unwritten told nothing in let none = (costs (here told)).writes in let least = (costs (here told)).writes_grow in omega (arith, same, none, least);
    }
