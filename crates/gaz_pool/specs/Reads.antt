-- How calls that only read go one after another.
use Rattle.std.proofs.Common.{IsTrue, refl, sym, ◌∙◌, subst, arith}
use Rattle.gaz_outside.specs.Station.{StationView, Outcome, Leaves}
use Rattle.gaz_outside.proofs.Runs.{confined_start, confined_on}
use Rattle.gaz_redo.specs.Slots.{SameBytes}
use Rattle.gaz_redo.specs.Recovered.{OnlyRise}
use Rattle.gaz_pool.specs.Keeps.{OnlyReads}

-- before the first call
pub only_reads_start : (v : StationView) → (IsTrue v.is_told → (c : Outcome) → v.left_since v.moment c → Leaves v c) → OnlyReads v v
only_reads_start v now = record {
  areas = λ told. confined_start SameBytes (λ a d. refl) v (now told);
  counts = record { told = refl; faults = omega arith; reads = omega arith; writes = omega arith };
  writes = refl;
}

rise_on : (old mid new : StationView) → OnlyRise old mid → OnlyRise mid new → OnlyRise old new
rise_on old mid new first second =
    let f1 = first.faults in let f2 = second.faults in
    let r1 = first.reads in let r2 = second.reads in
    let w1 = first.writes in let w2 = second.writes in
    record { told = second.told ∙ first.told; faults = omega (arith, f1, f2); reads = omega (arith, r1, r2); writes = omega (arith, w1, w2) }

-- one run after another
pub only_reads_on : (old mid new : StationView) → OnlyReads old mid → OnlyReads mid new → OnlyReads old new
only_reads_on old mid new first second = record {
  areas = λ told. confined_on SameBytes (λ a d. refl) (λ a d e c f g. g ∙ f) old mid new (first.areas told) (second.areas (subst IsTrue (sym first.counts.told) told));
  counts = rise_on old mid new first.counts second.counts;
  writes = second.writes ∙ first.writes;
}
