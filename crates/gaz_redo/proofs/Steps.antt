-- Runs that only sync, and slots that an area has.
use Rattle.std.proofs.Common.{Bool, true, false, IsTrue, ◌+◌, ◌≡◌, ℕ, List, refl, sym, ◌∙◌, subst, arith}
use Rattle.gaz_outside.specs.declared.station.Area.{Area}
use Rattle.gaz_outside.specs.Station.{StationView, Outcome, Leaves, Stays, Confined, Counts}
use Rattle.gaz_outside.proofs.Runs.{confined_start, confined_stays, confined_weaker, confined_on}
use Rattle.gaz_redo.specs.Slots.{Slot, Scattered, SameBytes}
use Rattle.gaz_redo.proofs.Laid.{scattered_same, scattered_on}

pub bytes_stay : (old new : StationView) → ((c : Outcome) → old.left_since old.moment c → Leaves old c) → Stays old new → Confined SameBytes old new
bytes_stay old new only stays = confined_stays SameBytes (λ a d. refl) (λ a d e c first next. next ∙ first) old old new (confined_start SameBytes (λ a d. refl) old only) stays

pub then_stays : (ss : List Slot) (old mid new : StationView) → Confined (λ a. Scattered a ss) old mid → Confined SameBytes mid new → Confined (λ a. Scattered a ss) old new
then_stays ss old mid new so_far run =
    confined_on (λ a. Scattered a ss) (scattered_same ss) (scattered_on ss) old mid new so_far
    (confined_weaker SameBytes (λ a. Scattered a ss) (λ a d c is. subst (λ (f : List ℕ). Scattered a ss d f) (sym is) (scattered_same ss a d)) mid new run)

-- a stable area stays so
pub stays_stable : (mid new : StationView) (a : Area) → Confined SameBytes mid new → ((c : List ℕ) → mid.may_leave a c → c ≡ mid.bytes a) → (c : List ℕ) → new.may_leave a c → c ≡ new.bytes a
stays_stable mid new a run stable c may = let d = run.outcomes a c may in d.2 ∙ stable d.0 d.1 ∙ sym (run.bytes a)

-- what is told stays told
pub still : (a b : Bool) → b ≡ a → IsTrue a → IsTrue b
still a b is told = subst (λ (x : Bool). IsTrue x) (sym is) told

-- one run without a write after another
pub both_stay : (v0 mid new : StationView) → Confined SameBytes v0 mid → Confined SameBytes mid new → Confined SameBytes v0 new
both_stay v0 mid new run more = confined_on SameBytes (λ a d. refl) (λ a d e c first next. next ∙ first) v0 mid new run more

pub counts_on : (m n : ℕ) (old mid new : StationView) → Counts m 0 old mid → Counts n 0 mid new → Counts (m + n) 0 old new
counts_on m n old mid new first next = record {
  told = next.told ∙ first.told;
  reads_grow = omega (arith, first.reads_grow, next.reads_grow);
  reads = omega (arith, first.reads, next.reads);
  writes_grow = omega (arith, first.writes_grow, next.writes_grow);
  writes = omega (arith, first.writes, next.writes);
}

pub true_not_false : (b : Bool) → b ≡ true → b ≡ false → ⊥
true_not_false b is isnt = cc (is, isnt)
