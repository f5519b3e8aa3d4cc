-- A run of the program in which no mirror opened.
use Rattle.std.proofs.Common.{◌≡◌, ◌≢◌, ◌⊎◌, inl, inr, ◌^◌, ◌<◌, ◌≤◌, ℕ, Bool, IsTrue, Some, arith, refl, sym, subst}
use Rattle.gaz_outside.specs.Outside.{SourceView, ShelfView, StationView, RisesOnce, left_of}
use Rattle.gaz_outside.specs.Station.{Outcome, Leaves}
use Rattle.gaz_outside.proofs.Runs.{begins, confined_start, leaves_weaker}
use Rattle.gaz_open.proofs.Opened.{found_still}
use Rattle.gaz_redo.specs.Slots.{SameBytes}
use Rattle.gaz_plain.specs.Gazetteer.{Gazetteer}
use Rattle.gaz_rows.specs.Content.{Mirrors}
use Rattle.gaz_rows.specs.Holds.{IsFound}
use Rattle.gaz_open.specs.Opens.{IsOpening}
use Rattle.gaz_turns.proofs.Told.{same_printed}
use Rattle.gaz_turns.proofs.Underway.{ends_early}
use Rattle.gaz_serve.specs.Bounds.{OpensReadsWithin}
use Rattle.gaz_serve.specs.Ran.{IsUnopened, ServeRan}
use Rattle.gaz_serve.proofs.Answered.{answered, run_unopened, unlike}
use Rattle.gaz_serve.proofs.Taken.{taken_nothing}
use Rattle.gaz_serve.proofs.Telling.{tells_unopened}

-- no call yet
pub opens_nothing : (v : StationView) → ((c : Outcome) → IsTrue v.is_told → v.left_since v.moment c → Leaves v c) → IsOpening v v
opens_nothing v only = record {
  counts = record { told = refl; faults = omega arith; reads = omega arith; writes = omega arith };
  printed = λ told. refl;
  writes = λ told slots redo. omega arith;
  moments = λ told. begins v (IsFound v) (λ c left. let now = only c told left in (c, now, λ gaz. (λ m. m, λ m. m), now.text));
  untouched = λ told nothing. confined_start SameBytes (λ a d. refl) v (λ c left. only c told left);
  unwritten = λ told nothing. refl;
}

-- a status of these is no other
no_status : {A : Type 0} (status n : ℕ) → (status ≡ 3) ⊎ (status ≡ 5) ⊎ (status ≡ 6) → (n < 3) ⊎ (n ≡ 4) → status ≡ n → A
no_status status n why (inl few) is = unlike status n why is (λ e. absurd (omega (arith, few, e))) (λ e. absurd (omega (arith, few, e))) (λ e. absurd (omega (arith, few, e)))
no_status status n why (inr four) is = unlike status n why is (λ e. absurd (omega (arith, four, e))) (λ e. absurd (omega (arith, four, e))) (λ e. absurd (omega (arith, four, e)))

of_all : (status : ℕ) → (status ≡ 3) ⊎ (status ≡ 5) ⊎ (status ≡ 6) → (status ≡ 0) ⊎ (status ≡ 3) ⊎ (status ≡ 4) ⊎ (status ≡ 5) ⊎ (status ≡ 6) ⊎ (status ≡ 7)
of_all status (inl is) = inr (inl is)
of_all status (inr (inl is)) = inr (inr (inr (inl is)))
of_all status (inr (inr is)) = inr (inr (inr (inr (inl is))))

module _ {S F T : Type 0} (source : S → SourceView) (shelf : F → ShelfView) (station : T → StationView) (s : S) (f : F) (old new : T) where
  pub ran_unopened : (status : ℕ) → (status ≡ 3) ⊎ (status ≡ 5) ⊎ (status ≡ 6) → (shelf f).faults < 2 ^ 64 → IsOpening (station old) (station new)
      → ((t : ℕ) (c : Outcome) → IsTrue (station new).is_told → t ≤ (station new).moment → Leaves (station new) c → (station new).left_since t c)
      → (status ≡ 6 → IsTrue (station old).is_told → (gaz : Gazetteer) → Mirrors (station old).bytes gaz → ⊥)
      → (status ≡ 3 → RisesOnce (station old).faults (station new).faults) → (status ≢ 3 → (station new).faults ≡ (station old).faults)
      → OpensReadsWithin (Some 0) (station old) (station new) → ServeRan source shelf station s s f f old new status
  ran_unopened status why fits opening counts none failed kept reads =
      let printed = same_printed (station old) (station new) opening.counts.told opening.printed in
      let unopened : IsUnopened s s f f (station old) (station new) status = record { why = why; source = refl; shelf = refl; printed = printed } in
      record {
        answers = λ told shelf_told first mirrors.
            answered first (left_of (source s)) (left_of (source s)) (source s).faults (source s).faults (shelf f) (shelf f) (station old) (station new) (IsUnopened s s f f (station old) (station new) status) status
            (run_unopened first (left_of (source s)) (shelf f) (station old) (station new) status fits why printed
            (λ told holds. ends_early first.gaz (station old) (station new) status (leaves_weaker (station old) (station new) _ _ (λ c found. found_still (station old) first.gaz c holds found) (opening.moments told)) (opening.printed told) (λ t c le leaves. counts t c (still told) le leaves))
            (λ told nothing. record { bytes = (opening.untouched told nothing).bytes; writes = opening.unwritten told nothing }))
            reads (λ told slots redo. let most = opening.writes told slots redo in omega (arith, most)) (λ told. leaves_weaker (station old) (station new) _ _ (λ c found. inl found) (opening.moments told)) (inl unopened) failed (λ is. no_status status 4 why (inr refl) is) (of_all status why);
        failures = tells_unopened (shelf f) (station old) (station new) status fits printed;
        none = none;
        unopened = λ is. unopened;
        emptied = λ is. no_status status 0 why (inl (omega arith)) is;
        past = λ is. unlike status 7 why is (λ e. absurd (omega (arith, e))) (λ e. absurd (omega (arith, e))) (λ e. absurd (omega (arith, e)));
        taken = taken_nothing 65536 (left_of (source s));
        shelf_told = refl;
        numbers = inl (λ n. refl);
        station_failed = failed;
        station_kept = kept;
        source_failed = λ is. no_status status 4 why (inr refl) is;
        source_kept = λ is. refl;
        told = opening.counts.told;
        others = of_all status why;
      }
    where
      still : IsTrue (station old).is_told → IsTrue (station new).is_told
      still told = subst (λ (b : Bool). IsTrue b) (sym opening.counts.told) told
