-- A run that wants an empty mirror.
use Rattle.std.proofs.Common.{◌≡◌, ◌≢◌, ◌⊎◌, inl, inr, ◌^◌, ◌<◌, ◌≤◌, ◌&&◌, ◌∙◌, ℕ, Bool, true, false, List, [], ◌++◌, take, IsTrue, append-nil, arith, refl, sym, ap, subst}
use Rattle.std.specs.Prelude.{IsSome, IsNone, is_some, Some, None, Option, option_map}
use Rattle.gaz_outside.specs.declared.station.Area.{Area}
use Rattle.gaz_outside.specs.Outside.{SourceView, ShelfView, StationView, RisesOnce, printed_of}
use Rattle.gaz_outside.specs.Station.{Outcome, Leaves, LeavesFront, Appends}
use Rattle.gaz_outside.proofs.Runs.{goes_on, leaves_weaker}
use Rattle.gaz_plain.specs.Gazetteer.{Gazetteer}
use Rattle.gaz_rows.specs.Content.{Mirrors}
use Rattle.gaz_rows.specs.Holds.{AllHold, IsFound}
use Rattle.gaz_open.specs.Opens.{IsOpening}
use Rattle.gaz_page.specs.declared.tree_root.Root.{Root}
use Rattle.gaz_pages.specs.Fits.{Fits}
use Rattle.gaz_install.proofs.Named.{dated_by}
use Rattle.gaz_open.proofs.Opened.{found_still}
use Rattle.gaz_turns.proofs.Told.{mirrors_now, same_printed}
use Rattle.gaz_serve.specs.Serve.{Ends, HasPrinted}
use Rattle.gaz_serve.specs.Bounds.{OpensReadsWithin}
use Rattle.gaz_serve.specs.Trial.{ServedOrRefused, TrialRefused, IsRefusedStop, trial_refusal}
use Rattle.gaz_serve.proofs.Unopened.{ran_unopened}

module _ {S F T : Type 0} (source : S → SourceView) (shelf : F → ShelfView) (station : T → StationView) (only_empty : Bool) (s : S) (f : F) (old new : T) where
  pub served_unopened : (status : ℕ) → (status ≡ 3) ⊎ (status ≡ 5) ⊎ (status ≡ 6) → (shelf f).faults < 2 ^ 64 → IsOpening (station old) (station new)
      → ((t : ℕ) (c : Outcome) → IsTrue (station new).is_told → t ≤ (station new).moment → Leaves (station new) c → (station new).left_since t c)
      → (status ≡ 6 → IsTrue (station old).is_told → (gaz : Gazetteer) → Mirrors (station old).bytes gaz → ⊥)
      → (status ≡ 3 → RisesOnce (station old).faults (station new).faults) → (status ≢ 3 → (station new).faults ≡ (station old).faults)
      → OpensReadsWithin (Some 0) (station old) (station new) → ServedOrRefused source shelf station only_empty s s f f old new status
  served_unopened status why fits opening counts none failed kept reads =
      inl ((
        ran_unopened source shelf station s f old new status why fits opening counts none failed kept reads,
        λ only told gaz mirrors. inr (record { why = why; source = refl; shelf = refl; printed = same_printed (station old) (station new) opening.counts.told opening.printed }),
      ))

none_of : (root : Option Root) (only_empty : Bool) → (only_empty && is_some root) ≡ false → IsTrue only_empty → IsNone (option_map (λ (r : Root). r.day) root)
none_of None only_empty is only = refl
none_of (Some root) true is only = absurd (cc)
none_of (Some root) false is only = absurd (cc)

some_of : (root : Option Root) (only_empty : Bool) → (only_empty && is_some root) ≡ true → IsSome (option_map (λ (r : Root). r.day) root) × IsTrue only_empty
some_of None true is = absurd (cc)
some_of None false is = absurd (cc)
some_of (Some root) true is = (refl, refl)
some_of (Some root) false is = absurd (cc)

-- a mirror that isn't in the way is empty
pub is_fresh : (only_empty : Bool) (old mid : StationView) (root : Option Root) → mid.is_told ≡ old.is_told → (IsTrue mid.is_told → Fits root mid)
    → (IsTrue old.is_told → (gaz : Gazetteer) → Mirrors old.bytes gaz → Mirrors mid.bytes gaz) → (only_empty && is_some root) ≡ false
    → IsTrue only_empty → IsTrue old.is_told → (gaz : Gazetteer) → Mirrors old.bytes gaz → IsNone gaz.date
is_fresh only_empty old mid root same fits holds test only told gaz mirrors =
    subst (λ (date : Option ℕ). IsNone date) (sym (dated_by mid root gaz (fits (subst (λ (b : Bool). IsTrue b) (sym same) told)) (holds told gaz mirrors))) (none_of root only_empty test only)

module _ (only_empty : Bool) (old mid new : StationView) (root : Option Root) (status : ℕ)
    (opening : IsOpening old mid)
    (fits : IsTrue mid.is_told → Fits root mid)
    (holds : IsTrue old.is_told → (gaz : Gazetteer) → Mirrors old.bytes gaz → AllHold mid gaz)
    (stay_old : IsTrue old.is_told → (a : Area) → old.may_leave a (old.bytes a))
    (stay_mid : IsTrue mid.is_told → (a : Area) → mid.may_leave a (mid.bytes a))
    (faults : mid.faults ≡ old.faults)
    (ends : HasPrinted (printed_of mid) (printed_of new) (Ends (record { status = 1; text = trial_refusal }) status))
    (appends : IsTrue mid.is_told → Appends trial_refusal mid new)
    (same : new.is_told ≡ mid.is_told)
    (failed : status ≡ 3 → RisesOnce mid.faults new.faults)
    (kept : status ≢ 3 → new.faults ≡ mid.faults) where
  here : IsTrue old.is_told → IsTrue mid.is_told
  here told = subst (λ (b : Bool). IsTrue b) (sym opening.counts.told) told

  found : (gaz : Gazetteer) → AllHold old gaz → (c : Outcome) → IsFound old c → IsRefusedStop gaz old c
  found gaz all c left = let still = found_still old gaz c all left in record {
    text = [];
    printed = still.1 ∙ sym (append-nil old.printed);
    front = (0, omega arith, refl);
    areas = still.0;
  }

  cut : IsTrue old.is_told → (gaz : Gazetteer) → AllHold mid gaz → (c : Outcome) → LeavesFront trial_refusal mid new c → IsRefusedStop gaz old c
  cut told gaz all c front = record {
    text = take front.text.0 trial_refusal;
    printed = front.text.2 ∙ ap (λ (xs : List ℕ). xs ++ take front.text.0 trial_refusal) (opening.printed told);
    front = (front.text.0, front.text.1, refl);
    areas = all (record { areas = c.areas; text = mid.printed }) (record { areas = λ a. ((appends (here told)).areas a).outcomes (c.areas a) (front.areas a); text = refl });
  }

  pub refused : (only_empty && is_some root) ≡ true → IsTrue only_empty × TrialRefused old new status
  refused test = let some = some_of root only_empty test in (
    some.1,
    record {
      loaded = λ told gaz mirrors. subst (λ (date : Option ℕ). IsSome date) (sym (dated_by mid root gaz (fits (here told)) (mirrors_now mid gaz (stay_mid (here told)) (holds told gaz mirrors)))) some.0;
      ends = subst (λ (o : Option (List ℕ)). HasPrinted o (printed_of new) (Ends (record { status = 1; text = trial_refusal }) status)) (same_printed old mid opening.counts.told opening.printed) ends;
      stops = λ told gaz all.
          goes_on old mid new (IsRefusedStop gaz old) (LeavesFront trial_refusal mid new)
          (leaves_weaker old mid (IsFound old) (IsRefusedStop gaz old) (found gaz all) (opening.moments told))
          (appends (here told)).time
          (cut told gaz (holds told gaz (mirrors_now old gaz (stay_old told) all)));
      holds = λ told gaz mirrors c leaves. holds told gaz mirrors (record { areas = c.areas; text = mid.printed }) (record { areas = λ a. ((appends (here told)).areas a).outcomes (c.areas a) (leaves.areas a); text = refl });
      station_failed = λ is. subst (λ (n : ℕ). RisesOnce n new.faults) faults (failed is);
      station_kept = λ is. kept is ∙ faults;
      told = same ∙ opening.counts.told;
    },
  )
