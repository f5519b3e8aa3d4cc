-- How a run of `trial` may end.
use Rattle.std.specs.Prelude.{◌≡◌, ◌≢◌, ◌⊎◌, ℕ, ◌++◌, List, [], codes, Bool, true, IsTrue, IsSome, IsNone}
use Rattle.gaz_outside.specs.Outside.{SourceView, ShelfView, StationView, HasRisen, RisesOnce, printed_of}
use Rattle.gaz_outside.specs.Station.{Outcome, LeavesOnly}
use Rattle.gaz_outside.specs.Listed.{file_named}
use Rattle.gaz_plain.specs.Gazetteer.{Gazetteer}
use Rattle.gaz_rows.specs.Content.{Mirrors}
use Rattle.gaz_rows.specs.Holds.{AllHold}
use Rattle.gaz_turns.specs.Head.{IsFront}
use Rattle.gaz_make.specs.Files.{made_files, request_text}
use Rattle.gaz_serve.specs.Serve.{Ends, HasPrinted}
use Rattle.gaz_serve.specs.Ran.{IsUnopened, ServeRan}

-- what is printed where a load was accepted before
abbrev pub trial_refusal : List ℕ
trial_refusal = codes "refused trial\n"

-- what a stop leaves where a trial is refused: behind the text at entry a front of the refusal, and the gazetteer that was there
pub record IsRefusedStop (gaz : Gazetteer) (entry : StationView) (c : Outcome) : Type 0 where
  pub text : List ℕ
  pub printed : c.text ≡ entry.printed ++ text
  pub front : IsFront text trial_refusal
  pub areas : Mirrors c.areas gaz

-- A trial was refused with status 1, or the station failed in its print, with status 3. Nothing is changed.
pub record TrialRefused (old new : StationView) (status : ℕ) : Type 0 where
  -- It is refused only where a load was accepted before.
  pub loaded : IsTrue old.is_told → (gaz : Gazetteer) → Mirrors old.bytes gaz → IsSome gaz.date
  pub ends : HasPrinted (printed_of old) (printed_of new) (Ends (record { status = 1; text = trial_refusal }) status)
  pub stops : IsTrue old.is_told → (gaz : Gazetteer) → AllHold old gaz → LeavesOnly old new (IsRefusedStop gaz old)
  pub holds : IsTrue old.is_told → (gaz : Gazetteer) → Mirrors old.bytes gaz → AllHold new gaz
  pub station_failed : status ≡ 3 → RisesOnce old.faults new.faults
  pub station_kept : status ≢ 3 → new.faults ≡ old.faults
  pub told : new.is_told ≡ old.is_told

-- A run over a mirror that may have to be empty: where it must be, it was, or nothing opened, or the run is refused.
abbrev pub ServedOrRefused : {S F T : Type 0} → (S → SourceView) → (F → ShelfView) → (T → StationView) → Bool → S → S → F → F → T → T → ℕ → Type 0
ServedOrRefused source shelf station only_empty s s_now f f_now old new status =
    (ServeRan source shelf station s s_now f f_now old new status
    × (IsTrue only_empty → IsTrue (station old).is_told → (gaz : Gazetteer) → Mirrors (station old).bytes gaz → IsNone gaz.date ⊎ IsUnopened s s_now f f_now (station old) (station new) status))
    ⊎ (IsTrue only_empty × TrialRefused (station old) (station new) status)

-- A shelf tells its files, never failed and never found others.
pub record IsStill (view : ShelfView) : Type 0 where
  pub told : IsTrue view.is_told
  pub earlier : view.earlier ≡ []
  pub faults : view.faults ≡ 0

-- A source tells its bytes and never failed.
pub record IsSound (view : SourceView) : Type 0 where
  pub told : IsTrue view.is_told
  pub faults : view.faults ≡ 0

-- A run over the requests and the files of a trial. The shelf never found others, so each turn has these; neither ever fails.
pub record TrialRan {S F T : Type 0} (source : S → SourceView) (shelf : F → ShelfView) (station : T → StationView) (start rows : ℕ) (old new : T) (status : ℕ) : Type 0 where
  pub requests : S
  pub requests_now : S
  pub asks : (source requests).left ≡ request_text
  pub sound : IsSound (source requests)
  pub sound_now : IsSound (source requests_now)
  pub files : F
  pub files_now : F
  pub has : (shelf files).files ≡ file_named (made_files start rows)
  pub still : IsStill (shelf files)
  pub still_now : IsStill (shelf files_now)
  pub ran : ServedOrRefused source shelf station true requests requests_now files files_now old new status
  -- The requests never fail and are few, so it ends with neither of these.
  pub others : (status ≢ 4) × (status ≢ 7)
  -- Without a fault of the station, with memory at the start and over areas that are a mirror it ends with 0, or is refused with 1.
  pub complete : (HasRisen (station old).faults (station new).faults → ⊥) → status ≢ 5 → status ≢ 6 → (status ≡ 0) ⊎ (status ≡ 1)

-- A trial over a station, or memory was wanting for its files, with status 5.
abbrev pub TrialEnds : {S F T : Type 0} → (S → SourceView) → (F → ShelfView) → (T → StationView) → ℕ → ℕ → T → T → ℕ → Type 0
TrialEnds source shelf station start rows old new status =
    TrialRan source shelf station start rows old new status ⊎ ((status ≡ 5) × (new ≡ old))
