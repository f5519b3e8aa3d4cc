-- A life: runs, one after another, each on what the one before left. S is the type of a station, and view is what it tells.
use Rattle.std.specs.Prelude.{◌≡◌, ◌≢◌, ◌⊎◌, ℕ, suc, ⊤, List, [], Some, drop, length, IsTrue}
use Rattle.gaz_outside.specs.declared.station.Area.{Area}
use Rattle.gaz_outside.specs.Outside.{ShelfView}
use Rattle.gaz_outside.specs.Station.{StationView, Outcome}
use Rattle.gaz_plain.specs.Gazetteer.{Gazetteer}
use Rattle.gaz_reply.specs.Reply.{acks}
use Rattle.gaz_turns.specs.Turns.{Turn}
use Rattle.gaz_rows.specs.Holds.{AllHold}
use Rattle.gaz_turns.specs.Head.{Course, after_changes}
use Rattle.gaz_turns.specs.Steps.{RunKeeps}

-- a run: the shelf at its entry and at its exit, the lines that it was given, the station at both, and its status
pub record Run (S : Type 0) : Type 0 where
  pub shelf : ShelfView
  pub shelf_now : ShelfView
  pub lines : List (List ℕ)
  pub entry : S
  pub exit : S
  pub status : ℕ

-- What a text has behind that at entry.
abbrev pub printed_since : StationView → List ℕ → List ℕ
printed_since entry text = drop (length entry.printed) text

-- From this gazetteer legal turns answer the first of the run's lines, and with them the run keeps it.
abbrev pub KeepsFrom : {S : Type 0} → (S → StationView) → Gazetteer → Run S → Type 0
KeepsFrom view gaz run = RunKeeps run.shelf run.shelf_now run.lines (record { gaz = gaz }) (view run.entry) (view run.exit) run.status

-- Where the run finds one gazetteer, it keeps that one.
abbrev pub KeepsAny : {S : Type 0} → (S → StationView) → Run S → Type 0
KeepsAny view run = IsTrue (view run.exit).is_told × ((gaz : Gazetteer) → AllHold (view run.entry) gaz → KeepsFrom view gaz run)

-- the course from this gazetteer, with these turns
abbrev pub course_of : Gazetteer → List Turn → Course
course_of gaz turns = record { first = record { gaz = gaz }; turns = turns }

-- The next run begins on what a stop of the run left, with nothing pending. The text is what the run had printed.
pub record AfterStop (run_entry run_exit entry : StationView) (text : List ℕ) : Type 0 where
  pub outcome : Outcome
  pub left : run_exit.left_since run_entry.moment outcome
  pub printed : text ≡ printed_since run_entry outcome.text
  pub areas : (a : Area) (bytes : List ℕ) → entry.may_leave a bytes → bytes ≡ outcome.areas a

-- The run ended, and its station didn't fail. The next one begins on the station as it stands.
pub record AfterExit (run_entry run_exit : StationView) (status : ℕ) (entry : StationView) (text : List ℕ) : Type 0 where
  pub well : status ≢ 3
  pub printed : text ≡ printed_since run_entry run_exit.printed
  pub areas : (a : Area) (bytes : List ℕ) → entry.may_leave a bytes → run_exit.may_leave a bytes

-- How the next run follows on a run that had printed this text since its entry.
pub record FollowOn {S : Type 0} (view : S → StationView) (run : Run S) (next : S) : Type 0 where
  pub text : List ℕ
  pub how : AfterStop (view run.entry) (view run.exit) (view next) text ⊎ AfterExit (view run.entry) (view run.exit) run.status (view next) text

-- one run, or one run and those that follow on it
pub data Life (S : Type 0) : Type 0 where
  last_run : Run S → Life S
  more_runs : Run S → Life S → Life S

abbrev pub first_run : {S : Type 0} → Life S → Run S
first_run (last_run run) = run
first_run (more_runs run life) = run

-- each run follows on the one before
abbrev pub Follows : {S : Type 0} → (S → StationView) → Life S → Type 0
Follows view (last_run run) = ⊤
Follows view (more_runs run life) = FollowOn view run (first_run life).entry × Follows view life

-- the life begins on areas of length 0
abbrev pub BeginsEmpty : {S : Type 0} → (S → StationView) → Life S → Type 0
BeginsEmpty view life = (a : Area) (bytes : List ℕ) → (view (first_run life).entry).may_leave a bytes → bytes ≡ []

-- each run keeps what it finds
abbrev pub AllKeep : {S : Type 0} → (S → StationView) → Life S → Type 0
AllKeep view (last_run run) = KeepsAny view run
AllKeep view (more_runs run life) = KeepsAny view run × AllKeep view life

-- the course's gazetteer after as many accepted changes as the text acknowledges, or after one more
abbrev pub IsAcked : Course → List ℕ → Gazetteer → Type 0
IsAcked course text gaz = (after_changes (acks text) course ≡ Some gaz) ⊎ (after_changes (suc (acks text)) course ≡ Some gaz)

-- Each run begins with this gazetteer: the first with the one that is given, and each later one with that of the run before,
-- changed by its first k accepted changes, where k is its acknowledged number or one more.
abbrev pub GoesOn : {S : Type 0} (view : S → StationView) → Gazetteer → (life : Life S) → Follows view life → Type 0
GoesOn view gaz (last_run run) follows = AllHold (view run.entry) gaz × KeepsFrom view gaz run
GoesOn view gaz (more_runs run life) follows =
    AllHold (view run.entry) gaz
    × (kept : KeepsFrom view gaz run)
    × (next : Gazetteer) × IsAcked (course_of gaz kept.turns) follows.0.text next × GoesOn view next life follows.1
