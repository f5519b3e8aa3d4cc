-- What a run leaves of a mirror at every stop and at its exit.
use Rattle.std.specs.Prelude.{◌≡◌, ◌≢◌, ◌⊎◌, ℕ, suc, Bool, true, false, List, ◌++◌, take, length, ◌≤◌, Option, Some, ◌==◌}
use Rattle.std.specs.List.{list_any}
use Rattle.gaz_outside.specs.declared.station.Area.{Area}
use Rattle.gaz_outside.specs.Station.{StationView, Outcome, Leaves, LeavesOnly}
use Rattle.gaz_plain.specs.Gazetteer.{Gazetteer}
use Rattle.gaz_reply.specs.Reply.{acks}
use Rattle.gaz_rows.specs.Content.{Mirrors}
use Rattle.gaz_rows.specs.Holds.{AllHold, IsFound}
use Rattle.gaz_turns.specs.Turns.{State, Turn, replies, after, state_after}

-- the line has such a byte
abbrev pub has_byte : ℕ → List ℕ → Bool
has_byte c line = list_any (λ byte. byte == c) line

-- A line that is stored has a tab and no LF. So it is no acknowledgement, and it is one line where it is printed.
pub record IsStored (line : List ℕ) : Type 0 where
  pub tab : has_byte 9 line ≡ true
  pub one_line : has_byte 10 line ≡ false

-- What a run does: the state at entry, and its turns.
pub record Course : Type 0 where
  pub first : State
  pub turns : List Turn

-- the text of the replies of a course
abbrev pub replies_of : Course → List ℕ
replies_of course = replies course.first course.turns

-- the gazetteer after the first k accepted changes, if there are so many
abbrev pub after_changes : ℕ → Course → Option Gazetteer
after_changes k course = after k course.first course.turns

-- the run's last gazetteer
abbrev pub last_of : Course → Gazetteer
last_of course = (state_after course.first course.turns).gaz

-- The text is a front of the other.
abbrev pub IsFront : List ℕ → List ℕ → Type 0
IsFront text whole = (n : ℕ) × (n ≤ length whole) × (text ≡ take n whole)

-- The areas have the gazetteer after as many accepted changes as the text acknowledges, or after one more where there was one more.
pub record HoldsAcked (course : Course) (text : List ℕ) (areas : Area → List ℕ) : Type 0 where
  pub gaz : Gazetteer
  pub content : Mirrors areas gaz
  pub one_of : (after_changes (acks text) course ≡ Some gaz) ⊎ (after_changes (suc (acks text)) course ≡ Some gaz)

-- What every stop leaves: behind the text at entry a front of the replies, and a gazetteer that has what this front acknowledges.
pub record IsStop (course : Course) (entry : StationView) (c : Outcome) : Type 0 where
  pub text : List ℕ
  pub printed : c.text ≡ entry.printed ++ text
  pub front : IsFront text (replies_of course)
  pub holds : HoldsAcked course text c.areas

-- A run keeps the gazetteer: at every stop, and at its exit with this status. Status 3 says that the station failed.
pub record Keeps (course : Course) (entry exit : StationView) (status : ℕ) : Type 0 where
  -- for each outcome of each moment since entry
  pub stops : LeavesOnly entry exit (IsStop course entry)
  -- what was printed since entry
  pub text : List ℕ
  pub printed : exit.printed ≡ entry.printed ++ text
  pub front : IsFront text (replies_of course)
  pub whole : status ≢ 3 → text ≡ replies_of course
  -- for each outcome of the moment of exit
  pub ended : status ≢ 3 → AllHold exit (last_of course)
  pub cut : status ≡ 3 → (c : Outcome) → Leaves exit c → HoldsAcked course text c.areas

-- What a stop leaves, whatever was pending at entry: what some outcome of entry had, with nothing more printed, or a stop of the run.
abbrev pub IsFoundOrStop : Course → StationView → Outcome → Type 0
IsFoundOrStop course entry c = IsFound entry c ⊎ IsStop course entry c

-- What the exit leaves, behind this text: the last gazetteer, and with status 3 one that has what the text acknowledges.
pub record IsExit (course : Course) (exit : StationView) (text : List ℕ) (status : ℕ) : Type 0 where
  pub ended : status ≢ 3 → AllHold exit (last_of course)
  pub cut : status ≡ 3 → (c : Outcome) → Leaves exit c → HoldsAcked course text c.areas
