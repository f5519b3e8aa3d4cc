-- What one request does to a device, and what a run of requests does.
use Rattle.std.specs.Prelude.{◌≡◌, ◌⊎◌, ◌≤◌, ℕ, false, List, [], ◌∷◌, ◌++◌, map, Result, OnOk, IsTrue}
use Rattle.gaz_outside.specs.declared.station.Area.{Area}
use Rattle.gaz_outside.specs.Outside.{ShelfView, Prints}
use Rattle.gaz_outside.specs.Station.{StationView, Outcome, LeavesOnly, LeavesAreas, LeavesFront, HasFrontOf, AreaStays}
use Rattle.gaz_reply.specs.Reply.{reply_text, is_change}
use Rattle.gaz_rows.specs.Content.{Mirrors}
use Rattle.gaz_rows.specs.Holds.{AllHold}
use Rattle.gaz_turns.specs.Turns.{State, Turn, Answer, HaveFiles, IsLegal, replies}
use Rattle.gaz_turns.specs.Head.{IsFront, Keeps}

-- Time goes on: a stop since an earlier moment might have left what it might have left before, or what has P.
pub record Passes (old new : StationView) (P : Outcome → Type 0) : Type 0 where
  pub later : old.moment ≤ new.moment
  pub nothing_else : (t : ℕ) (c : Outcome) → t ≤ old.moment → new.left_since t c → old.left_since t c ⊎ P c

-- Where bytes are told, a stop at any moment leaves of the areas what it might have left before, and behind the text that was printed a
-- front of this piece.
abbrev pub IsCutIn : List ℕ → StationView → StationView → Type 0
IsCutIn piece old new = IsTrue old.is_told → Passes old new (LeavesFront piece old old)

-- Where bytes are told, every area stays, and a stop at no moment leaves more of the areas than before. No piece of them is written.
pub record AreasKept (old new : StationView) : Type 0 where
  pub each : IsTrue old.is_told → (a : Area) → AreaStays old new a
  pub time : IsTrue old.is_told → Passes old new (LeavesAreas old)
  pub unwritten : new.writes ≡ old.writes

-- The old gazetteer with nothing more printed, or the new one with a front of the reply.
abbrev pub IsBeforeOrAfter : State → Answer → StationView → Outcome → Type 0
IsBeforeOrAfter state answer v c =
    (Mirrors c.areas state.gaz × (c.text ≡ v.printed))
    ⊎ (Mirrors c.areas answer.state.gaz × HasFrontOf (reply_text answer.reply) v.printed c.text)

-- An answer is given: its change, if it tells one, is committed before a byte of the reply is printed. The whole reply is
-- printed, or a front of it where the station failed.
pub record IsGiven {A E : Type 0} (answer : Answer) (state : State) (old new : StationView) (result : Result A E) : Type 0 where
  pub printed : Prints (reply_text answer.reply) old new result
  -- Where all outcomes had one gazetteer, each stop leaves it or the next.
  pub moments : IsTrue old.is_told → AllHold old state.gaz → LeavesOnly old new (IsBeforeOrAfter state answer old)
  pub holds : OnOk result (IsTrue old.is_told → AllHold old state.gaz → AllHold new answer.state.gaz)
  -- So it is for the areas as they read.
  pub mirrors : OnOk result (IsTrue old.is_told → Mirrors old.bytes state.gaz → Mirrors new.bytes answer.state.gaz)
  -- Where no change is told, no area is written.
  pub stays : is_change answer.reply ≡ false → AreasKept old new

-- Some turns answer the first lines, each with the files that the shelf had then, and with them the run keeps the gazetteer.
pub record RunKeeps (shelf shelf_now : ShelfView) (lines : List (List ℕ)) (first : State) (entry exit : StationView) (status : ℕ) : Type 0 where
  pub turns : List Turn
  pub unanswered : List (List ℕ)
  pub asked : lines ≡ map (λ turn. turn.line) turns ++ unanswered
  pub files : HaveFiles shelf turns shelf_now
  pub legal : IsLegal first turns
  pub all : status ≡ 0 → unanswered ≡ []
  pub keeps : Keeps (record { first = first; turns = turns }) entry exit status
  -- At most the last reply is cut, and it is cut only where the station failed.
  pub cut_last : (earlier : List Turn) (last : Turn) → turns ≡ earlier ++ last ∷ [] → IsFront (replies first earlier) keeps.text
