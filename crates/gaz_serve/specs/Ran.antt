-- How a run of requests may end.
use Rattle.std.specs.Prelude.{◌≡◌, ◌≢◌, ◌≤◌, ℕ, length, ◌+◌, ◌-◌, ◌^◌, ◌⊎◌, min, Bool, true, false, List, [], ◌∷◌, ◌++◌, map, count_by, Option, IfSome, IsTrue, Some, is_some, option_map, unwrap_or, flat_map}
use Rattle.std.specs.List.{AllByRecursion}
use Rattle.std.specs.Io.KnownBytes.{append_known}
use Rattle.gaz_outside.specs.declared.station.Area.{Area}
use Rattle.gaz_outside.specs.Outside.{SourceView, ShelfView, StationView, HasRisen, RisesOnce, SameNumbers, NoneOpen, IsPrefix, left_of, printed_of}
use Rattle.gaz_outside.specs.Station.{LeavesOnly}
use Rattle.gaz_plain.specs.Gazetteer.{Gazetteer}
use Rattle.gaz_plain.specs.Load.{Files}
use Rattle.gaz_rows.specs.Content.{Mirrors}
use Rattle.gaz_rows.specs.Holds.{AllHold}
use Rattle.gaz_open.specs.Opens.{NothingToRedo}
use Rattle.gaz_turns.specs.Turns.{State, Turn, Verdict, plain, memory, shelf, HaveFiles, HasOnly, IsLegal, replies, has_change, shelf_refusals, blamed_last}
use Rattle.gaz_turns.specs.Head.{Keeps, IsFoundOrStop, IsExit}
use Rattle.gaz_num.specs.Pieces.{ended_lines, is_too_long}
use Rattle.gaz_num.specs.Words.{file_text}
use Rattle.gaz_reply.specs.Reply.{Reply, reply_text}
use Rattle.gaz_serve.specs.Bounds.{ReadsWithin, WritesWithin, OpensReadsWithin, OpensWritesWithin, most_read_in, most_written_in}
use Rattle.gaz_serve.specs.Step.{shelf_file}
use Rattle.gaz_serve.specs.Serve.{Given, Taken}

-- the request was refused for want of memory
abbrev pub is_memory : Verdict → Bool
is_memory plain = false
is_memory memory = true
is_memory (shelf file) = false

-- how many requests were refused for want of memory
abbrev pub memory_refusals : List Turn → ℕ
memory_refusals turns = count_by (λ turn. is_memory turn.verdict) turns

-- the lines that were asked
abbrev pub asked : List Turn → List (List ℕ)
asked turns = map (λ turn. turn.line) turns

-- A count of faults rose by so many, up to the last value of its counter.
abbrev pub RisesBy : ℕ → ℕ → ℕ → Type 0
RisesBy n before now = now ≡ min (before + n) (2 ^ 64 - 1)

-- The text is a front of the replies, and at most the last reply is cut.
pub record IsCut (first : State) (turns : List Turn) (text : List ℕ) : Type 0 where
  pub front : IsPrefix text (replies first turns)
  pub begun : (earlier : List Turn) (last : Turn) → turns ≡ earlier ++ last ∷ [] → IsPrefix (replies first earlier) text

-- Each area has the bytes that it had, and no piece was written.
pub record IsUnwritten (old new : StationView) : Type 0 where
  pub bytes : (a : Area) → new.bytes a ≡ old.bytes a
  pub writes : new.writes ≡ old.writes

-- So many lines were answered, and when the source was asked the last time, no more lines that an LF ends had been taken.
pub record IsHeard (room : ℕ) (old new : Option (List ℕ)) (answered : ℕ) : Type 0 where
  pub taken : Taken room old new
  pub enough : length (ended_lines taken.front) ≤ answered

-- Turns from a first state on, each met as it may be, answer the first of the lines that the source gives, and their replies
-- were printed. At every stop and at the exit the areas have what the printed text acknowledges.
pub record RunAnswers (first : State) (bytes bytes_now : Option (List ℕ)) (shelf shelf_now : ShelfView) (station station_now : StationView) (status : ℕ) : Type 0 where
  pub given : Given bytes
  pub turns : List Turn
  pub unanswered : List (List ℕ)
  pub lines_are : given.lines ≡ asked turns ++ unanswered
  -- Each turn has the files that the shelf had then: where it never had others than these, each turn has these.
  pub files : HaveFiles shelf turns shelf_now
  pub same_files : (files : Files) → HasOnly files shelf_now → AllByRecursion (λ turn. turn.files ≡ files) turns
  pub legal : IsLegal first turns
  -- the shelf failed as often as it refused, and the last time at the file of the last refusal
  pub causes : RisesBy (shelf_refusals turns) shelf.faults shelf_now.faults
  pub last_cause : shelf_now.last_fault ≡ blamed_last shelf.last_fault turns
  pub text : List ℕ
  pub text_is : printed_of station_now ≡ append_known (printed_of station) text
  -- With another status than 3 all replies were printed, and with 3 at most the last is cut.
  pub whole : status ≢ 3 → text ≡ replies first turns
  pub cut : status ≡ 3 → IsCut first turns text
  -- Where all outcomes of the moment of entry have the first gazetteer: every stop, and the exit.
  pub keeps : IsTrue station.is_told → AllHold station first.gaz → Keeps (record { first = first; turns = turns }) station station_now status
  -- Where no change was made, and none of an earlier run was to be redone, no area is written.
  pub unwritten : IsTrue station.is_told → NothingToRedo station.bytes → has_change first turns ≡ false → IsUnwritten station station_now
  -- With 0 and 7 all lines were answered, with 7 where the source goes on past the limit.
  pub ended : status ≡ 0 → (unanswered ≡ []) × (given.is_past ≡ false)
  pub past : status ≡ 7 → (unanswered ≡ []) × (given.is_past ≡ true)
  -- Each whole line that had been taken was answered before the source was asked the last time: with 4 it then failed, and
  -- with 3 it then gave a piece of at most 65,536 bytes.
  pub heard : status ≡ 4 → IsHeard 0 bytes bytes_now (length turns)
  pub heard_before : status ≡ 3 → IsHeard 65536 bytes bytes_now (length turns - 1)
  -- With 5 and 6 no line was answered.
  pub unanswering : (status ≡ 5) ⊎ (status ≡ 6) → turns ≡ []

-- So the run answered, and it read and wrote no more pages than its turns may, where that is told.
pub record RunAnswersWithin (first : State) (bytes bytes_now : Option (List ℕ)) (shelf shelf_now : ShelfView) (station station_now : StationView) (status : ℕ) : Type 0 where
  pub run : RunAnswers first bytes bytes_now shelf shelf_now station station_now status
  pub reads : ReadsWithin (most_read_in first run.turns) station station_now
  pub writes : WritesWithin (most_written_in first run.turns) station station_now

-- So the run answered. Whatever was pending at entry, each stop leaves what some outcome of entry had, or is one of the run; and
-- no mirror opened, or the exit is one of the run. And where nothing failed, no memory was wanting, the areas are a mirror and the
-- source is within the limit, each of its lines was met as it is defined.
pub record IsAnswered (first : State) (bytes bytes_now : Option (List ℕ)) (shelf shelf_now : ShelfView) (station station_now : StationView) (failed unopened : Type 0) (status : ℕ) : Type 0 where
  pub run : RunAnswers first bytes bytes_now shelf shelf_now station station_now status
  pub stops : IsTrue station.is_told → LeavesOnly station station_now (IsFoundOrStop (record { first = first; turns = run.turns }) station)
  pub exit : unopened ⊎ (IsTrue station.is_told → IsExit (record { first = first; turns = run.turns }) station_now run.text status)
  -- The opening and the turns read and write no more pages than they may.
  pub reads : OpensReadsWithin (most_read_in first run.turns) station station_now
  pub writes : OpensWritesWithin (most_written_in first run.turns) station station_now
  pub complete : (failed → ⊥) → status ≢ 5 → status ≢ 6 → memory_refusals run.turns ≡ 0 → run.given.is_past ≡ false →
      (status ≡ 0) × (asked run.turns ≡ run.given.lines) × AllByRecursion (λ turn. turn.verdict ≡ plain) run.turns

-- No mirror opened: the station failed, memory was wanting or the areas are no mirror. The source and the shelf weren't called,
-- and nothing was printed.
pub record IsUnopened {S F : Type 0} (old_source new_source : S) (old_shelf new_shelf : F) (station station_now : StationView) (status : ℕ) : Type 0 where
  pub why : (status ≡ 3) ⊎ (status ≡ 5) ⊎ (status ≡ 6)
  pub source : new_source ≡ old_source
  pub shelf : new_shelf ≡ old_shelf
  pub printed : printed_of station_now ≡ printed_of station

-- the reply says that the shelf failed
abbrev pub tells_shelf : Reply → Bool
tells_shelf reply = is_some (shelf_file reply)

-- the text of these replies
abbrev pub text_of_all : List Reply → List ℕ
text_of_all told = flat_map reply_text told

-- the file at which the shelf failed last by these replies, where this was the last one before
abbrev pub shelf_last : Option (List ℕ) → List Reply → Option (List ℕ)
shelf_last before [] = before
shelf_last before (reply ∷ told) = shelf_last (unwrap_or (option_map (λ file. Some (file_text file)) (shelf_file reply)) before) told

-- The run ends in the middle of a request: the station failed, or a page was damaged.
abbrev pub EndsWithin : ℕ → Type 0
EndsWithin status = (status ≡ 3) ⊎ (status ≡ 6)

-- Replies are printed, the last one cut where the run ends within it, and they say of the shelf what is so: it failed as often as
-- they say, and the last time at the file of the last of these. This holds over any shelf.
pub record TellShelf (shelf shelf_now : ShelfView) (station station_now : StationView) (status : ℕ) : Type 0 where
  pub told : List Reply
  pub text : List ℕ
  pub text_is : printed_of station_now ≡ append_known (printed_of station) text
  pub whole : status ≢ 3 → status ≢ 6 → text ≡ text_of_all told
  pub cut : EndsWithin status → IsPrefix text (text_of_all told)
  pub causes : RisesBy (count_by tells_shelf told) shelf.faults shelf_now.faults
  pub last_cause : shelf_now.last_fault ≡ shelf_last shelf.last_fault told

-- A run of `serve` over a source, a shelf and a station: what it did to them, as their views tell it, and its status.
pub record ServeRan {S F T : Type 0} (source : S → SourceView) (shelf : F → ShelfView) (station : T → StationView) (old_source new_source : S) (old_shelf new_shelf : F) (old_station new_station : T) (status : ℕ) : Type 0 where
  -- Where bytes are told and the areas as they read mirror a gazetteer, it is the state at entry.
  pub answers : IsTrue (station old_station).is_told → IsTrue (shelf old_shelf).is_told → (first : State) → Mirrors (station old_station).bytes first.gaz →
      IsAnswered first (left_of (source old_source)) (left_of (source new_source)) (shelf old_shelf) (shelf new_shelf) (station old_station) (station new_station)
      (HasRisen (source old_source).faults (source new_source).faults ⊎ HasRisen (shelf old_shelf).faults (shelf new_shelf).faults ⊎ HasRisen (station old_station).faults (station new_station).faults)
      (IsUnopened old_source new_source old_shelf new_shelf (station old_station) (station new_station) status)
      status
  -- Over any shelf, told or not, what is printed says how often it failed, and where at last.
  pub failures : TellShelf (shelf old_shelf) (shelf new_shelf) (station old_station) (station new_station) status
  -- With 6 the areas are no mirror.
  pub none : status ≡ 6 → IsTrue (station old_station).is_told → (gaz : Gazetteer) → Mirrors (station old_station).bytes gaz → ⊥
  pub unopened : status ≡ 5 → IsUnopened old_source new_source old_shelf new_shelf (station old_station) (station new_station) status
  -- With 0 nothing is left.
  pub emptied : status ≡ 0 → IfSome (left_of (source new_source)) (λ bytes. bytes ≡ [])
  -- With 7 the source goes on past the limit.
  pub past : status ≡ 7 → IfSome (left_of (source old_source)) (λ bytes. is_too_long bytes ≡ true)
  -- At most 2^40 bytes of the source were taken, and then one piece of at most 65,536.
  pub taken : Taken 65536 (left_of (source old_source)) (left_of (source new_source))
  pub shelf_told : (shelf new_shelf).is_told ≡ (shelf old_shelf).is_told
  -- No file is left open by a request.
  pub numbers : SameNumbers (shelf old_shelf) (shelf new_shelf) ⊎ NoneOpen (shelf new_shelf)
  -- A call that failed was the only one of its object, and ended the run with its status. Of the shelf `failures` tells.
  pub station_failed : status ≡ 3 → RisesOnce (station old_station).faults (station new_station).faults
  pub station_kept : status ≢ 3 → (station new_station).faults ≡ (station old_station).faults
  pub source_failed : status ≡ 4 → RisesOnce (source old_source).faults (source new_source).faults
  pub source_kept : status ≢ 4 → (source new_source).faults ≡ (source old_source).faults
  pub told : (station new_station).is_told ≡ (station old_station).is_told
  pub others : (status ≡ 0) ⊎ (status ≡ 3) ⊎ (status ≡ 4) ⊎ (status ≡ 5) ⊎ (status ≡ 6) ⊎ (status ≡ 7)
