-- How many pages of the device a run reads and writes at most, in pieces of 4,096 bytes.
use Rattle.std.specs.Prelude.{◌≤◌, ℕ, ◌+◌, ◌*◌, IsTrue, List, [], ◌∷◌, length, Option, Some, None, IfSome, Result, Ok, Err, if◌then◌else◌}
use Rattle.gaz_outside.specs.Outside.{StationView}
use Rattle.gaz_kin.specs.Reads.{most_for_chain, most_for_children}
use Rattle.gaz_change.specs.Change.{lines_of}
use Rattle.gaz_plain.specs.Gazetteer.{Gazetteer}
use Rattle.gaz_plain.specs.Kin.{chain_of, children_pairs}
use Rattle.gaz_plain.specs.Load.{Files, day_files}
use Rattle.gaz_plain.specs.Search.{answer_pairs}
use Rattle.gaz_plan.specs.Candidates.{most_reads}
use Rattle.gaz_redo.specs.Recovered.{SlotsToRedo}
use Rattle.gaz_reply.specs.Reply.{is_change}
use Rattle.gaz_rows.specs.Found.{like_codes}
use Rattle.gaz_turns.specs.Turns.{State, Turn, answer_at}
use Rattle.gaz_words.specs.declared.request.BadRequest.{BadRequest}
use Rattle.gaz_words.specs.Grammar.{RequestAsked, asks_load, asks_day, asks_get, asks_search, asks_children, asks_chain, asks_admin, request_in}

-- the most that a question reads over a gazetteer: what the look for its answer may read, and 23 for each row of the answer; of a load and a day
-- nothing is said
abbrev pub most_read : Gazetteer → RequestAsked → Option ℕ
most_read gaz (asks_load date) = None
most_read gaz (asks_day date) = None
most_read gaz (asks_get id) = Some 23
most_read gaz (asks_search asked) = Some (most_reads gaz asked + 23 * length (answer_pairs gaz asked))
most_read gaz (asks_children id max) = Some (most_for_children gaz id + 23 * length (children_pairs gaz id max))
most_read gaz (asks_chain id) = Some (most_for_chain gaz id + 23 * length (chain_of gaz id))
most_read gaz (asks_admin code) = Some (29 * (like_codes gaz code + 1))

-- the same of a line: one that the grammar refuses reads nothing
abbrev pub most_read_by : Gazetteer → Result RequestAsked BadRequest → Option ℕ
most_read_by gaz (Ok asked) = most_read gaz asked
most_read_by gaz (Err bad) = Some 0

-- both together, where both are told
abbrev pub both : Option ℕ → Option ℕ → Option ℕ
both None other = None
both (Some n) None = None
both (Some n) (Some m) = Some (n + m)

-- the most that turns read, one behind the other, each over the gazetteer of its time
abbrev pub most_read_in : State → List Turn → Option ℕ
most_read_in state [] = Some 0
most_read_in state (turn ∷ turns) = both (most_read_by state.gaz (request_in turn.line)) (most_read_in (answer_at state turn).state turns)

-- The count of reads rises by so many at most, where that is told.
abbrev pub ReadsWithin : Option ℕ → StationView → StationView → Type 0
ReadsWithin most old new = IfSome most (λ n. new.reads ≤ old.reads + n)

-- the most that a request writes over these files: a day for each of its lines, a question nothing; of a load nothing is said
abbrev pub most_written : Files → RequestAsked → Option ℕ
most_written files (asks_load date) = None
most_written files (asks_day date) = Some (1000 * (lines_of files (day_files date) + 1))
most_written files (asks_get id) = Some 0
most_written files (asks_search asked) = Some 0
most_written files (asks_children id max) = Some 0
most_written files (asks_chain id) = Some 0
most_written files (asks_admin code) = Some 0

-- the same of a line: one that the grammar refuses writes nothing
abbrev pub most_written_by : Files → Result RequestAsked BadRequest → Option ℕ
most_written_by files (Ok asked) = most_written files asked
most_written_by files (Err bad) = Some 0

-- the same of a turn: one that makes no change writes nothing
abbrev pub most_written_at : State → Turn → Option ℕ
most_written_at state turn = if is_change (answer_at state turn).reply then most_written_by turn.files (request_in turn.line) else Some 0

-- the most that turns write, one behind the other
abbrev pub most_written_in : State → List Turn → Option ℕ
most_written_in state [] = Some 0
most_written_in state (turn ∷ turns) = both (most_written_at state turn) (most_written_in (answer_at state turn).state turns)

-- The count of writes rises by so many at most, where that is told.
abbrev pub WritesWithin : Option ℕ → StationView → StationView → Type 0
WritesWithin most old new = IfSome most (λ n. new.writes ≤ old.writes + n)

-- the most that an opening reads: eight pieces for each slot to redo and eight more, and the root page
abbrev pub most_opened : ℕ → ℕ
most_opened slots = 8 * (slots + 1) + 1

-- The count of reads rises by what an opening may read, and then by so many at most, where that is told.
abbrev pub OpensReadsWithin : Option ℕ → StationView → StationView → Type 0
OpensReadsWithin most old new = IsTrue old.is_told → (slots : ℕ) → SlotsToRedo old slots → IfSome most (λ n. new.reads ≤ old.reads + most_opened slots + n)

-- The count of writes rises by what an opening may write, one piece for each slot to redo and the gate, and then by so many at most, where that is
-- told.
abbrev pub OpensWritesWithin : Option ℕ → StationView → StationView → Type 0
OpensWritesWithin most old new = IsTrue old.is_told → (slots : ℕ) → SlotsToRedo old slots → IfSome most (λ n. new.writes ≤ old.writes + (slots + 1) + n)
