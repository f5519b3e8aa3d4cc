-- Reads and writes of pages, one call behind the other.
use Rattle.std.proofs.Common.{◌≡◌, ℕ, ◌+◌, ◌-◌, ◌*◌, ◌≤◌, Bool, true, false, IsTrue, List, [], ◌∷◌, ◌++◌, length, take, drop, Option, Some, None, refl, sym, ◌∙◌, ap, subst, arith, if◌then◌else◌}
use Rattle.std.specs.Prelude.{IfSome}
use Rattle.std.proofs.lemmas.List.{length-take, length-drop}
use Rattle.gaz_outside.specs.Outside.{StationView}
use Rattle.gaz_outside.specs.Station.{AreasStay}
use Rattle.gaz_ask.specs.Asked.{OverMirror}
use Rattle.gaz_ask.proofs.Left.{told_left, mirrors_left}
use Rattle.gaz_pages.specs.Keeps.{OnlyReads}
use Rattle.gaz_plain.specs.Gazetteer.{Gazetteer}
use Rattle.gaz_reply.specs.Reply.{is_change}
use Rattle.gaz_turns.specs.Steps.{AreasKept}
use Rattle.gaz_turns.specs.Turns.{State, Turn, answer_at, state_after}
use Rattle.gaz_turns.proofs.Kept.{kept_stay}
use Rattle.gaz_turns.proofs.Told.{still_mirrors}
use Rattle.gaz_words.specs.Grammar.{request_in}
use Rattle.gaz_serve.specs.Bounds.{both, most_read_by, most_read_in, most_written_by, most_written_at, most_written_in, ReadsWithin, WritesWithin}

-- two runs of calls, one behind the other
pub reads_on : (first next : Option ℕ) (old mid new : StationView) → ReadsWithin first old mid → ReadsWithin next mid new → ReadsWithin (both first next) old new
reads_on None next old mid new so_far more = tt
reads_on (Some n) None old mid new so_far more = tt
reads_on (Some n) (Some m) old mid new so_far more = omega (arith, so_far, more)

pub writes_on : (first next : Option ℕ) (old mid new : StationView) → WritesWithin first old mid → WritesWithin next mid new → WritesWithin (both first next) old new
writes_on None next old mid new so_far more = tt
writes_on (Some n) None old mid new so_far more = tt
writes_on (Some n) (Some m) old mid new so_far more = omega (arith, so_far, more)

both_none : (most : Option ℕ) → both most (Some 0) ≡ both (Some 0) most
both_none None = refl
both_none (Some n) = ap Some (omega arith)

both_three : (a b c : Option ℕ) → both a (both b c) ≡ both (both a b) c
both_three None b c = refl
both_three (Some n) None c = refl
both_three (Some n) (Some m) None = refl
both_three (Some n) (Some m) (Some k) = ap Some (omega arith)

-- the most that turns read, with one turn more
pub most_more : (state : State) (turns : List Turn) (turn : Turn) → most_read_in state (turns ++ turn ∷ []) ≡ both (most_read_in state turns) (most_read_by (state_after state turns).gaz (request_in turn.line))
most_more state [] turn = both_none (most_read_by state.gaz (request_in turn.line))
most_more state (t ∷ turns) turn =
    let next = (answer_at state t).state in
    let own = most_read_by state.gaz (request_in t.line) in
    ap (λ (m : Option ℕ). both own m) (most_more next turns turn)
    ∙ both_three own (most_read_in next turns) (most_read_by (state_after next turns).gaz (request_in turn.line))

pub most_more_written : (state : State) (turns : List Turn) (turn : Turn) → most_written_in state (turns ++ turn ∷ []) ≡ both (most_written_in state turns) (most_written_at (state_after state turns) turn)
most_more_written state [] turn = both_none (most_written_at state turn)
most_more_written state (t ∷ turns) turn =
    let next = (answer_at state t).state in
    let own = most_written_at state t in
    ap (λ (m : Option ℕ). both own m) (most_more_written next turns turn)
    ∙ both_three own (most_written_in next turns) (most_written_at (state_after next turns) turn)

-- a turn writes nothing where it makes no change, and else what its request may
pub turn_writes : (state : State) (turn : Turn) (old new : StationView) → WritesWithin (most_written_by turn.files (request_in turn.line)) old new → (is_change (answer_at state turn).reply ≡ false → AreasKept old new) → WritesWithin (most_written_at state turn) old new
turn_writes state turn old new request stays = by_change (is_change (answer_at state turn).reply) (λ none. (stays none).unwritten)
  where
    by_change : (change : Bool) → (change ≡ false → new.writes ≡ old.writes) → WritesWithin (if change then most_written_by turn.files (request_in turn.line) else Some 0) old new
    by_change true same = request
    by_change false same = let none = same refl in omega (arith, none)

-- no page was read
pub none_read : (most : Option ℕ) (old new : StationView) → new.reads ≡ old.reads → ReadsWithin most old new
none_read None old new same = tt
none_read (Some n) old new same = omega (arith, same)

-- behind an opening
pub opened_reads : (most : Option ℕ) (old mid new : StationView) (n : ℕ) → mid.reads ≤ old.reads + n + 0 → ReadsWithin most mid new → IfSome most (λ m. new.reads ≤ old.reads + n + m)
opened_reads None old mid new n opening run = tt
opened_reads (Some m) old mid new n opening run = omega (arith, opening, run)

pub opened_writes : (most : Option ℕ) (old mid new : StationView) (n : ℕ) → mid.writes ≤ old.writes + n → WritesWithin most mid new → IfSome most (λ m. new.writes ≤ old.writes + n + m)
opened_writes None old mid new n opening run = tt
opened_writes (Some m) old mid new n opening run = omega (arith, opening, run)

-- a row was read and printed, and the others after it
pub row_printed : (v0 v1 v2 v3 : StationView) (all rest : ℕ) → OnlyReads v0 v1 → AreasStay v1 v2 → v2.is_told ≡ v1.is_told → all ≡ rest + 1
    → OverMirror v0 (λ gaz. v1.reads ≤ v0.reads + 23) → OverMirror v2 (λ gaz. v3.reads ≤ v2.reads + 23 * rest) → OverMirror v0 (λ gaz. v3.reads ≤ v0.reads + 23 * all)
row_printed v0 v1 v2 v3 all rest reads stay same count row others told gaz mirrors =
    let told1 = told_left v0 v1 reads told in
    let mirrors1 = mirrors_left v0 v1 reads told gaz mirrors in
    let mirrors2 = still_mirrors gaz v1 v2 told1 (kept_stay v1 v2 stay) mirrors1 in
    let first = row told gaz mirrors in
    let unread = stay.unread in
    let more = others (subst IsTrue (sym same) told1) gaz mirrors2 in
    omega (arith, count, first, unread, more)

-- a row that isn't there was sought, and then the others
pub row_passed : (v0 v1 v2 : StationView) (all rest : ℕ) → OnlyReads v0 v1 → all ≡ rest + 1
    → OverMirror v0 (λ gaz. v1.reads ≤ v0.reads + 23) → OverMirror v1 (λ gaz. v2.reads ≤ v1.reads + 23 * rest) → OverMirror v0 (λ gaz. v2.reads ≤ v0.reads + 23 * all)
row_passed v0 v1 v2 all rest reads count row others told gaz mirrors =
    let first = row told gaz mirrors in
    let more = others (told_left v0 v1 reads told) gaz (mirrors_left v0 v1 reads told gaz mirrors) in
    omega (arith, count, first, more)

-- an answer was sought, and then its rows were read
pub rows_read : (v0 v1 v2 : StationView) (n : ℕ) (most rows : Gazetteer → ℕ) → OnlyReads v0 v1 → OverMirror v0 (λ gaz. v1.reads ≤ v0.reads + most gaz) → OverMirror v0 (λ gaz. n ≡ rows gaz)
    → OverMirror v1 (λ gaz. v2.reads ≤ v1.reads + 23 * n) → OverMirror v0 (λ gaz. v2.reads ≤ v0.reads + (most gaz + 23 * rows gaz))
rows_read v0 v1 v2 n most rows reads sought count told_rows told gaz mirrors =
    let first = sought told gaz mirrors in
    let is = count told gaz mirrors in
    let more = told_rows (told_left v0 v1 reads told) gaz (mirrors_left v0 v1 reads told gaz mirrors) in
    omega (arith, first, is, more)

-- all but the first
pub rest_long : {A : Type 0} (all : List A) → 1 ≤ length all → length all ≡ length (take (length all - 1) (drop 1 all)) + 1
rest_long all some = omega (arith, some, length-take (length all - 1) (drop 1 all), length-drop 1 all)
