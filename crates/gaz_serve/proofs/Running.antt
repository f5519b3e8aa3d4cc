-- Turns, one behind the other, and the run that they make.
use Rattle.std.proofs.Common.{◌≡◌, ◌≢◌, ⊎_elim, ℕ, ◌+◌, ◌-◌, ◌^◌, ◌<◌, ◌≤◌, Bool, true, false, IsTrue, cond, List, [], ◌∷◌, ◌++◌, length, refl, ap, arith, Option, Some, None, append_assoc, length-append, ◌∙◌, sym, subst}
use Rattle.std.specs.Prelude.{option_map, codes, nat_lt, IfSome, Result, Ok, Err}
use Rattle.std.specs.List.{AllByRecursion}
use Rattle.std.specs.Io.KnownBytes.{append_known}
use Rattle.std.proofs.lemmas.Grind.{common_steps}
use Rattle.std.proofs.lemmas.List.{append-nil}
use Rattle.gaz_outside.specs.declared.station.Area.{Area}
use Rattle.gaz_outside.specs.Outside.{ShelfView, StationView, IsPrefix, Prints, printed_of}
use Rattle.gaz_outside.specs.Station.{Outcome, Leaves}
use Rattle.gaz_num.specs.Pieces.{lines_within, is_too_long}
use Rattle.gaz_lines.specs.Lines.{IsLine, Rest, onto}
use Rattle.gaz_lines.proofs.Pieces.{are_more, lines_are_lines}
use Rattle.gaz_lines.proofs.Rests.{rest_with}
use Rattle.gaz_lines.proofs.Told.{Told, told_line, told_too_long, told_end}
use Rattle.gaz_plain.specs.Load.{Files}
use Rattle.gaz_rows.specs.Content.{Mirrors}
use Rattle.gaz_reply.specs.Reply.{reply_text, refused, is_change}
use Rattle.gaz_reply.proofs.Pieces.{append_none, append_two}
use Rattle.gaz_reply.proofs.Cuts.{printed_whole}
use Rattle.gaz_num.specs.Refusal.{request}
use Rattle.gaz_rows.specs.Holds.{AllHold}
use Rattle.gaz_words.specs.Grammar.{request_in}
use Rattle.gaz_words.specs.declared.request.BadRequest.TheVariants.{Length}
use Rattle.gaz_turns.specs.Turns.{answer_to_read, opens, State, Turn, Verdict, plain, memory, shelf, answer_at, HaveFiles, IsLegal, state_after, replies, has_change, is_shelf, shelf_refusals, blamed_by, blamed_last}
use Rattle.gaz_turns.specs.Head.{Keeps}
use Rattle.gaz_turns.specs.Steps.{AreasKept, IsCutIn, IsGiven}
use Rattle.gaz_turns.proofs.Kept.{kept_same, kept_on}
use Rattle.gaz_turns.proofs.Counted.{or_left, or_right}
use Rattle.gaz_turns.proofs.Tallies.{legal_more, replies_more, state_more, asked_more, change_more, blamed_more}
use Rattle.gaz_turns.proofs.Filed.{follow_more, each_has}
use Rattle.gaz_turns.proofs.Told.{told_given}
use Rattle.gaz_turns.proofs.Underway.{IsUnderWay, starts, goes_on, ends_cut, ends_well}
use Rattle.gaz_serve.specs.Change.{Closes}
use Rattle.gaz_serve.specs.Step.{IsBlamed, OneStep}
use Rattle.gaz_serve.specs.Serve.{Given}
use Rattle.gaz_serve.proofs.Changing.{request_found}
use Rattle.gaz_serve.specs.Ran.{asked, RisesBy, IsHeard, IsUnwritten, RunAnswersWithin}
use Rattle.gaz_serve.specs.Bounds.{most_read_by, most_read_in, most_written_by, most_written_at, most_written_in, ReadsWithin, WritesWithin}
use Rattle.gaz_serve.proofs.Reading.{reads_on, writes_on, most_more, most_more_written, turn_writes}

shelf-append : (turns more : List Turn) → shelf_refusals (turns ++ more) ≡ shelf_refusals turns + shelf_refusals more
shelf-append turns more = grind (arith, common_steps)

-- Turns answered the lines that were given, each with the files that the shelf had then, and their replies were printed. The
-- areas mirror the state behind them.
pub record UnderWay (first : State) (bytes : Option (List ℕ)) (now : Option Rest) (answered : ℕ) (shelf shelf_now : ShelfView) (entry station : StationView) : Type 0 where
  pub turns : List Turn
  pub count : length turns ≡ answered
  pub are_lines : AllByRecursion IsLine (asked turns)
  pub told : IfSome bytes (λ text. Told 4096 (asked turns) now text)
  pub files : HaveFiles shelf turns shelf_now
  pub legal : IsLegal first turns
  pub mirrors : Mirrors station.bytes (state_after first turns).gaz
  pub causes : RisesBy (shelf_refusals turns) shelf.faults shelf_now.faults
  pub last_cause : shelf_now.last_fault ≡ blamed_last shelf.last_fault turns
  pub text_is : printed_of station ≡ append_known (printed_of entry) (replies first turns)
  pub unwritten : has_change first turns ≡ false → AreasKept entry station
  pub reads : ReadsWithin (most_read_in first turns) entry station
  pub writes : WritesWithin (most_written_in first turns) entry station
  pub keeps : IsTrue entry.is_told → AllHold entry first.gaz → IsUnderWay first entry station (state_after first turns) turns

refused_one : (line : List ℕ) (verdict : Verdict) (files : Files) → shelf_refusals (record { line = line; verdict = verdict; files = files } ∷ []) ≡ cond (is_shelf verdict) 1 0
refused_one line plain files = refl
refused_one line memory files = refl
refused_one line (shelf file) files = refl

refused_more : (turns : List Turn) (turn : Turn) → shelf_refusals (turns ++ turn ∷ []) ≡ shelf_refusals turns + cond (is_shelf turn.verdict) 1 0
refused_more turns turn = shelf-append turns (turn ∷ []) ∙ ap (λ n. shelf_refusals turns + n) (refused_one turn.line turn.verdict turn.files)

rises_more : (n before : ℕ) (verdict : Verdict) (old new : ShelfView) → RisesBy n before old.faults → IsBlamed verdict old new → RisesBy (n + cond (is_shelf verdict) 1 0) before new.faults
rises_more n before plain old new rises blamed = let same = blamed.faults in omega (arith, rises, same)
rises_more n before memory old new rises blamed = let same = blamed.faults in omega (arith, rises, same)
rises_more n before (shelf file) old new rises blamed = let once = blamed.faults in omega (arith, rises, once)

blames_more : (verdict : Verdict) (old new : ShelfView) → IsBlamed verdict old new → new.last_fault ≡ blamed_by verdict old.last_fault
blames_more plain old new blamed = blamed.last
blames_more memory old new blamed = blamed.last
blames_more (shelf file) old new blamed = blamed.last

one_less : (turns : List Turn) (turn : Turn) (answered : ℕ) → length turns ≡ answered → answered ≡ length (turns ++ turn ∷ []) - 1
one_less turns turn answered count = let more = length-append turns (turn ∷ []) in omega (arith, more, count)

-- two lists that end in one element each
but_last : (xs ys : List Turn) (x y : Turn) → xs ++ x ∷ [] ≡ ys ++ y ∷ [] → xs ≡ ys
but_last xs ys x y is = sym (all_but xs x) ∙ ap front is ∙ all_but ys y
  where
    front : List Turn → List Turn
    front [] = []
    front (t ∷ []) = []
    front (t ∷ u ∷ ts) = t ∷ front (u ∷ ts)

    all_but : (ts : List Turn) (t : Turn) → front (ts ++ t ∷ []) ≡ ts
    all_but [] t = refl
    all_but (u ∷ []) t = refl
    all_but (u ∷ w ∷ ts) t = ap (λ (l : List Turn). u ∷ l) (all_but (w ∷ ts) t)

-- where the areas stay nothing is written
pub unwritten_by : (old new : StationView) → IsTrue old.is_told → AreasKept old new → IsUnwritten old new
unwritten_by old new is_told stay = record { bytes = λ a. (stay.each is_told a).bytes; writes = stay.unwritten }

-- the lines that were asked and those that weren't, where they are told
lines_given : (bytes : Option (List ℕ)) (lines : List (List ℕ)) (now : Option Rest) (past : Bool) → AllByRecursion IsLine lines → IfSome bytes (λ text. Told 4096 lines now text) → (given : Given bytes) × (unanswered : List (List ℕ)) × (given.lines ≡ lines ++ unanswered)
lines_given None lines now past are told = (record { lines = lines; is_past = past; are_lines = are; are_told = tt }, [], sym (append-nil lines))
lines_given (Some text) lines now past are told = (
  record { lines = lines_within text; is_past = is_too_long text; are_lines = lines_are_lines (2 ^ 40) text; are_told = (refl, refl) },
  told.later,
  told.lines_are,
)

-- no line is left, and the source goes on past the limit or not
all_given : (bytes : Option (List ℕ)) (lines : List (List ℕ)) (now : Option Rest) (past : Bool) → AllByRecursion IsLine lines → IfSome bytes (λ text. Told 4096 lines now text) → IfSome now (λ rest. rest ≡ rest_with [] past) → (given : Given bytes) × (given.lines ≡ lines ++ []) × (given.is_past ≡ past)
all_given None lines now past are told none = (record { lines = lines; is_past = past; are_lines = are; are_told = tt }, sym (append-nil lines), refl)
all_given (Some text) lines now past are told none =
    let e = told_end 4096 lines now text past told none in (
      record { lines = lines_within text; is_past = is_too_long text; are_lines = lines_are_lines (2 ^ 40) text; are_told = (refl, refl) },
      e.0 ∙ sym (append-nil lines),
      e.1,
    )

module _ (first : State) (bytes : Option (List ℕ)) (shelf shelf_now : ShelfView) (entry station : StationView) (now : Option Rest) (answered : ℕ) (way : UnderWay first bytes now answered shelf shelf_now entry station) where
  -- the source ended, or goes on past the limit
  pub run_ends : (status : ℕ) (past : Bool) (bytes_now : Option (List ℕ)) → IfSome now (λ rest. rest ≡ rest_with [] past) → status ≢ 3 → status ≢ 4 → status ≢ 5 → status ≢ 6 → (status ≡ 0 → past ≡ false) → (status ≡ 7 → past ≡ true) → RunAnswersWithin first bytes bytes_now shelf shelf_now entry station status
  run_ends status past bytes_now none not_cut not_failed not_starved not_none ends passes =
      let all = all_given bytes (asked way.turns) now past way.are_lines way.told none in
      record {
        run = record {
          given = all.0;
          turns = way.turns;
          unanswered = [];
          lines_are = all.1;
          files = way.files;
          same_files = λ files only. each_has files shelf way.turns shelf_now way.files only;
          legal = way.legal;
          causes = way.causes;
          last_cause = way.last_cause;
          text = replies first way.turns;
          text_is = way.text_is;
          whole = λ is. refl;
          cut = λ is. absurd (not_cut is);
          ended = λ is. (refl, all.2 ∙ ends is);
          past = λ is. (refl, all.2 ∙ passes is);
          heard = λ is. absurd (not_failed is);
          heard_before = λ is. absurd (not_cut is);
          keeps = λ is_told holds. ends_well first entry station (state_after first way.turns) way.turns status not_cut (way.keeps is_told holds);
          unwritten = λ is_told nothing none. unwritten_by entry station is_told (way.unwritten none);
          unanswering = λ either. ⊎_elim (λ is. absurd (not_starved is)) (λ is. absurd (not_none is)) either;
        };
        reads = way.reads;
        writes = way.writes;
      }

  -- the source failed
  pub run_fails : (status : ℕ) (bytes_now : Option (List ℕ)) → status ≡ 4 → IsHeard 0 bytes bytes_now answered → RunAnswersWithin first bytes bytes_now shelf shelf_now entry station status
  run_fails status bytes_now four heard =
      let some = lines_given bytes (asked way.turns) now false way.are_lines way.told in
      record {
        run = record {
          given = some.0;
          turns = way.turns;
          unanswered = some.1;
          lines_are = some.2;
          files = way.files;
          same_files = λ files only. each_has files shelf way.turns shelf_now way.files only;
          legal = way.legal;
          causes = way.causes;
          last_cause = way.last_cause;
          text = replies first way.turns;
          text_is = way.text_is;
          whole = λ is. refl;
          cut = λ is. absurd (omega (arith, four, is));
          ended = λ is. absurd (omega (arith, four, is));
          past = λ is. absurd (omega (arith, four, is));
          heard = λ is. subst (IsHeard 0 bytes bytes_now) (sym way.count) heard;
          heard_before = λ is. absurd (omega (arith, four, is));
          keeps = λ is_told holds. ends_well first entry station (state_after first way.turns) way.turns status (λ is. absurd (omega (arith, four, is))) (way.keeps is_told holds);
          unwritten = λ is_told nothing none. unwritten_by entry station is_told (way.unwritten none);
          unanswering = λ either. ⊎_elim (λ is. absurd (omega (arith, four, is))) (λ is. absurd (omega (arith, four, is))) either;
        };
        reads = way.reads;
        writes = way.writes;
      }

  module _ (line : List ℕ) (is_line : IsLine line) (later : Option Rest) (told : IfSome bytes (λ text. Told 4096 (asked way.turns ++ line ∷ []) later text)) (shelf_told : IsTrue shelf_now.is_told) (after : ShelfView) (station_now : StationView)
      (is_told : IsTrue station.is_told) (still : station.is_told ≡ entry.is_told) (still_now : station_now.is_told ≡ station.is_told) (stay : (a : Area) → IsTrue station.is_told → station.may_leave a (station.bytes a))
    where
      -- the state behind the turns so far
      abbrev state : State
      state = state_after first way.turns

      abbrev turn_by : Verdict → Turn
      turn_by verdict = record { line = line; verdict = verdict; files = after.files }

      -- no area is written where the turns so far, and this one, make no change
      unwritten_on : (verdict : Verdict) → (is_change (answer_at state (turn_by verdict)).reply ≡ false → AreasKept station station_now) → has_change first (way.turns ++ turn_by verdict ∷ []) ≡ false → AreasKept entry station_now
      unwritten_on verdict stays none =
          let split = sym (change_more first way.turns (turn_by verdict)) ∙ none in
          kept_on entry station station_now still (way.unwritten (or_left _ _ split)) (stays (or_right _ _ split))

      -- one turn more: its files, its place among legal turns, and its causes
      files_more : {A E : Type 0} (result : Result A E) (step : OneStep line state shelf_now after station station_now result) → HaveFiles shelf (way.turns ++ turn_by step.verdict ∷ []) after
      files_more result step =
          follow_more shelf.files shelf.earlier way.turns (turn_by step.verdict) shelf_now.files shelf_now.earlier after.files after.earlier way.files refl
          (request_found state (request_in line) shelf_now after shelf_told step.closes)

      causes_more : {A E : Type 0} (result : Result A E) (step : OneStep line state shelf_now after station station_now result) → RisesBy (shelf_refusals (way.turns ++ turn_by step.verdict ∷ [])) shelf.faults after.faults
      causes_more result step = subst (λ n. RisesBy n shelf.faults after.faults) (sym (refused_more way.turns (turn_by step.verdict))) (rises_more (shelf_refusals way.turns) shelf.faults step.verdict shelf_now after way.causes step.blamed)

      last_more : {A E : Type 0} (result : Result A E) (step : OneStep line state shelf_now after station station_now result) → after.last_fault ≡ blamed_last shelf.last_fault (way.turns ++ turn_by step.verdict ∷ [])
      last_more result step = blames_more step.verdict shelf_now after step.blamed ∙ ap (blamed_by step.verdict) way.last_cause ∙ sym (blamed_more shelf.last_fault way.turns (turn_by step.verdict))

      -- it reads and writes what it may
      reads_more : (verdict : Verdict) → ReadsWithin (most_read_by state.gaz (request_in line)) station station_now → ReadsWithin (most_read_in first (way.turns ++ turn_by verdict ∷ [])) entry station_now
      reads_more verdict read =
          subst (λ (m : Option ℕ). ReadsWithin m entry station_now) (sym (most_more first way.turns (turn_by verdict)))
          (reads_on (most_read_in first way.turns) (most_read_by state.gaz (request_in line)) entry station station_now way.reads read)

      writes_more : (verdict : Verdict) → (is_change (answer_at state (turn_by verdict)).reply ≡ false → AreasKept station station_now) → WritesWithin (most_written_by after.files (request_in line)) station station_now → WritesWithin (most_written_in first (way.turns ++ turn_by verdict ∷ [])) entry station_now
      writes_more verdict stays wrote =
          subst (λ (m : Option ℕ). WritesWithin m entry station_now) (sym (most_more_written first way.turns (turn_by verdict)))
          (writes_on (most_written_in first way.turns) (most_written_at state (turn_by verdict)) entry station station_now way.writes (turn_writes state (turn_by verdict) station station_now wrote stays))

      -- one more line is answered
      pub next_way : {E : Type 0} (m : ℕ) → m ≡ answered + 1 → OneStep {A = Unit {0}} {E = E} line state shelf_now after station station_now (Ok tt)
          → ReadsWithin (most_read_by state.gaz (request_in line)) station station_now → WritesWithin (most_written_by after.files (request_in line)) station station_now → UnderWay first bytes later m shelf after entry station_now
      next_way {E = E} m one_more step read wrote =
          let turn : Turn = turn_by step.verdict in
          let well : Result (Unit {0}) E = Ok tt in
          let reply = reply_text (answer_at state turn).reply in
          record {
            turns = way.turns ++ turn ∷ [];
            count = (let more = length-append way.turns (turn ∷ []) in let count = way.count in omega (arith, more, count, one_more));
            are_lines = subst (λ lines. AllByRecursion IsLine lines) (sym (asked_more way.turns turn)) (are_more (asked way.turns) (line ∷ []) way.are_lines (is_line, tt));
            told = subst (λ lines. IfSome bytes (λ text. Told 4096 lines later text)) (sym (asked_more way.turns turn)) told;
            files = files_more well step;
            legal = legal_more first way.turns turn way.legal step.may;
            mirrors = subst (λ (s : State). Mirrors station_now.bytes s.gaz) (sym (state_more first way.turns turn)) (step.given.mirrors is_told way.mirrors);
            causes = causes_more well step;
            last_cause = last_more well step;
            text_is =
                step.given.printed
                ∙ ap (λ known. append_known known reply) way.text_is
                ∙ append_two (printed_of entry) (replies first way.turns) reply
                ∙ ap (append_known (printed_of entry)) (sym (replies_more first way.turns turn));
            unwritten = λ none. unwritten_on step.verdict step.given.stays none;
            reads = reads_more step.verdict read;
            writes = writes_more step.verdict step.given.stays wrote;
            keeps = λ entry_told holds.
                let run = way.keeps entry_told holds in
                goes_on first entry station station_now state way.turns turn run (λ a. stay a is_told) (step.given.moments is_told run.holds) (state_after first (way.turns ++ turn ∷ []))
                (printed_whole reply station station_now is_told still_now step.given.printed) (step.given.holds is_told run.holds) (state_more first way.turns turn);
          }

      -- the reply of one more line is cut
      pub run_cut : {E : Type 0} → ((a : Area) → IsTrue station_now.is_told → station_now.may_leave a (station_now.bytes a)) → ((t : ℕ) (c : Outcome) → IsTrue station_now.is_told → t ≤ station_now.moment → Leaves station_now c → station_now.left_since t c)
          → (status : ℕ) (bytes_now : Option (List ℕ)) → status ≡ 3 → IsHeard 65536 bytes bytes_now answered → (failed : E) → OneStep {A = Unit {0}} {E = E} line state shelf_now after station station_now (Err failed)
          → ReadsWithin (most_read_by state.gaz (request_in line)) station station_now → WritesWithin (most_written_by after.files (request_in line)) station station_now → RunAnswersWithin first bytes bytes_now shelf after entry station_now status
      run_cut {E = E} stay_now counts status bytes_now three heard failed step read wrote =
          let turn : Turn = turn_by step.verdict in
          let bad : Result (Unit {0}) E = Err failed in
          let front = step.given.printed.0 in
          let some = lines_given bytes (asked way.turns ++ line ∷ []) later false (are_more (asked way.turns) (line ∷ []) way.are_lines (is_line, tt)) told in
          let reply_on : replies first (way.turns ++ turn ∷ []) ≡ replies first way.turns ++ reply_text (answer_at state turn).reply = replies_more first way.turns turn in
          let files_on : HaveFiles shelf (way.turns ++ turn ∷ []) after = files_more bad step in
          record {
            run = record {
              given = some.0;
              turns = way.turns ++ turn ∷ [];
              unanswered = some.1;
              lines_are = some.2 ∙ ap (λ lines. lines ++ some.1) (sym (asked_more way.turns turn));
              files = files_on;
              same_files = λ files only. each_has files shelf (way.turns ++ turn ∷ []) after files_on only;
              legal = legal_more first way.turns turn way.legal step.may;
              causes = causes_more bad step;
              last_cause = last_more bad step;
              text = replies first way.turns ++ front;
              text_is =
                  step.given.printed.2
                  ∙ ap (λ known. append_known known front) way.text_is
                  ∙ append_two (printed_of entry) (replies first way.turns) front;
              whole = λ other. absurd (other three);
              cut = λ is. record {
                front = (step.given.printed.1.0, reply_on ∙ ap (λ xs. replies first way.turns ++ xs) step.given.printed.1.1 ∙ sym (append_assoc (replies first way.turns) front step.given.printed.1.0));
                begun = λ earlier last same. subst (λ (ts : List Turn). IsPrefix (replies first ts) (replies first way.turns ++ front)) (but_last way.turns earlier turn last same) (front, refl);
              };
              keeps = λ entry_told holds.
                  let run = way.keeps entry_told holds in
                  let now = subst (λ (b : Bool). IsTrue b) (sym still_now) is_told in
                  subst (λ (n : ℕ). Keeps (record { first = first; turns = way.turns ++ turn ∷ [] }) entry station_now n) (sym three)
                  (ends_cut first entry station station_now state way.turns turn run (λ a. stay a is_told) (step.given.moments is_told run.holds) (λ a. stay_now a now) (λ t c le leaves. counts t c now le leaves));
              unwritten = λ entry_told nothing none. unwritten_by entry station_now entry_told (unwritten_on step.verdict step.given.stays none);
              ended = λ is. absurd (omega (arith, three, is));
              past = λ is. absurd (omega (arith, three, is));
              heard = λ is. absurd (omega (arith, three, is));
              heard_before = λ is. subst (IsHeard 65536 bytes bytes_now) (one_less way.turns turn answered way.count) heard;
              unanswering = λ either. ⊎_elim (λ is. absurd (omega (arith, three, is))) (λ is. absurd (omega (arith, three, is))) either;
            };
            reads = reads_more step.verdict read;
            writes = writes_more step.verdict step.given.stays wrote;
          }

-- before the first line
pub way_first : (first : State) (bytes : Option (List ℕ)) (now : Option Rest) (answered : ℕ) (view : ShelfView) (entry : StationView) → view.faults < 2 ^ 64 → answered ≡ 0 → ((c : Outcome) → IsTrue entry.is_told → entry.left_since entry.moment c → Leaves entry c)
    → Mirrors entry.bytes first.gaz → IfSome bytes (λ text. Told 4096 [] now text) → UnderWay first bytes now answered view view entry entry
way_first first bytes now answered view entry fits none only mirrors told = record {
  turns = [];
  count = sym none;
  are_lines = tt;
  told = told;
  files = (refl, refl);
  legal = tt;
  mirrors = mirrors;
  causes = omega (arith, fits);
  last_cause = refl;
  text_is = append_none (printed_of entry);
  unwritten = λ none. kept_same entry;
  reads = omega arith;
  writes = omega arith;
  keeps = λ is_told holds. starts first entry (λ c left. only c is_told left) holds;
}

-- a line that is too long is refused by the grammar
long_request : (line : List ℕ) → 4096 < length line → request_in line ≡ Err Length
unfolding request_in
long_request line long = let more : nat_lt 4096 (length line) ≡ true = grind (arith, common_steps) in rw more refl

pub long_step : {E : Type 0} (line : List ℕ) (state : State) (view : ShelfView) (station station_now : StationView) (result : Result (Unit {0}) E) → ((c : Outcome) → IsTrue station.is_told → station.left_since station.moment c → Leaves station c)
    → 4096 < length line → Prints (reply_text (refused (request (codes "length")))) station station_now result → IsCutIn (reply_text (refused (request (codes "length")))) station station_now → AreasKept station station_now → OneStep line state view view station station_now result
long_step line state view station station_now result only long printed cut stay = record {
  verdict = plain;
  may = tt;
  blamed = record { faults = refl; last = refl };
  closes = subst (λ r. Closes (opens state r) view view) (sym (long_request line long)) (λ n. refl, record { told = refl; files = refl; earlier = refl });
  given = subst (λ r. IsGiven (answer_to_read state view.files r) state station station_now result) (sym (long_request line long))
      (told_given state (refused (request (codes "length"))) station station_now result only printed cut stay);
}

-- and reads no page
pub long_reads : (line : List ℕ) (state : State) (station station_now : StationView) → 4096 < length line → station_now.reads ≡ station.reads → ReadsWithin (most_read_by state.gaz (request_in line)) station station_now
long_reads line state station station_now long same =
    subst (λ r. ReadsWithin (most_read_by state.gaz r) station station_now) (sym (long_request line long)) (omega (arith, same))

pub long_writes : (line : List ℕ) (files : Files) (station station_now : StationView) → 4096 < length line → station_now.writes ≡ station.writes → WritesWithin (most_written_by files (request_in line)) station station_now
long_writes line files station station_now long same =
    subst (λ r. WritesWithin (most_written_by files r) station station_now) (sym (long_request line long)) (omega (arith, same))

-- one more line was given, where the bytes are told
pub line_told : (bytes : Option (List ℕ)) (given : List (List ℕ)) (line : List ℕ) (old new : Option Rest) → old ≡ option_map (onto (Some line)) new → IfSome bytes (λ text. Told 4096 given old text) → IfSome bytes (λ text. Told 4096 (given ++ line ∷ []) new text)
line_told None given line old new gives told = tt
line_told (Some text) given line old new gives told = told_line 4096 given line old new text gives told

-- what goes on past the limit when no line is left is too long
pub goes_past : (bytes : Option (List ℕ)) (lines : List (List ℕ)) (now : Option Rest) → IfSome now (λ rest. rest ≡ rest_with [] true) → IfSome bytes (λ text. Told 4096 lines now text) → IfSome bytes (λ text. is_too_long text ≡ true)
goes_past None lines now none told = tt
goes_past (Some text) lines now none told = (told_end 4096 lines now text true told none).1

-- one more line was too long: some line that is longer than the limit, and that of the text where it is told
pub long_told : (bytes : Option (List ℕ)) (given : List (List ℕ)) (shown : List ℕ) (old new : Option Rest) → 4096 < length shown → IsLine shown → old ≡ option_map (onto None) new → IfSome bytes (λ text. Told 4096 given old text) → (line : List ℕ) × (4096 < length line) × IsLine line × IfSome bytes (λ text. Told 4096 (given ++ line ∷ []) new text)
long_told None given shown old new long is gives told = (shown, long, is, tt)
long_told (Some text) given shown old new long is gives told =
    let next = told_too_long 4096 given old new text gives told in
    (next.0, next.1, of_last given next.0 next.2.later (subst (λ lines. AllByRecursion IsLine lines) next.2.lines_are (lines_are_lines (2 ^ 40) text)), next.2)
  where
    of_last : (given : List (List ℕ)) (line : List ℕ) (later : List (List ℕ)) → AllByRecursion IsLine ((given ++ line ∷ []) ++ later) → IsLine line
    of_last [] line later are = are.0
    of_last (x ∷ given) line later are = of_last given line later are.1
