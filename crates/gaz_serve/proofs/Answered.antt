-- What a run answered, and when all is met as it is defined.
use Rattle.std.proofs.Common.{◌≡◌, ◌≢◌, ℕ, zero, suc, ◌+◌, ◌^◌, ◌<◌, ◌≤◌, Bool, true, false, true≢false, IsTrue, cond, List, [], ◌∷◌, ◌++◌, refl, ap, arith, ◌⊎◌, inl, inr, Option, ◌∙◌, sym, subst}
use Rattle.std.specs.Prelude.{count_by}
use Rattle.std.specs.List.{AllByRecursion}
use Rattle.std.specs.Io.KnownBytes.{append_known}
use Rattle.std.proofs.lemmas.List.Sums.{sum_by-cons}
use Rattle.std.proofs.lemmas.Bool.{false≢true}
use Rattle.std.proofs.lemmas.List.{append-nil}
use Rattle.std.proofs.Transfers.{drop-appended}
use Rattle.gaz_outside.specs.Outside.{ShelfView, StationView, HasRisen, RisesOnce, printed_of}
use Rattle.gaz_outside.specs.Station.{LeavesOnly}
use Rattle.gaz_outside.proofs.Runs.{goes_far, leaves_weaker}
use Rattle.gaz_rows.specs.Holds.{AllHold}
use Rattle.gaz_open.specs.Opens.{IsOpening, NothingToRedo}
use Rattle.gaz_open.proofs.Opened.{same_nothing, found_still}
use Rattle.gaz_reply.proofs.Pieces.{append_none}
use Rattle.gaz_reply.proofs.Cuts.{printed_whole}
use Rattle.gaz_turns.specs.Turns.{State, Turn, Verdict, plain, memory, shelf, is_shelf, shelf_refusals}
use Rattle.gaz_turns.specs.Head.{HoldsAcked, Keeps, IsFoundOrStop, IsExit}
use Rattle.gaz_turns.proofs.Told.{same_printed}
use Rattle.gaz_turns.proofs.Underway.{from_open}
use Rattle.gaz_serve.specs.Bounds.{OpensReadsWithin, OpensWritesWithin, most_read_in, most_written_in}
use Rattle.gaz_serve.specs.Ran.{is_memory, memory_refusals, asked, RisesBy, IsUnwritten, RunAnswers, IsAnswered}
use Rattle.gaz_serve.proofs.Lines.{unread}
use Rattle.gaz_serve.proofs.Taken.{answered_nothing}

-- one turn more is counted, where its verdict passes
one_more : (test : Verdict → Bool) (turn : Turn) (turns : List Turn) → count_by (λ turn. test turn.verdict) (turn ∷ turns) ≡ cond (test turn.verdict) 1 0 + count_by (λ turn. test turn.verdict) turns
one_more test turn turns = sum_by-cons (λ turn. cond (test turn.verdict) 1 0) turn turns

-- a verdict that is neither of the others
is_plain : (verdict : Verdict) → (1 ≤ cond (is_shelf verdict) 1 0 → ⊥) → (1 ≤ cond (is_memory verdict) 1 0 → ⊥) → verdict ≡ plain
is_plain plain no_shelf no_memory = refl
is_plain memory no_shelf no_memory = absurd (no_memory (omega arith))
is_plain (shelf file) no_shelf no_memory = absurd (no_shelf (omega arith))

all_plain : (turns : List Turn) → shelf_refusals turns ≡ 0 → memory_refusals turns ≡ 0 → AllByRecursion (λ (turn : Turn). turn.verdict ≡ plain) turns
all_plain [] no_shelf no_memory = tt
all_plain (turn ∷ turns) no_shelf no_memory =
    let shelves = one_more is_shelf turn turns in
    let memories = one_more is_memory turn turns in (
      is_plain turn.verdict (λ some. omega (arith, shelves, no_shelf, some)) (λ some. omega (arith, memories, no_memory, some)),
      all_plain turns (omega (arith, shelves, no_shelf)) (omega (arith, memories, no_memory)),
    )

by_size : (n : ℕ) → (n ≡ 0) ⊎ (1 ≤ n)
by_size zero = inl refl
by_size (suc n) = inr (omega arith)

no_refusals : (n before now : ℕ) → RisesBy n before now → (HasRisen before now → ⊥) → n ≡ 0
no_refusals n before now rises still = elim (by_size n) [ inl none ↦ none | inr more ↦ absurd (still (omega (arith, rises, more))) ]

module _ (first : State) (bytes bytes_now : Option (List ℕ)) (source source_now : ℕ) (shelf shelf_now : ShelfView) (station station_now : StationView) (unopened : Type 0) (status : ℕ) where
  -- whether something failed
  abbrev Failed : Type 0
  Failed = HasRisen source source_now ⊎ HasRisen shelf.faults shelf_now.faults ⊎ HasRisen station.faults station_now.faults

  pub answered : (run : RunAnswers first bytes bytes_now shelf shelf_now station station_now status) → OpensReadsWithin (most_read_in first run.turns) station station_now → OpensWritesWithin (most_written_in first run.turns) station station_now
      → (IsTrue station.is_told → LeavesOnly station station_now (IsFoundOrStop (record { first = first; turns = run.turns }) station))
      → (unopened ⊎ (IsTrue station.is_told → IsExit (record { first = first; turns = run.turns }) station_now run.text status)) → (status ≡ 3 → RisesOnce station.faults station_now.faults) → (status ≡ 4 → RisesOnce source source_now) → (status ≡ 0) ⊎ (status ≡ 3) ⊎ (status ≡ 4) ⊎ (status ≡ 5) ⊎ (status ≡ 6) ⊎ (status ≡ 7)
      → IsAnswered first bytes bytes_now shelf shelf_now station station_now Failed unopened status
  answered run reads writes stops exit three four others = record {
    run = run;
    reads = reads;
    writes = writes;
    stops = stops;
    exit = exit;
    complete = λ quiet not_starved is_mirror no_memory within. by_status quiet not_starved is_mirror no_memory within others;
  }
    where
      by_status : (Failed → ⊥) → status ≢ 5 → status ≢ 6 → memory_refusals run.turns ≡ 0 → run.given.is_past ≡ false → (status ≡ 0) ⊎ (status ≡ 3) ⊎ (status ≡ 4) ⊎ (status ≡ 5) ⊎ (status ≡ 6) ⊎ (status ≡ 7) → (status ≡ 0) × (asked run.turns ≡ run.given.lines) × AllByRecursion (λ (turn : Turn). turn.verdict ≡ plain) run.turns
      by_status quiet not_starved is_mirror no_memory within (inl is) = (
        is,
        sym (run.lines_are ∙ ap (λ rest. asked run.turns ++ rest) (run.ended is).0 ∙ append-nil (asked run.turns)),
        all_plain run.turns (no_refusals (shelf_refusals run.turns) shelf.faults shelf_now.faults run.causes (λ rose. quiet (inr (inl rose)))) no_memory,
      )
      by_status quiet not_starved is_mirror no_memory within (inr (inl is)) = absurd (quiet (inr (inr (omega (arith, three is)))))
      by_status quiet not_starved is_mirror no_memory within (inr (inr (inl is))) = absurd (quiet (inl (omega (arith, four is))))
      by_status quiet not_starved is_mirror no_memory within (inr (inr (inr (inl is)))) = absurd (not_starved is)
      by_status quiet not_starved is_mirror no_memory within (inr (inr (inr (inr (inl is))))) = absurd (is_mirror is)
      by_status quiet not_starved is_mirror no_memory within (inr (inr (inr (inr (inr is))))) = absurd (false≢true (sym within ∙ (run.past is).1))

pub none_one : (earlier : List Turn) (last : Turn) → [] ≡ earlier ++ last ∷ [] → ⊥
none_one [] last is = true≢false (ap is_empty is)
  where
    is_empty : List Turn → Bool
    is_empty [] = true
    is_empty (t ∷ ts) = false
none_one (t ∷ ts) last is = true≢false (ap is_empty is)
  where
    is_empty : List Turn → Bool
    is_empty [] = true
    is_empty (u ∷ us) = false

-- the status of an opening that failed is no other
pub unlike : {A : Type 0} (status n : ℕ) → (status ≡ 3) ⊎ (status ≡ 5) ⊎ (status ≡ 6) → status ≡ n → (n ≡ 3 → A) → (n ≡ 5 → A) → (n ≡ 6 → A) → A
unlike status n (inl is) same three five six = three (omega (arith, is, same))
unlike status n (inr (inl is)) same three five six = five (omega (arith, is, same))
unlike status n (inr (inr is)) same three five six = six (omega (arith, is, same))

-- no mirror opened, and no line was answered
abbrev pub run_unopened : (first : State) (bytes : Option (List ℕ)) (view : ShelfView) (entry exit : StationView) (status : ℕ) → view.faults < 2 ^ 64 → (status ≡ 3) ⊎ (status ≡ 5) ⊎ (status ≡ 6) → printed_of exit ≡ printed_of entry
    → (IsTrue entry.is_told → AllHold entry first.gaz → Keeps (record { first = first; turns = [] }) entry exit status)
    → (IsTrue entry.is_told → NothingToRedo entry.bytes → IsUnwritten entry exit)
    → RunAnswers first bytes bytes view view entry exit status
run_unopened first bytes view entry exit status fits why printed keeps unwritten = record {
  given = unread bytes;
  turns = [];
  unanswered = (unread bytes).lines;
  lines_are = refl;
  files = (refl, refl);
  same_files = λ files only. tt;
  legal = tt;
  causes = omega (arith, fits);
  last_cause = refl;
  text = [];
  text_is = printed ∙ append_none (printed_of entry);
  whole = λ is. refl;
  cut = λ is. record { front = ([], refl); begun = λ earlier last same. absurd (none_one earlier last same) };
  keeps = keeps;
  unwritten = λ told nothing none. unwritten told nothing;
  ended = λ is. unlike status 0 why is (λ e. absurd (omega (arith, e))) (λ e. absurd (omega (arith, e))) (λ e. absurd (omega (arith, e)));
  past = λ is. unlike status 7 why is (λ e. absurd (omega (arith, e))) (λ e. absurd (omega (arith, e))) (λ e. absurd (omega (arith, e)));
  heard = λ is. unlike status 4 why is (λ e. absurd (omega (arith, e))) (λ e. absurd (omega (arith, e))) (λ e. absurd (omega (arith, e)));
  heard_before = λ is. answered_nothing 65536 0 bytes;
  unanswering = λ is. refl;
}

-- a run that begins with an opening
abbrev pub run_opened : (first : State) (bytes bytes_now : Option (List ℕ)) (view view_now : ShelfView) (entry mid exit : StationView) (status : ℕ) → IsOpening entry mid → (IsTrue entry.is_told → AllHold mid first.gaz)
    → RunAnswers first bytes bytes_now view view_now mid exit status → RunAnswers first bytes bytes_now view view_now entry exit status
run_opened first bytes bytes_now view view_now entry mid exit status opened holds run =
    let still : IsTrue entry.is_told → IsTrue mid.is_told = λ told. subst (λ (b : Bool). IsTrue b) (sym opened.counts.told) told in
    record {
      given = run.given;
      turns = run.turns;
      unanswered = run.unanswered;
      lines_are = run.lines_are;
      files = run.files;
      same_files = run.same_files;
      legal = run.legal;
      causes = run.causes;
      last_cause = run.last_cause;
      text = run.text;
      text_is = run.text_is ∙ ap (λ known. append_known known run.text) (same_printed entry mid opened.counts.told opened.printed);
      whole = run.whole;
      cut = run.cut;
      keeps = λ told all. from_open first.gaz entry mid exit run.turns status (leaves_weaker entry mid _ _ (λ c found. found_still entry first.gaz c all found) (opened.moments told)) (opened.printed told) (run.keeps (still told) (holds told));
      unwritten = λ told nothing none.
          let same = opened.untouched told nothing in
          let rest = run.unwritten (still told) (same_nothing entry mid same nothing) none in
          record { bytes = λ a. rest.bytes a ∙ same.bytes a; writes = rest.writes ∙ opened.unwritten told nothing };
      ended = run.ended;
      past = run.past;
      heard = run.heard;
      heard_before = run.heard_before;
      unanswering = run.unanswering;
    }

-- what a run that begins with an opening leaves, whatever was pending before: all outcomes had one gazetteer when it was open
module _ (first : State) (bytes bytes_now : Option (List ℕ)) (shelf shelf_now : ShelfView) (entry mid exit : StationView) (status : ℕ) (opening : IsOpening entry mid) (holds : IsTrue entry.is_told → AllHold mid first.gaz)
    (run : RunAnswers first bytes bytes_now shelf shelf_now mid exit status)
  where
    kept : IsTrue entry.is_told → Keeps (record { first = first; turns = run.turns }) mid exit status
    kept told = run.keeps (subst (λ (b : Bool). IsTrue b) (sym opening.counts.told) told) (holds told)

    pub stops_opened : IsTrue entry.is_told → LeavesOnly entry exit (IsFoundOrStop (record { first = first; turns = run.turns }) entry)
    stops_opened told =
        goes_far entry mid exit _ _ (leaves_weaker entry mid _ _ (λ c found. inl found) (opening.moments told)) (kept told).stops
        (λ c stop. inr (record { text = stop.text; printed = stop.printed ∙ ap (λ (l : List ℕ). l ++ stop.text) (opening.printed told); front = stop.front; holds = stop.holds }))

    pub exit_opened : exit.is_told ≡ mid.is_told → IsTrue entry.is_told → IsExit (record { first = first; turns = run.turns }) exit run.text status
    exit_opened same told =
        let keeps = kept told in
        let here = subst (λ (b : Bool). IsTrue b) (sym opening.counts.told) told in
        let whole = printed_whole run.text mid exit here same run.text_is in
        let texts : keeps.text ≡ run.text = sym (drop-appended mid.printed exit.printed keeps.text keeps.printed) ∙ drop-appended mid.printed exit.printed run.text whole in
        record {
          ended = keeps.ended;
          cut = λ is c leaves. subst (λ (text : List ℕ). HoldsAcked (record { first = first; turns = run.turns }) text c.areas) texts (keeps.cut is c leaves);
        }

-- the statuses of a run, and those of an opening that failed
pub with_unopened : (status : ℕ) → (status ≡ 0) ⊎ (status ≡ 3) ⊎ (status ≡ 4) ⊎ (status ≡ 6) ⊎ (status ≡ 7) → (status ≡ 0) ⊎ (status ≡ 3) ⊎ (status ≡ 4) ⊎ (status ≡ 5) ⊎ (status ≡ 6) ⊎ (status ≡ 7)
with_unopened status (inl is) = inl is
with_unopened status (inr (inl is)) = inr (inl is)
with_unopened status (inr (inr (inl is))) = inr (inr (inl is))
with_unopened status (inr (inr (inr (inl is)))) = inr (inr (inr (inr (inl is))))
with_unopened status (inr (inr (inr (inr is)))) = inr (inr (inr (inr (inr is))))

-- the run ended, and not with 5
pub opened_status : {A : Type 0} (status : ℕ) → (status ≡ 0) ⊎ (status ≡ 3) ⊎ (status ≡ 4) ⊎ (status ≡ 6) ⊎ (status ≡ 7) → status ≡ 5 → A
opened_status status (inl is) five = absurd (omega (arith, is, five))
opened_status status (inr (inl is)) five = absurd (omega (arith, is, five))
opened_status status (inr (inr (inl is))) five = absurd (omega (arith, is, five))
opened_status status (inr (inr (inr (inl is)))) five = absurd (omega (arith, is, five))
opened_status status (inr (inr (inr (inr is)))) five = absurd (omega (arith, is, five))
