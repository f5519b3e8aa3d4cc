-- What was read of the line at hand, while the source or the file is asked for more.
use Rattle.std.proofs.Common.{◌≡◌, ◌≢◌, ℕ, zero, suc, ◌+◌, ◌<◌, ◌≤◌, List, [], ◌∷◌, ◌++◌, length, take, refl, ap, arith, ◌∙◌, sym, subst, length-append, append_assoc, Option, inl, inr, Some, None}
use Rattle.std.specs.Prelude.{IfSome, option_map, Result, Ok, Err}
use Rattle.std.specs.List.{repeat}
use Rattle.std.proofs.lemmas.Bool.{false≢true}
use Rattle.std.specs.Io.KnownBytes.{prepend_known}
use Rattle.std.proofs.Math.Seq.{take-append_seam}
use Rattle.std.proofs.lemmas.List.{append-nil}
use Rattle.gaz_outside.specs.Outside.{IsPrefix}
use Rattle.gaz_lines.specs.Lines.{IsLine, rest_of}
use Rattle.gaz_lines.specs.Window.{items}
use Rattle.gaz_lines.specs.Cutter.{held, pending, rest, HasEnded, Waited}
use Rattle.gaz_lines.specs.Step.{Stepped, MadeRoom}
use Rattle.gaz_lines.specs.declared.cutter.LineCutter.{LineCutter}
use Rattle.gaz_lines.specs.declared.window.Span.{Span}
use Rattle.gaz_lines.specs.declared.fault.LineFault.{LineFault}
use Rattle.gaz_lines.specs.declared.fault.LineFault.TheVariants.{Failed, TooLong, FileTooLong}
use Rattle.gaz_lines.specs.declared.cutter.Step.TheVariants.{Done, More}
use Rattle.gaz_lines.proofs.Lists.{line_append}
use Rattle.gaz_lines.proofs.Rests.{prepend_two, prepend_none, same_rest}

-- Of what was pending the front was let go, and then comes what is held, of which a part was looked through.
pub record Reading (old cutter : LineCutter) (searched : ℕ) (left left_now : Option (List ℕ)) : Type 0 where
  pub front : List ℕ
  pub front_line : IsLine front
  pub front_size : length front ≡ cutter.dropped
  pub before : pending old left ≡ prepend_known (front ++ items cutter.window) left_now
  pub holds : IsPrefix (held old) (front ++ items cutter.window)
  pub searched_line : IsLine (take searched (items cutter.window))
  pub searched_held : searched ≤ length (items cutter.window)
  pub searched_within : cutter.dropped + searched ≤ cutter.allowed
  pub ended : HasEnded cutter → IfSome left_now (λ bytes. bytes ≡ [])
  pub still_ended : HasEnded old → HasEnded cutter
  pub allowed : cutter.allowed ≡ old.allowed
  pub number : cutter.number ≡ old.number
  pub line_limit : cutter.line_limit ≡ old.line_limit
  pub file_limit : cutter.file_limit ≡ old.file_limit

not_ten : (let n : ℕ = 0 in n) ≢ 10
not_ten is = absurd (omega (arith, is))

pub zeros_line : (n : ℕ) → IsLine (repeat n (0 ∷ []))
zeros_line zero = tt
zeros_line (suc n) = (not_ten, zeros_line n)

pub zeros_size : (n : ℕ) → length {A = ℕ} (repeat n (0 ∷ [])) ≡ n
zeros_size zero = refl
zeros_size (suc n) = ap suc (zeros_size n)

pub no_front : (front : List ℕ) (n : ℕ) → length front ≡ n → n ≡ 0 → front ≡ []
no_front [] n size none = refl
no_front (x ∷ front) n size none = absurd (omega (arith, size, none))

module _ (old cutter : LineCutter) (left : Option (List ℕ)) (ended : HasEnded old → IfSome left (λ bytes. bytes ≡ [])) where
  pub reading_starts : cutter.window ≡ old.window → cutter.dropped ≡ old.dropped → cutter.allowed ≡ old.allowed → cutter.number ≡ old.number → cutter.line_limit ≡ old.line_limit → cutter.file_limit ≡ old.file_limit → cutter.ended ≡ old.ended → Reading old cutter 0 left left
  reading_starts window dropped allowed number line_limit file_limit same = record {
    front = repeat old.dropped (0 ∷ []);
    front_line = zeros_line old.dropped;
    front_size = zeros_size old.dropped ∙ sym dropped;
    before = ap (λ w. prepend_known (repeat old.dropped (0 ∷ []) ++ items w) left) (sym window);
    holds = ([], ap (λ w. repeat old.dropped (0 ∷ []) ++ items w) window ∙ sym (append-nil (held old)));
    searched_line = tt;
    searched_held = omega arith;
    searched_within = omega (arith, cutter.within);
    ended = λ is. ended (sym same ∙ is);
    still_ended = λ is. same ∙ is;
    allowed = allowed;
    number = number;
    line_limit = line_limit;
    file_limit = file_limit;
  }

-- what is let go and what is held, after room was made
pub record Made (front : List ℕ) (cutter mid : LineCutter) (count : ℕ) : Type 0 where
  pub behind : List ℕ
  pub behind_line : IsLine behind
  pub behind_size : length behind ≡ mid.dropped
  pub text : behind ++ items mid.window ≡ front ++ items cutter.window
  pub held_line : IsLine (items mid.window)
  pub within : mid.dropped + count ≤ mid.allowed

made : (front : List ℕ) (cutter mid : LineCutter) (count : ℕ) → IsLine front → length front ≡ cutter.dropped → Stepped cutter mid (More count) → Made front cutter mid count
made front cutter mid count is size step =
    let m = step.3 in
    let room : length front + length (items cutter.window) ≤ cutter.allowed = omega (arith, size, step.1) in
    elim m.held [
      | inl same ↦ record {
        behind = front;
        behind_line = is;
        behind_size = size ∙ sym same.1;
        text = ap (λ xs. front ++ xs) same.0;
        held_line = subst IsLine (sym same.0) step.0;
        within = omega (arith, m.count_is, ap length same.0, same.1, m.allowed, step.1);
      }
      | inr gone ↦ record {
        behind = front ++ items cutter.window;
        behind_line = line_append front (items cutter.window) is step.0;
        behind_size = length-append front (items cutter.window) ∙ ap (λ n. n + length (items cutter.window)) size ∙ sym gone.1;
        text = ap (λ xs. (front ++ items cutter.window) ++ xs) gone.0 ∙ append-nil (front ++ items cutter.window);
        held_line = subst IsLine (sym gone.0) tt;
        within = omega (arith, m.count_is, ap length gone.0, gone.1, m.allowed, step.1);
      }
    ]

after_nothing : (chunk : List ℕ) (now later : Option (List ℕ)) → now ≡ prepend_known chunk later → length chunk ≡ 0 → IfSome now (λ bytes. bytes ≡ []) → IfSome later (λ bytes. bytes ≡ [])
after_nothing [] now later took none empty = subst (λ o. IfSome o (λ bytes. bytes ≡ [])) (took ∙ prepend_none later) empty
after_nothing (x ∷ chunk) now later took none empty = absurd (omega (arith, none))

module _ (old cutter mid : LineCutter) (searched count : ℕ) (left now : Option (List ℕ)) (r : Reading old cutter searched left now) (step : Stepped cutter mid (More count)) where
  text_line : IsLine (r.front ++ items cutter.window)
  text_line = line_append r.front (items cutter.window) r.front_line step.0

  text_within : length (r.front ++ items cutter.window) ≤ old.allowed
  text_within = omega (arith, length-append r.front (items cutter.window), r.front_size, step.1, r.allowed)

  -- It isn't asked after the end.
  pub goes_on : HasEnded old → ⊥
  goes_on is = absurd (false≢true (sym step.2 ∙ r.still_ended is))

  -- the source was asked
  pub waited : (room : ℕ) (chunk : List ℕ) (later : Option (List ℕ)) → now ≡ prepend_known chunk later → length chunk ≤ room → Waited old.allowed room (held old) (pending old left) later
  waited room chunk later took fits = record {
    part = r.front ++ items cutter.window;
    is_line = text_line;
    within = text_within;
    holds = r.holds;
    chunk = chunk;
    fits = fits;
    given = r.before ∙ ap (prepend_known (r.front ++ items cutter.window)) took ∙ sym (prepend_two (r.front ++ items cutter.window) chunk later);
  }

  pub reads_on : (next : LineCutter) (n : ℕ) (chunk : List ℕ) (later : Option (List ℕ)) → items next.window ≡ items mid.window ++ chunk → now ≡ prepend_known chunk later → length chunk ≡ n → (n ≡ 0 → IfSome now (λ bytes. bytes ≡ [])) → next.dropped ≡ mid.dropped → next.allowed ≡ mid.allowed → next.number ≡ mid.number → next.line_limit ≡ mid.line_limit → next.file_limit ≡ mid.file_limit → (HasEnded next → n ≡ 0) → Reading old next count left later
  reads_on next n chunk later more took size end dropped allowed number line_limit file_limit ends =
      let m = made r.front cutter mid count r.front_line r.front_size step in
      let room = step.3 in
      let held_now : m.behind ++ items next.window ≡ (r.front ++ items cutter.window) ++ chunk =
      ap (λ xs. m.behind ++ xs) more ∙ sym (append_assoc m.behind (items mid.window) chunk) ∙ ap (λ xs. xs ++ chunk) m.text in
      record {
        front = m.behind;
        front_line = m.behind_line;
        front_size = m.behind_size ∙ sym dropped;
        before = r.before ∙ ap (prepend_known (r.front ++ items cutter.window)) took
            ∙ sym (prepend_two (r.front ++ items cutter.window) chunk later)
            ∙ ap (λ xs. prepend_known xs later) (sym held_now);
        holds = (r.holds.0 ++ chunk, held_now ∙ ap (λ xs. xs ++ chunk) r.holds.1 ∙ append_assoc (held old) r.holds.0 chunk);
        searched_line = subst IsLine (sym (ap (take count) more ∙ ap (λ k. take k (items mid.window ++ chunk)) room.count_is ∙ take-append_seam (items mid.window) chunk)) m.held_line;
        searched_held = omega (arith, ap length more, length-append (items mid.window) chunk, room.count_is);
        searched_within = omega (arith, m.within, dropped, allowed);
        still_ended = λ is. absurd (goes_on is);
        ended = λ is. after_nothing chunk now later took (size ∙ ends is) (end (ends is));
        allowed = allowed ∙ room.allowed ∙ r.allowed;
        number = number ∙ room.number ∙ r.number;
        line_limit = line_limit ∙ room.same.line_limit ∙ r.line_limit;
        file_limit = file_limit ∙ room.same.file_limit ∙ r.file_limit;
      }

  -- after a failure the rest is as before
  pub rest_kept : (next : LineCutter) → items next.window ≡ items mid.window → next.dropped ≡ mid.dropped → next.allowed ≡ mid.allowed → next.line_limit ≡ mid.line_limit → rest next now ≡ rest old left
  rest_kept next same dropped allowed line_limit =
      let m = made r.front cutter mid count r.front_line r.front_size step in
      let room = step.3 in
      let limit_is : next.line_limit ≡ old.line_limit = line_limit ∙ room.same.line_limit ∙ r.line_limit in
      let allowed_is : next.allowed ≡ old.allowed = allowed ∙ room.allowed ∙ r.allowed in
      let zeros = repeat next.dropped (0 ∷ []) in
      let size : length zeros ≡ length m.behind = zeros_size next.dropped ∙ dropped ∙ sym m.behind_size in
      same_rest next.line_limit next.allowed zeros m.behind (items next.window) now size (zeros_line next.dropped) m.behind_line
      (λ some. subst (λ n. next.line_limit < n) (sym (zeros_size next.dropped)) (next.too_long (subst (λ n. 0 < n) (zeros_size next.dropped) some)))
      (subst (λ n. n ≤ next.allowed) (sym (zeros_size next.dropped)) next.within)
      ∙ ap (λ xs. option_map (rest_of next.line_limit next.allowed) (prepend_known (m.behind ++ xs) now)) same
      ∙ ap (λ xs. option_map (rest_of next.line_limit next.allowed) (prepend_known xs now)) m.text
      ∙ ap (option_map (rest_of next.line_limit next.allowed)) (sym r.before)
      ∙ ap (λ k. option_map (rest_of k next.allowed) (pending old left)) limit_is
      ∙ ap (λ k. option_map (rest_of old.line_limit k) (pending old left)) allowed_is

-- making room keeps how much of the line at hand was read
pub room_size : (old new : LineCutter) (count : ℕ) → MadeRoom old new count → new.dropped + length (items new.window) ≡ old.dropped + length (items old.window)
room_size old new count room = elim room.held [
  | inl same ↦ omega (arith, ap length same.0, same.1)
  | inr gone ↦ omega (arith, ap length gone.0, gone.1)
]

pub still_reads : (cutter new : LineCutter) (result : Result (Option Span) LineFault) → Stepped cutter new (Done result) → new.reads ≡ cutter.reads
still_reads cutter new (Ok (Some span)) (inl c) = c.4.same.reads
still_reads cutter new (Ok (Some span)) (inr c) = c.3.same.reads
still_reads cutter new (Ok None) step = ap (λ c. c.reads) step.0
still_reads cutter new (Err Failed) (inl c) = c.4.same.reads
still_reads cutter new (Err Failed) (inr c) = c.3.same.reads
still_reads cutter new (Err (TooLong n)) (inl c) = c.4.same.reads
still_reads cutter new (Err (TooLong n)) (inr c) = c.3.same.reads
still_reads cutter new (Err FileTooLong) step = ap (λ c. c.reads) step.0

pub reading_at : (old cutter : LineCutter) (searched : ℕ) (left now later : Option (List ℕ)) → now ≡ later → Reading old cutter searched left now → Reading old cutter searched left later
reading_at old cutter searched left now later same r = subst (Reading old cutter searched left) same r
