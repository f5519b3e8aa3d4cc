-- What stays so: past the file limit, and after the end.
use Rattle.std.proofs.Common.{◌≡◌, ◌≢◌, ℕ, zero, suc, ◌+◌, ◌<◌, ◌≤◌, true, List, [], ◌∷◌, ◌++◌, length, take, get_or, refl, ap, arith, ◌∙◌, sym, subst, length-append, Option, Some, None, inl, inr, ◌⊎◌, get_or-take, length-take-le}
use Rattle.std.specs.Prelude.{IsSome, Result, Ok, Err, slice_index}
use Rattle.std.proofs.Math.Seq.{drop-append_seam}
use Rattle.std.proofs.lemmas.List.{take-append-le, get_or-drop}
use Rattle.gaz_lines.specs.Lines.{IsLine}
use Rattle.gaz_lines.specs.Window.{items, bytes_at}
use Rattle.gaz_lines.specs.Cutter.{held, IsPast, IfLine}
use Rattle.gaz_lines.specs.Step.{Stepped, CutOff}
use Rattle.gaz_lines.specs.declared.cutter.LineCutter.{LineCutter}
use Rattle.gaz_lines.specs.declared.cutter.Step.TheVariants.{Done, More}
use Rattle.gaz_lines.specs.declared.window.Span.{Span}
use Rattle.gaz_lines.specs.declared.fault.LineFault.{LineFault}
use Rattle.gaz_lines.specs.declared.fault.LineFault.TheVariants.{Failed, TooLong, FileTooLong}
use Rattle.gaz_lines.proofs.Reading.{Reading}

-- the place of a line that was cut off lies within the buffer
pub shown_stands : (cutter new : LineCutter) (result : Result (Option Span) LineFault) → Stepped cutter new (Done result) → IfLine (λ span. IsSome (bytes_at new.window span)) result
shown_stands cutter new (Ok (Some span)) (inl c) = subst IsSome (sym c.4.shows.1) refl
shown_stands cutter new (Ok (Some span)) (inr c) = subst IsSome (sym c.3.shows.1) refl
shown_stands cutter new (Ok None) step = tt
shown_stands cutter new (Err fault) step = tt

line_at : (xs : List ℕ) (i : ℕ) → IsLine xs → i < length xs → slice_index xs i ≢ 10
line_at [] i is below = λ e. absurd (omega (arith, below))
line_at (x ∷ xs) zero is below = is.0
line_at (x ∷ xs) (suc i) is below = line_at xs i is.1 (omega (arith, below))

index_behind : (front xs : List ℕ) (i : ℕ) → slice_index (front ++ xs) (length front + i) ≡ slice_index xs i
index_behind front xs i = sym (get_or-drop (length front) (front ++ xs) i 0) ∙ ap (λ ys. get_or ys i 0) (drop-append_seam front xs)

module _ (old cutter new : LineCutter) (searched : ℕ) (left now : Option (List ℕ)) (r : Reading old cutter searched left now) (past : IsPast old) where
  text_size : length (held old) ≤ cutter.dropped + length (items cutter.window)
  text_size = omega (arith, ap length r.holds.1, length-append r.front (items cutter.window), length-append (held old) r.holds.0, r.front_size)

  -- no LF stands within the limit
  no_lf : (size : ℕ) → cutter.dropped + size < old.allowed → slice_index (items cutter.window) size ≢ 10
  no_lf size below =
      let place = length r.front + size in
      let within : place < old.allowed = omega (arith, below, r.front_size) in
      let text = r.front ++ items cutter.window in
      let taken : take old.allowed (held old) ≡ take old.allowed text = sym (ap (take old.allowed) r.holds.1 ∙ take-append-le old.allowed (held old) r.holds.0 (omega (arith, past.1))) in
      let inside : place < length (take old.allowed text) = omega (arith, within, ap length taken, length-take-le old.allowed (held old) (omega (arith, past.1))) in
      λ lf. line_at (take old.allowed text) place (subst IsLine taken past.0) inside (get_or-take old.allowed text place 0 within ∙ index_behind r.front (items cutter.window) size ∙ lf)

  no_cut : (size ending : ℕ) (result : Result (Option Span) LineFault) → CutOff size ending cutter new result → size ≡ length (items cutter.window) → ⊥
  no_cut size ending result c whole = omega (arith, c.allowed, whole, text_size, past.1, r.allowed)

  some_absurd : (result : Result (Option Span) LineFault) → ((n : ℕ) × IsLine (take n (items cutter.window)) × (n < length (items cutter.window)) × (slice_index (items cutter.window) n ≡ 10) × CutOff n 1 cutter new result) ⊎ (IsLine (items cutter.window) × (cutter.ended ≡ true) × (0 < cutter.dropped + length (items cutter.window)) × CutOff (length (items cutter.window)) 0 cutter new result) → ⊥
  some_absurd result (inl c) = no_lf c.0 (omega (arith, c.4.allowed, r.allowed)) c.3
  some_absurd result (inr c) = no_cut (length (items cutter.window)) 0 result c.3 refl

  pub still_past : (result : Result (Option Span) LineFault) → Stepped cutter new (Done result) → result ≡ Err FileTooLong
  still_past (Ok (Some span)) step = absurd (some_absurd (Ok (Some span)) step)
  still_past (Ok None) step = absurd (omega (arith, text_size, past.1, step.2, ap length step.3))
  still_past (Err Failed) step = absurd (some_absurd (Err Failed) step)
  still_past (Err (TooLong n)) step = absurd (some_absurd (Err (TooLong n)) step)
  still_past (Err FileTooLong) step = refl

  pub no_more : (count : ℕ) → Stepped cutter new (More count) → ⊥
  no_more count step = omega (arith, text_size, past.1, step.1, r.allowed)
