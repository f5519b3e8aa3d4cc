-- What a step gives of what was read.
use Rattle.std.proofs.Common.{◌≡◌, ℕ, suc, ◌+◌, ◌-◌, ◌<◌, ◌≤◌, Bool, true, false, cond, List, [], ◌∷◌, ◌++◌, length, take, drop, refl, ap, arith, ◌∙◌, sym, subst, length-append, append_assoc, Option, Some, None, inl, inr, ◌⊎◌, unwrap_or, drop-cons, length-take-le, take_all}
use Rattle.std.specs.Prelude.{nat_le, ◌&&◌, vec_len, IfSome, Result, Ok, Err, option_map, slice_index}
use Rattle.std.specs.List.{repeat}
use Rattle.std.specs.Io.KnownBytes.{prepend_known}
use Rattle.std.proofs.Math.Seq.{take-append-add}
use Rattle.std.proofs.Math.ListN.{drop_of_length-le}
use Rattle.std.proofs.lemmas.List.{take-append-drop, take-append-le}
use Rattle.gaz_lines.specs.Lines.{IsLine, rest_of, onto, unless_too_long}
use Rattle.gaz_lines.specs.Window.{items, bytes_at, text_at}
use Rattle.gaz_lines.specs.Cutter.{pending, rest, HasEnded, IsPast, Cuts, Gave, answer_of}
use Rattle.gaz_lines.specs.Step.{Stepped, CutOff}
use Rattle.gaz_lines.specs.declared.cutter.LineCutter.{LineCutter}
use Rattle.gaz_lines.specs.declared.cutter.Step.TheVariants.{Done, More}
use Rattle.gaz_lines.specs.declared.window.Window.{Window}
use Rattle.gaz_lines.specs.declared.window.Span.{Span}
use Rattle.gaz_lines.specs.declared.fault.LineFault.{LineFault}
use Rattle.gaz_lines.specs.declared.fault.LineFault.TheVariants.{Failed, TooLong, FileTooLong}
use Rattle.gaz_lines.proofs.Lists.{line_append}
use Rattle.gaz_lines.proofs.Reading.{Reading, goes_on, rest_kept, zeros_line, zeros_size, no_front}
use Rattle.gaz_lines.proofs.Rests.{prepend_two, prepend_none, same_rest, cut_first, not_too_long, too_long, rest_nil, rest_much, rest_with}

-- the bytes at a place, where it lies within the buffer
unwrapped : (t : Bool) (ys xs : List ℕ) → cond t (Some ys) None ≡ Some xs → ys ≡ xs
unwrapped true ys xs e = ap (λ o. unwrap_or o ys) e
unwrapped false ys xs e = ap (λ o. unwrap_or o ys) e

text_is : (window : Window) (span : Span) (line : List ℕ) → bytes_at window span ≡ Some line → text_at window span ≡ line
text_is window span line e = unwrapped (nat_le span.from span.to && nat_le span.to (vec_len window.bytes)) (text_at window span) line e

rest_empty : (limit allowed : ℕ) (known : Option (List ℕ)) → IfSome known (λ bytes. bytes ≡ []) → IfSome (option_map (rest_of limit allowed) known) (λ rest. rest ≡ rest_with [] false)
rest_empty limit allowed None empty = tt
rest_empty limit allowed (Some bytes) empty = ap (rest_of limit allowed) empty ∙ rest_nil limit allowed

-- a front and then a part without an LF, up to a limit behind the front
front_past : (limit : ℕ) (front bytes : List ℕ) → IsLine front → length front ≤ limit → IsLine (take (limit - length front) bytes) → limit < length front + length bytes → IsLine (take limit (front ++ bytes))
front_past limit front bytes is within behind more =
    let split : limit ≡ length front + (limit - length front) = omega (arith, within) in
    subst IsLine (sym (ap (λ n. take n (front ++ bytes)) split ∙ take-append-add front bytes (limit - length front))) (line_append front (take (limit - length front) bytes) is behind)

rest_past : (limit allowed : ℕ) (front holding : List ℕ) (known : Option (List ℕ)) → IsLine front → length front ≤ allowed → IsLine (take (allowed - length front) holding) → allowed < length front + length holding → IfSome (option_map (rest_of limit allowed) (prepend_known (front ++ holding) known)) (λ rest. rest ≡ rest_with [] true)
rest_past limit allowed front holding None is within behind more = tt
rest_past limit allowed front holding (Some bytes) is within behind more =
    let text = front ++ holding in
    let long : allowed < length text = omega (arith, more, length-append front holding) in
    rest_much limit allowed (text ++ bytes)
    (subst IsLine (sym (take-append-le allowed text bytes (omega (arith, long)))) (front_past allowed front holding is within behind more))
    (omega (arith, long, length-append text bytes))

module _ (old cutter new : LineCutter) (searched size : ℕ) (left now : Option (List ℕ)) (r : Reading old cutter searched left now) where
  -- what was let go and what is cut off
  abbrev cut_line : List ℕ
  cut_line = r.front ++ take size (items cutter.window)

  module _ (within : size ≤ length (items cutter.window)) where
    line_size : length cut_line ≡ cutter.dropped + size
    line_size = length-append r.front (take size (items cutter.window)) ∙ omega (arith, r.front_size, length-take-le size (items cutter.window) within)

    cuts_lf : (result : Result (Option Span) LineFault) → IsLine (take size (items cutter.window)) → size < length (items cutter.window) → slice_index (items cutter.window) size ≡ 10 → CutOff size 1 cutter new result → Cuts (HasEnded new) cut_line old.allowed new.allowed (pending old left) (pending new now)
    cuts_lf result is below lf c =
        let add_one : suc size ≡ size + 1 = omega arith in
        let behind = drop (size + 1) (items cutter.window) in
        let parts : items cutter.window ≡ take size (items cutter.window) ++ 10 ∷ behind =
        sym (take-append-drop size (items cutter.window))
        ∙ ap (λ xs. take size (items cutter.window) ++ xs) (drop-cons (items cutter.window) size 0 below ∙ ap (λ x. x ∷ drop (suc size) (items cutter.window)) lf ∙ ap (λ n. 10 ∷ drop n (items cutter.window)) add_one) in
        let pending_new : pending new now ≡ prepend_known behind now = ap (λ n. prepend_known (repeat n (0 ∷ []) ++ items new.window) now) c.dropped ∙ ap (λ xs. prepend_known xs now) c.held in
        record {
          is_line = line_append r.front (take size (items cutter.window)) r.front_line is;
          ends = inl (
            r.before ∙ ap (λ xs. prepend_known (r.front ++ xs) now) parts
                ∙ ap (λ xs. prepend_known xs now) (sym (append_assoc r.front (take size (items cutter.window)) (10 ∷ behind)) ∙ sym (append_assoc cut_line (10 ∷ []) behind))
                ∙ prepend_two (cut_line ++ 10 ∷ []) behind now
                ∙ ap (prepend_known (cut_line ++ 10 ∷ [])) (sym pending_new),
            omega (arith, c.allowed, r.allowed, line_size),
          );
        }

  module _ (whole : size ≡ length (items cutter.window)) where
    cuts_end : (result : Result (Option Span) LineFault) → IsLine (items cutter.window) → HasEnded cutter → 0 < cutter.dropped + length (items cutter.window) → CutOff size 0 cutter new result → Cuts (HasEnded new) cut_line old.allowed new.allowed (pending old left) (pending new now)
    cuts_end result is ended some c =
        let all : take size (items cutter.window) ≡ items cutter.window = ap (λ n. take n (items cutter.window)) whole ∙ take_all (length (items cutter.window)) (items cutter.window) (omega arith) in
        let none : items new.window ≡ [] = c.held ∙ drop_of_length-le (items cutter.window) (omega (arith, whole)) in
        let pending_new : pending new now ≡ now = ap (λ n. prepend_known (repeat n (0 ∷ []) ++ items new.window) now) c.dropped ∙ ap (λ xs. prepend_known xs now) none ∙ prepend_none now in
        let line_is : cut_line ≡ r.front ++ items cutter.window = ap (λ xs. r.front ++ xs) all in
        let long : length cut_line ≡ cutter.dropped + length (items cutter.window) = ap length line_is ∙ length-append r.front (items cutter.window) ∙ omega (arith, r.front_size) in
        record {
          is_line = subst IsLine (sym line_is) (line_append r.front (items cutter.window) r.front_line is);
          ends = inr (
            r.before ∙ ap (λ xs. prepend_known xs now) (sym line_is) ∙ ap (prepend_known cut_line) (sym pending_new),
            subst (λ o. IfSome o (λ bytes. bytes ≡ [])) (sym pending_new) (r.ended ended),
            omega (arith, c.allowed, r.allowed, long, whole),
            omega (arith, long, some),
            c.same.ended ∙ ended,
          );
        }

  module _ (ending : ℕ) (fits : size ≤ length (items cutter.window)) (cuts : Cuts (HasEnded new) cut_line old.allowed new.allowed (pending old left) (pending new now)) where
    first_goes : rest old left ≡ option_map (onto (unless_too_long old.line_limit cut_line)) (option_map (rest_of old.line_limit new.allowed) (pending new now))
    first_goes = cut_first (HasEnded new) old.line_limit old.allowed new.allowed cut_line (pending old left) (pending new now) cuts

    gave_cut : (result : Result (Option Span) LineFault) → CutOff size ending cutter new result → Gave old new left now (answer_of (text_at new.window) result)
    gave_cut (Ok (Some span)) c =
        let limit_is : new.line_limit ≡ old.line_limit = c.same.line_limit ∙ r.line_limit in
        let none : r.front ≡ [] = no_front r.front cutter.dropped r.front_size c.shows.0 in
        let shown : text_at new.window span ≡ cut_line = text_is new.window span (take size (items cutter.window)) c.shows.1 ∙ ap (λ xs. xs ++ take size (items cutter.window)) (sym none) in
        let within : length cut_line ≤ old.line_limit = omega (arith, line_size fits, c.shows.0, c.shows.2, r.line_limit) in
        record {
          gives = first_goes
              ∙ ap (λ line. option_map (onto line) (option_map (rest_of old.line_limit new.allowed) (pending new now))) (not_too_long old.line_limit cut_line within ∙ ap Some (sym shown))
              ∙ ap (λ k. option_map (onto (Some (text_at new.window span))) (option_map (rest_of k new.allowed) (pending new now))) (sym limit_is);
          line = record {
            within = subst (λ line. length line ≤ old.line_limit) (sym shown) within;
            cuts = subst (λ line. Cuts (HasEnded new) line old.allowed new.allowed (pending old left) (pending new now)) (sym shown) cuts;
          };
          refuses = tt;
          numbers = c.number ∙ ap (λ n. n + 1) r.number;
          closes = tt;
          ended = λ is. r.ended (sym c.same.ended ∙ is);
          still_ended = λ is. c.same.ended ∙ r.still_ended is;
          line_limit = limit_is;
          file_limit = c.same.file_limit ∙ r.file_limit;
        }
    gave_cut (Ok None) c = absurd c.shows
    gave_cut (Err Failed) c = absurd c.shows
    gave_cut (Err FileTooLong) c = absurd c.shows
    gave_cut (Err (TooLong n)) c =
        let limit_is : new.line_limit ≡ old.line_limit = c.same.line_limit ∙ r.line_limit in
        let more : old.line_limit < length cut_line = omega (arith, line_size fits, c.shows.1, r.line_limit) in
        record {
          gives = first_goes
              ∙ ap (λ line. option_map (onto line) (option_map (rest_of old.line_limit new.allowed) (pending new now))) (too_long old.line_limit cut_line more)
              ∙ ap (λ k. option_map (onto None) (option_map (rest_of k new.allowed) (pending new now))) (sym limit_is);
          line = tt;
          refuses = record { line = cut_line; too_long = more; cuts = cuts };
          numbers = (c.number ∙ ap (λ k. k + 1) r.number, c.shows.0);
          closes = tt;
          ended = λ is. r.ended (sym c.same.ended ∙ is);
          still_ended = λ is. c.same.ended ∙ r.still_ended is;
          line_limit = limit_is;
          file_limit = c.same.file_limit ∙ r.file_limit;
        }

module _ (old cutter new : LineCutter) (searched : ℕ) (left now : Option (List ℕ)) (r : Reading old cutter searched left now) where
  -- what was let go may read as anything without an LF
  rest_here : rest cutter now ≡ rest old left
  rest_here =
      same_rest cutter.line_limit cutter.allowed (repeat cutter.dropped (0 ∷ [])) r.front (items cutter.window) now (zeros_size cutter.dropped ∙ sym r.front_size) (zeros_line cutter.dropped) r.front_line
      (λ some. subst (λ n. cutter.line_limit < n) (sym (zeros_size cutter.dropped)) (cutter.too_long (subst (λ n. 0 < n) (zeros_size cutter.dropped) some)))
      (subst (λ n. n ≤ cutter.allowed) (sym (zeros_size cutter.dropped)) cutter.within)
      ∙ ap (option_map (rest_of cutter.line_limit cutter.allowed)) (sym r.before)
      ∙ ap (λ k. option_map (rest_of k cutter.allowed) (pending old left)) r.line_limit
      ∙ ap (λ k. option_map (rest_of old.line_limit k) (pending old left)) r.allowed

  gave_some : (result : Result (Option Span) LineFault) → ((n : ℕ) × IsLine (take n (items cutter.window)) × (n < length (items cutter.window)) × (slice_index (items cutter.window) n ≡ 10) × CutOff n 1 cutter new result) ⊎ (IsLine (items cutter.window) × (cutter.ended ≡ true) × (0 < cutter.dropped + length (items cutter.window)) × CutOff (length (items cutter.window)) 0 cutter new result) → Gave old new left now (answer_of (text_at new.window) result)
  gave_some result (inl c) =
      let within : c.0 ≤ length (items cutter.window) = omega (arith, c.2) in
      gave_cut old cutter new searched c.0 left now r 1 within (cuts_lf old cutter new searched c.0 left now r within result c.1 c.2 c.3 c.4) result c.4
  gave_some result (inr c) =
      let size = length (items cutter.window) in
      gave_cut old cutter new searched size left now r 0 (omega arith) (cuts_end old cutter new searched size left now r refl result c.0 c.1 c.2 c.3) result c.3

  gave_none : new ≡ cutter → cutter.ended ≡ true → cutter.dropped ≡ 0 → items cutter.window ≡ [] → Gave old new left now (Ok None)
  gave_none same ended dropped none =
      let front_none : r.front ≡ [] = no_front r.front cutter.dropped r.front_size dropped in
      let pending_old : pending old left ≡ now = r.before ∙ ap (λ xs. prepend_known (xs ++ items cutter.window) now) front_none ∙ ap (λ xs. prepend_known xs now) none ∙ prepend_none now in
      let pending_new : pending new now ≡ now = ap (λ c. pending c now) same ∙ ap (λ n. prepend_known (repeat n (0 ∷ []) ++ items cutter.window) now) dropped ∙ ap (λ xs. prepend_known xs now) none ∙ prepend_none now in
      let limit_is : new.line_limit ≡ old.line_limit = ap (λ c. c.line_limit) same ∙ r.line_limit in
      let allowed_is : new.allowed ≡ old.allowed = ap (λ c. c.allowed) same ∙ r.allowed in
      let empty = r.ended ended in
      record {
        gives = (
          ap (option_map (rest_of new.line_limit new.allowed)) (pending_new ∙ sym pending_old)
              ∙ ap (λ k. option_map (rest_of k new.allowed) (pending old left)) limit_is
              ∙ ap (λ k. option_map (rest_of old.line_limit k) (pending old left)) allowed_is,
          subst (λ o. IfSome (option_map (rest_of old.line_limit old.allowed) o) (λ rest. rest ≡ rest_with [] false)) (sym pending_old) (rest_empty old.line_limit old.allowed now empty),
        );
        line = tt;
        refuses = tt;
        numbers = ap (λ c. c.number) same ∙ r.number;
        closes = ap (λ c. c.ended) same ∙ ended;
        ended = λ is. empty;
        still_ended = λ is. ap (λ c. c.ended) same ∙ ended;
        line_limit = limit_is;
        file_limit = ap (λ c. c.file_limit) same ∙ r.file_limit;
      }

  gave_past : new ≡ cutter → IsLine (take (cutter.allowed - cutter.dropped) (items cutter.window)) → cutter.allowed < cutter.dropped + length (items cutter.window) → Gave old new left now (Err FileTooLong)
  gave_past same is more =
      let limit_is : new.line_limit ≡ old.line_limit = ap (λ c. c.line_limit) same ∙ r.line_limit in
      let zeros : List ℕ = repeat cutter.dropped (0 ∷ []) in
      record {
        gives = (
          ap (λ c. rest c now) same ∙ rest_here,
          subst (λ o. IfSome (option_map (rest_of old.line_limit old.allowed) o) (λ rest. rest ≡ rest_with [] true)) (sym r.before)
              (rest_past old.line_limit old.allowed r.front (items cutter.window) now r.front_line (omega (arith, r.front_size, cutter.within, r.allowed)) (subst (λ n. IsLine (take n (items cutter.window))) (omega (arith, r.front_size, r.allowed)) is) (omega (arith, r.front_size, r.allowed, more))),
        );
        line = tt;
        refuses = tt;
        numbers = ap (λ c. c.number) same ∙ r.number;
        closes = subst IsPast (sym same) (
          front_past cutter.allowed zeros (items cutter.window) (zeros_line cutter.dropped) (subst (λ n. n ≤ cutter.allowed) (sym (zeros_size cutter.dropped)) cutter.within) (subst (λ n. IsLine (take (cutter.allowed - n) (items cutter.window))) (sym (zeros_size cutter.dropped)) is) (omega (arith, more, zeros_size cutter.dropped)),
          omega (arith, more, zeros_size cutter.dropped, length-append zeros (items cutter.window)),
        );
        still_ended = λ is_ended. ap (λ c. c.ended) same ∙ r.still_ended is_ended;
        ended = λ is_ended. r.ended (ap (λ c. c.ended) (sym same) ∙ is_ended);
        line_limit = limit_is;
        file_limit = ap (λ c. c.file_limit) same ∙ r.file_limit;
      }

  pub gave_done : (result : Result (Option Span) LineFault) → Stepped cutter new (Done result) → Gave old new left now (answer_of (text_at new.window) result)
  gave_done (Ok (Some span)) step = gave_some (Ok (Some span)) step
  gave_done (Ok None) step = gave_none step.0 step.1 step.2 step.3
  gave_done (Err Failed) step = gave_some (Err Failed) step
  gave_done (Err (TooLong n)) step = gave_some (Err (TooLong n)) step
  gave_done (Err FileTooLong) step = gave_past step.0 step.1 step.2

-- A failure leaves the rest, and what was let go of a line too long.
pub gave_failed : (old cutter mid next : LineCutter) (searched count : ℕ) (left now later : Option (List ℕ)) → Reading old cutter searched left now → Stepped cutter mid (More count) → items next.window ≡ items mid.window → later ≡ now → next.dropped ≡ mid.dropped → next.allowed ≡ mid.allowed → next.number ≡ mid.number → next.line_limit ≡ mid.line_limit → next.file_limit ≡ mid.file_limit → next.ended ≡ mid.ended → Gave old next left later (Err Failed)
gave_failed old cutter mid next searched count left now later r step same untaken dropped allowed number line_limit file_limit ended = record {
  gives = ap (rest next) untaken ∙ rest_kept old cutter mid searched count left now r step next same dropped allowed line_limit;
  line = tt;
  refuses = tt;
  numbers = number ∙ step.3.number ∙ r.number;
  closes = tt;
  still_ended = λ is. absurd (goes_on old cutter mid searched count left now r step is);
  ended = λ is. subst (λ o. IfSome o (λ bytes. bytes ≡ [])) (sym untaken) (r.ended (sym (ended ∙ step.3.same.ended) ∙ is));
  line_limit = line_limit ∙ step.3.same.line_limit ∙ r.line_limit;
  file_limit = file_limit ∙ step.3.same.file_limit ∙ r.file_limit;
}

pub gave_at : (old new : LineCutter) (left now later : Option (List ℕ)) (answer : Result (Option (List ℕ)) LineFault) → now ≡ later → Gave old new left now answer → Gave old new left later answer
gave_at old new left now later answer same gave = subst (λ o. Gave old new left o answer) same gave
