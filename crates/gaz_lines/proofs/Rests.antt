-- What is still to be given, before and after a line goes.
use Rattle.std.proofs.Common.{◌≡◌, ℕ, ◌+◌, ◌-◌, ◌<◌, ◌≤◌, Bool, true, false, cond, List, [], ◌∷◌, ◌++◌, length, take, refl, ap, arith, ◌∙◌, sym, length-append, append_assoc, Option, Some, None, inl, inr}
use Rattle.std.specs.Prelude.{map, nat_lt, option_map, IfSome}
use Rattle.std.specs.Io.KnownBytes.{prepend_known}
use Rattle.std.proofs.Math.Seq.{take-append-add}
use Rattle.std.proofs.lemmas.List.{append-nil, map-append}
use Rattle.gaz_num.specs.Pieces.{pieces, lines, ended_lines, lines_up_to, is_past, all_but_last, last_if_any, if_any}
use Rattle.gaz_lines.specs.Lines.{IsLine, Rest, rest_of, onto, unless_too_long}
use Rattle.gaz_lines.specs.Cutter.{Cuts}
use Rattle.gaz_lines.proofs.Pieces.{pieces_some, pieces_front, if_some, test_false, test_true, past_line, up_to_line, up_to_last, up_to_much, up_to_nil}

abbrev pub rest_with : List (Option (List ℕ)) → Bool → Rest
rest_with lines past = record { lines = lines; is_past = past }

rest_line : (limit allowed : ℕ) (line bytes : List ℕ) → IsLine line → length line < allowed → rest_of limit allowed (line ++ 10 ∷ bytes) ≡ onto (unless_too_long limit line) (rest_of limit (allowed - (length line + 1)) bytes)
unfolding rest_of
rest_line limit allowed line bytes is below =
    ap (λ ls. rest_with (map (unless_too_long limit) ls) (is_past allowed (line ++ 10 ∷ bytes))) (up_to_line allowed line bytes is below)
    ∙ ap (rest_with (map (unless_too_long limit) (line ∷ lines_up_to (allowed - (length line + 1)) bytes))) (past_line allowed line bytes below)

pub rest_nil : (limit allowed : ℕ) → rest_of limit allowed [] ≡ rest_with [] false
unfolding rest_of
rest_nil limit allowed =
    ap (λ ls. rest_with (map (unless_too_long limit) ls) (is_past allowed [])) (up_to_nil allowed)
    ∙ ap (rest_with []) (test_false allowed 0 (omega arith))

rest_last : (limit allowed now : ℕ) (line : List ℕ) → IsLine line → 0 < length line → length line ≤ allowed → rest_of limit allowed line ≡ onto (unless_too_long limit line) (rest_of limit now [])
unfolding rest_of
rest_last limit allowed now line is some within =
    ap (λ ls. rest_with (map (unless_too_long limit) ls) (is_past allowed line)) (up_to_last allowed line is some within)
    ∙ ap (rest_with (unless_too_long limit line ∷ [])) (test_false allowed (length line) within)
    ∙ sym (ap (onto (unless_too_long limit line)) (rest_nil limit now))

pub rest_much : (limit allowed : ℕ) (bytes : List ℕ) → IsLine (take allowed bytes) → allowed < length bytes → rest_of limit allowed bytes ≡ rest_with [] true
unfolding rest_of
rest_much limit allowed bytes is more =
    ap (λ ls. rest_with (map (unless_too_long limit) ls) (is_past allowed bytes)) (up_to_much allowed bytes is more)
    ∙ ap (rest_with []) (test_true allowed (length bytes) more)

pub prepend_two : (xs ys : List ℕ) (known : Option (List ℕ)) → prepend_known (xs ++ ys) known ≡ prepend_known xs (prepend_known ys known)
prepend_two xs ys None = refl
prepend_two xs ys (Some zs) = ap Some (append_assoc xs ys zs)

pub prepend_none : (known : Option (List ℕ)) → prepend_known [] known ≡ known
prepend_none None = refl
prepend_none (Some xs) = refl

-- a line with its LF goes
goes : (limit allowed now : ℕ) (line : List ℕ) (new : Option (List ℕ)) → IsLine line → allowed ≡ now + (length line + 1) → option_map (rest_of limit allowed) (prepend_known (line ++ 10 ∷ []) new) ≡ option_map (onto (unless_too_long limit line)) (option_map (rest_of limit now) new)
goes limit allowed now line None is size = refl
goes limit allowed now line (Some bytes) is size =
    let later : allowed - (length line + 1) ≡ now = omega (arith, size) in
    ap Some
    (ap (rest_of limit allowed) (append_assoc line (10 ∷ []) bytes)
    ∙ rest_line limit allowed line bytes is (omega (arith, size))
    ∙ ap (λ n. onto (unless_too_long limit line) (rest_of limit n bytes)) later)

-- a last line goes
goes_last : (limit allowed now : ℕ) (line : List ℕ) (new : Option (List ℕ)) → IsLine line → 0 < length line → allowed ≡ now + length line → IfSome new (λ bytes. bytes ≡ []) → option_map (rest_of limit allowed) (prepend_known line new) ≡ option_map (onto (unless_too_long limit line)) (option_map (rest_of limit now) new)
goes_last limit allowed now line None is some size empty = refl
goes_last limit allowed now line (Some bytes) is some size empty =
    ap Some
    (ap (λ bs. rest_of limit allowed (line ++ bs)) empty
    ∙ ap (rest_of limit allowed) (append-nil line)
    ∙ rest_last limit allowed now line is some (omega (arith, size))
    ∙ sym (ap (λ bs. onto (unless_too_long limit line) (rest_of limit now bs)) empty))

-- what is cut stood first
pub cut_first : (at_end : Type 0) (limit allowed now : ℕ) (line : List ℕ) (old new : Option (List ℕ)) → Cuts at_end line allowed now old new → option_map (rest_of limit allowed) old ≡ option_map (onto (unless_too_long limit line)) (option_map (rest_of limit now) new)
cut_first at_end limit allowed now line old new cuts = elim cuts.ends [
  | inl with_lf ↦ ap (option_map (rest_of limit allowed)) with_lf.0 ∙ goes limit allowed now line new cuts.is_line with_lf.1
  | inr without ↦ ap (option_map (rest_of limit allowed)) without.0 ∙ goes_last limit allowed now line new cuts.is_line without.3 without.2 without.1
]

pub not_too_long : (limit : ℕ) (line : List ℕ) → length line ≤ limit → unless_too_long limit line ≡ Some line
not_too_long limit line within = ap (λ t. cond t None (Some line)) (test_false limit (length line) within)

pub too_long : (limit : ℕ) (line : List ℕ) → limit < length line → unless_too_long limit line ≡ None
too_long limit line more = ap (λ t. cond t None (Some line)) (test_true limit (length line) more)

-- Two fronts of one length, both longer than a line may be

long_front : (limit : ℕ) (front p : List ℕ) → limit < length front → unless_too_long limit (front ++ p) ≡ None
long_front limit front p more = too_long limit (front ++ p) (omega (arith, more, length-append front p))

module _ (limit : ℕ) (front other : List ℕ) (same : length front ≡ length other) (more : limit < length front) where
  no_difference : (p : List ℕ) → unless_too_long limit (front ++ p) ≡ unless_too_long limit (other ++ p)
  no_difference p = long_front limit front p more ∙ sym (long_front limit other p (omega (arith, more, same)))

  ended_same : (p : List ℕ) (ps : List (List ℕ)) → map (unless_too_long limit) (all_but_last ((front ++ p) ∷ ps)) ≡ map (unless_too_long limit) (all_but_last ((other ++ p) ∷ ps))
  ended_same p [] = refl
  ended_same p (q ∷ qs) = ap (λ line. line ∷ map (unless_too_long limit) (all_but_last (q ∷ qs))) (no_difference p)

  any_same : (p : List ℕ) → map (unless_too_long limit) (if_any (front ++ p)) ≡ map (unless_too_long limit) (if_any (other ++ p))
  any_same p =
      ap (map (unless_too_long limit)) (if_some (front ++ p) (omega (arith, more, length-append front p)))
      ∙ ap (λ line. line ∷ []) (no_difference p)
      ∙ sym (ap (map (unless_too_long limit)) (if_some (other ++ p) (omega (arith, more, same, length-append other p))))

  last_same : (p : List ℕ) (ps : List (List ℕ)) → map (unless_too_long limit) (last_if_any ((front ++ p) ∷ ps)) ≡ map (unless_too_long limit) (last_if_any ((other ++ p) ∷ ps))
  last_same p [] = any_same p
  last_same p (q ∷ qs) = refl

  module _ (is : IsLine front) (other_is : IsLine other) where
    ended_lines_same : (bytes : List ℕ) → map (unless_too_long limit) (ended_lines (front ++ bytes)) ≡ map (unless_too_long limit) (ended_lines (other ++ bytes))
    ended_lines_same bytes =
        let some = pieces_some bytes in
        ap (λ ps. map (unless_too_long limit) (all_but_last ps)) (pieces_front front bytes some.0 some.1 is some.2)
        ∙ ended_same some.0 some.1
        ∙ sym (ap (λ ps. map (unless_too_long limit) (all_but_last ps)) (pieces_front other bytes some.0 some.1 other_is some.2))

    last_lines_same : (bytes : List ℕ) → map (unless_too_long limit) (last_if_any (pieces 10 (front ++ bytes))) ≡ map (unless_too_long limit) (last_if_any (pieces 10 (other ++ bytes)))
    last_lines_same bytes =
        let some = pieces_some bytes in
        ap (λ ps. map (unless_too_long limit) (last_if_any ps)) (pieces_front front bytes some.0 some.1 is some.2)
        ∙ last_same some.0 some.1
        ∙ sym (ap (λ ps. map (unless_too_long limit) (last_if_any ps)) (pieces_front other bytes some.0 some.1 other_is some.2))

    lines_same : (bytes : List ℕ) → map (unless_too_long limit) (lines (front ++ bytes)) ≡ map (unless_too_long limit) (lines (other ++ bytes))
    lines_same bytes =
        map-append (unless_too_long limit) (ended_lines (front ++ bytes)) (last_if_any (pieces 10 (front ++ bytes)))
        ∙ ap (λ xs. xs ++ map (unless_too_long limit) (last_if_any (pieces 10 (front ++ bytes)))) (ended_lines_same bytes)
        ∙ ap (λ ys. map (unless_too_long limit) (ended_lines (other ++ bytes)) ++ ys) (last_lines_same bytes)
        ∙ sym (map-append (unless_too_long limit) (ended_lines (other ++ bytes)) (last_if_any (pieces 10 (other ++ bytes))))

    module _ (allowed : ℕ) (within : length front ≤ allowed) (bytes : List ℕ) where
      front_taken : (text : List ℕ) → length text ≡ length front → take allowed (text ++ bytes) ≡ text ++ take (allowed - length front) bytes
      front_taken text size =
          let split : allowed ≡ length text + (allowed - length front) = omega (arith, within, size) in
          ap (λ n. take n (text ++ bytes)) split ∙ take-append-add text bytes (allowed - length front)

      past_same : is_past allowed (front ++ bytes) ≡ is_past allowed (other ++ bytes)
      past_same = ap (nat_lt allowed) (length-append front bytes ∙ ap (λ n. n + length bytes) same ∙ sym (length-append other bytes))

      cond_map : (t : Bool) (xs ys : List (List ℕ)) → map (unless_too_long limit) (cond t xs ys) ≡ cond t (map (unless_too_long limit) xs) (map (unless_too_long limit) ys)
      cond_map true xs ys = refl
      cond_map false xs ys = refl

      taken_same : map (unless_too_long limit) (ended_lines (take allowed (front ++ bytes))) ≡ map (unless_too_long limit) (ended_lines (take allowed (other ++ bytes)))
      taken_same =
          ap (λ text. map (unless_too_long limit) (ended_lines text)) (front_taken front refl)
          ∙ ended_lines_same (take (allowed - length front) bytes)
          ∙ sym (ap (λ text. map (unless_too_long limit) (ended_lines text)) (front_taken other (sym same)))

      up_to_same : map (unless_too_long limit) (lines_up_to allowed (front ++ bytes)) ≡ map (unless_too_long limit) (lines_up_to allowed (other ++ bytes))
      up_to_same =
          cond_map (is_past allowed (front ++ bytes)) (ended_lines (take allowed (front ++ bytes))) (lines (front ++ bytes))
          ∙ ap (λ t. cond t (map (unless_too_long limit) (ended_lines (take allowed (front ++ bytes)))) (map (unless_too_long limit) (lines (front ++ bytes)))) past_same
          ∙ ap (λ xs. cond (is_past allowed (other ++ bytes)) xs (map (unless_too_long limit) (lines (front ++ bytes)))) taken_same
          ∙ ap (cond (is_past allowed (other ++ bytes)) (map (unless_too_long limit) (ended_lines (take allowed (other ++ bytes))))) (lines_same bytes)
          ∙ sym (cond_map (is_past allowed (other ++ bytes)) (ended_lines (take allowed (other ++ bytes))) (lines (other ++ bytes)))

      pub rest_same : rest_of limit allowed (front ++ bytes) ≡ rest_of limit allowed (other ++ bytes)
      unfolding rest_of
      rest_same = ap (λ ls. rest_with ls (is_past allowed (front ++ bytes))) up_to_same ∙ ap (rest_with (map (unless_too_long limit) (lines_up_to allowed (other ++ bytes)))) past_same

-- the rest is the same where two fronts are let go that are no different
pub same_rest : (limit allowed : ℕ) (front other holding : List ℕ) (left : Option (List ℕ)) → length front ≡ length other → IsLine front → IsLine other → (0 < length front → limit < length front) → length front ≤ allowed → option_map (rest_of limit allowed) (prepend_known (front ++ holding) left) ≡ option_map (rest_of limit allowed) (prepend_known (other ++ holding) left)
same_rest limit allowed front other holding None size is other_is long within = refl
same_rest limit allowed [] [] holding (Some bytes) size is other_is long within = refl
same_rest limit allowed [] (y ∷ other) holding (Some bytes) size is other_is long within = absurd (omega (arith, size))
same_rest limit allowed (x ∷ front) other holding (Some bytes) size is other_is long within =
    ap Some
    (ap (rest_of limit allowed) (append_assoc (x ∷ front) holding bytes)
    ∙ rest_same limit (x ∷ front) other size (long (omega arith)) is other_is allowed within (holding ++ bytes)
    ∙ ap (rest_of limit allowed) (sym (append_assoc other holding bytes)))
