-- For callers that go through all lines of a told text: which were given, and which are still to come.
use Rattle.std.proofs.Common.{◌≡◌, ℕ, ◌^◌, ◌<◌, Bool, List, [], ◌∷◌, ◌++◌, length, refl, ap, arith, Option, Some, None, unwrap_or, append_assoc, ◌∙◌, sym, subst}
use Rattle.std.specs.Prelude.{map, option_map, IfSome}
use Rattle.std.proofs.lemmas.List.{append-nil}
use Rattle.gaz_num.specs.Pieces.{lines_within, is_too_long}
use Rattle.gaz_lines.specs.Lines.{Rest, rest_of, onto, unless_too_long}
use Rattle.gaz_lines.specs.Cutter.{rest, line_limit_of, file_limit_of, IsFresh}
use Rattle.gaz_lines.specs.declared.cutter.LineCutter.{LineCutter}
use Rattle.gaz_lines.proofs.Callers.{rest_fresh, begins_with, begins_too_long}
use Rattle.gaz_lines.proofs.Rests.{rest_with}

-- Of told bytes these lines were given or refused, and the rest shows those that are still to come.
pub record Told (limit : ℕ) (given : List (List ℕ)) (now : Option Rest) (bytes : List ℕ) : Type 0 where
  pub later : List (List ℕ)
  pub lines_are : lines_within bytes ≡ given ++ later
  pub rest_is : now ≡ Some (rest_with (map (unless_too_long limit) later) (is_too_long bytes))

no_lines : (limit : ℕ) (lines : List (List ℕ)) → map (unless_too_long limit) lines ≡ [] → lines ≡ []
no_lines limit [] e = refl
no_lines limit (x ∷ lines) e = absurd (omega (arith, ap length e))

whole_rest : (limit : ℕ) (bytes : List ℕ) → rest_of limit (2 ^ 40) bytes ≡ rest_with (map (unless_too_long limit) (lines_within bytes)) (is_too_long bytes)
unfolding rest_of
whole_rest limit bytes = refl

pub told_start : (limit : ℕ) (cutter : LineCutter) (left : Option (List ℕ)) → IsFresh cutter → line_limit_of cutter ≡ limit → file_limit_of cutter ≡ 2 ^ 40 → IfSome left (λ bytes. Told limit [] (rest cutter left) bytes)
told_start limit cutter None fresh line_limit file_limit = tt
told_start limit cutter (Some bytes) fresh line_limit file_limit = record {
  later = lines_within bytes;
  lines_are = refl;
  rest_is = rest_fresh cutter (Some bytes) fresh
      ∙ ap (λ n. Some (rest_of n (file_limit_of cutter) bytes)) line_limit
      ∙ ap (λ n. Some (rest_of limit n bytes)) file_limit
      ∙ ap Some (whole_rest limit bytes);
}

-- what stands first is known of the later lines
first_of : (first : Option (List ℕ)) (new : Option Rest) (shown : List (Option (List ℕ))) (past : Bool) → option_map (onto first) new ≡ Some (rest_with shown past) → (behind : List (Option (List ℕ))) × (shown ≡ first ∷ behind) × (new ≡ Some (rest_with behind past))
first_of first None shown past e = absurd (cc)
first_of first (Some r) shown past e =
    let is : onto first r ≡ rest_with shown past = ap (λ o. unwrap_or o (onto first r)) e in
    (r.lines, sym (ap (λ s. s.lines) is), ap (λ p. Some (rest_with r.lines p)) (ap (λ s. s.is_past) is))

-- one more line was given
pub told_line : (limit : ℕ) (given : List (List ℕ)) (line : List ℕ) (old new : Option Rest) (bytes : List ℕ) → old ≡ option_map (onto (Some line)) new → Told limit given old bytes → Told limit (given ++ line ∷ []) new bytes
told_line limit given line old new bytes gives t =
    let first = first_of (Some line) new (map (unless_too_long limit) t.later) (is_too_long bytes) (sym gives ∙ t.rest_is) in
    let b = begins_with limit t.later line first.0 first.1 in
    record {
      later = b.behind;
      lines_are = t.lines_are ∙ ap (λ ls. given ++ ls) b.lines_are ∙ sym (append_assoc given (line ∷ []) b.behind);
      rest_is = first.2 ∙ ap (λ ls. Some (rest_with ls (is_too_long bytes))) b.shown_are;
    }

-- one more line was too long
pub told_too_long : (limit : ℕ) (given : List (List ℕ)) (old new : Option Rest) (bytes : List ℕ) → old ≡ option_map (onto None) new → Told limit given old bytes → (line : List ℕ) × (limit < length line) × Told limit (given ++ line ∷ []) new bytes
told_too_long limit given old new bytes gives t =
    let first = first_of None new (map (unless_too_long limit) t.later) (is_too_long bytes) (sym gives ∙ t.rest_is) in
    let b = begins_too_long limit t.later first.0 first.1 in (
      b.0,
      b.1,
      record {
        later = b.2.behind;
        lines_are = t.lines_are ∙ ap (λ ls. given ++ ls) b.2.lines_are ∙ sym (append_assoc given (b.0 ∷ []) b.2.behind);
        rest_is = first.2 ∙ ap (λ ls. Some (rest_with ls (is_too_long bytes))) b.2.shown_are;
      },
    )

-- no line is left, and the text goes on past the limit or not
pub told_end : (limit : ℕ) (given : List (List ℕ)) (now : Option Rest) (bytes : List ℕ) (past : Bool) → Told limit given now bytes → IfSome now (λ rest. rest ≡ rest_with [] past) → (lines_within bytes ≡ given) × (is_too_long bytes ≡ past)
told_end limit given now bytes past t none =
    let is : rest_with (map (unless_too_long limit) t.later) (is_too_long bytes) ≡ rest_with [] past = subst (λ o. IfSome o (λ rest. rest ≡ rest_with [] past)) t.rest_is none in
    (t.lines_are ∙ ap (λ ls. given ++ ls) (no_lines limit t.later (ap (λ r. r.lines) is)) ∙ append-nil given, ap (λ r. r.is_past) is)
