-- For callers: the rest at the start, and what its first line says of the lines.
use Rattle.std.proofs.Common.{◌≡◌, ℕ, ◌<◌, Bool, true, false, cond, List, [], ◌∷◌, length, refl, ap, sym, ◌∙◌, Option, Some, None, arith, unwrap_or, inl, inr}
use Rattle.std.specs.Prelude.{map, option_map, is_some}
use Rattle.std.proofs.lemmas.Bool.{cases_lt, false≢true}
use Rattle.gaz_lines.specs.Lines.{rest_of, unless_too_long}
use Rattle.gaz_lines.specs.Cutter.{rest, line_limit_of, file_limit_of, IsFresh}
use Rattle.gaz_lines.specs.declared.cutter.LineCutter.{LineCutter}
use Rattle.gaz_num.specs.Pieces.{is_past}
use Rattle.gaz_lines.proofs.Rests.{prepend_none, not_too_long}
use Rattle.std.specs.Io.KnownBytes.{prepend_known}

pub rest_fresh : (cutter : LineCutter) (left : Option (List ℕ)) → IsFresh cutter → rest cutter left ≡ option_map (rest_of (line_limit_of cutter) (file_limit_of cutter)) left
rest_fresh cutter left fresh =
    ap (λ xs. option_map (rest_of cutter.line_limit cutter.allowed) (prepend_known xs left)) fresh.held
    ∙ ap (option_map (rest_of cutter.line_limit cutter.allowed)) (prepend_none left)
    ∙ ap (λ n. option_map (rest_of cutter.line_limit n) left) fresh.allowed

-- The lines begin with this one.
pub record Begins (limit : ℕ) (lines : List (List ℕ)) (line : List ℕ) (shown : List (Option (List ℕ))) : Type 0 where
  pub behind : List (List ℕ)
  pub lines_are : lines ≡ line ∷ behind
  pub shown_are : shown ≡ map (unless_too_long limit) behind

abbrev tail_of : {X : Type 0} → List X → List X
tail_of [] = []
tail_of (x ∷ xs) = xs

abbrev head_of : {X : Type 0} → X → List X → X
head_of d [] = d
head_of d (x ∷ xs) = x

shown_is : (t : Bool) (x line : List ℕ) → cond t None (Some x) ≡ Some line → x ≡ line
shown_is true x line e = ap (λ o. unwrap_or o x) e
shown_is false x line e = ap (λ o. unwrap_or o x) e

pub begins_with : (limit : ℕ) (lines : List (List ℕ)) (line : List ℕ) (shown : List (Option (List ℕ))) → map (unless_too_long limit) lines ≡ Some line ∷ shown → Begins limit lines line shown
begins_with limit [] line shown e = absurd (omega (arith, ap length e))
begins_with limit (x ∷ lines) line shown e = record {
  behind = lines;
  lines_are = ap (λ y. y ∷ lines) (shown_is (is_past limit x) x line (ap (head_of (Some line)) e));
  shown_are = sym (ap tail_of e);
}

is_long : (limit : ℕ) (x : List ℕ) → unless_too_long limit x ≡ None → limit < length x
is_long limit x e = elim (cases_lt limit (length x)) [
  | inl more ↦ more
  | inr within ↦ absurd (false≢true (sym (ap is_some (sym (not_too_long limit x within) ∙ e))))
]

-- The lines begin with one that is longer than the limit.
pub begins_too_long : (limit : ℕ) (lines : List (List ℕ)) (shown : List (Option (List ℕ))) → map (unless_too_long limit) lines ≡ None ∷ shown → (line : List ℕ) × (limit < length line) × Begins limit lines line shown
begins_too_long limit [] shown e = absurd (omega (arith, ap length e))
begins_too_long limit (x ∷ lines) shown e = (x, is_long limit x (ap (head_of None) e), record { behind = lines; lines_are = refl; shown_are = sym (ap tail_of e) })
