-- A column of a text is a text.
use Rattle.std.proofs.Common.{◌≡◌, ℕ, zero, suc, ◌+◌, ◌<◌, List, [], ◌∷◌, length, get_or, sym, subst, arith, eqb-true, unwrap_or, inl, inr}
use Rattle.std.specs.Prelude.{IsUtf8, slice_get}
use Rattle.std.specs.List.{position_or_len, before_first, after_first}
use Rattle.std.proofs.lemmas.Bool.{cases_lt}
use Rattle.std.proofs.lemmas.List.Sums.{passes_at_first}
use Rattle.std.proofs.lemmas.List.Splits.{slice_split_first}
use Rattle.std.proofs.lemmas.Str.{IsUtf8-nil, IsUtf8-take, IsUtf8-drop, IsCharBoundary-before_ascii, IsCharBoundary-after_ascii}
use Rattle.gaz_num.specs.Pieces.{fields, is_tab}
use Rattle.gaz_num.proofs.PiecesLemmas.{fields_whole}

-- of a line with one column
whole : (n : ℕ) (line : List ℕ) → IsUtf8 line → fields line ≡ line ∷ [] → IsUtf8 (unwrap_or (slice_get (fields line) n) [])
whole zero line text is = subst (λ (all : List (List ℕ)). IsUtf8 (unwrap_or (slice_get all 0) [])) (sym is) text
whole (suc n) line text is = subst (λ (all : List (List ℕ)). IsUtf8 (unwrap_or (slice_get all (suc n)) [])) (sym is) IsUtf8-nil

tab_at : (line : List ℕ) → position_or_len is_tab line < length line → get_or line (position_or_len is_tab line) 0 < 128
tab_at line inside = let tab = eqb-true (get_or line (position_or_len is_tab line) 0) 9 (passes_at_first is_tab line 0 inside) in omega (arith, tab)

before_is_text : (line : List ℕ) → IsUtf8 line → position_or_len is_tab line < length line → IsUtf8 (before_first is_tab line)
before_is_text line text inside = IsUtf8-take line (position_or_len is_tab line) text (IsCharBoundary-before_ascii line (position_or_len is_tab line) inside (tab_at line inside))

after_is_text : (line : List ℕ) → IsUtf8 line → position_or_len is_tab line < length line → IsUtf8 (after_first is_tab line)
after_is_text line text inside = IsUtf8-drop line (position_or_len is_tab line + 1) text (IsCharBoundary-after_ascii line (position_or_len is_tab line) text inside (tab_at line inside))

-- a column of a text is a text
pub column_is_text : (n : ℕ) (line : List ℕ) → IsUtf8 line → IsUtf8 (unwrap_or (slice_get (fields line) n) [])
column_is_text zero line text = elim (cases_lt (position_or_len is_tab line) (length line)) [
  | inl inside ↦ subst (λ (all : List (List ℕ)). IsUtf8 (unwrap_or (slice_get all 0) [])) (sym (slice_split_first is_tab line 0 inside)) (before_is_text line text inside)
  | inr past ↦ whole 0 line text (fields_whole line past)
]
column_is_text (suc n) line text = elim (cases_lt (position_or_len is_tab line) (length line)) [
  | inl inside ↦ subst (λ (all : List (List ℕ)). IsUtf8 (unwrap_or (slice_get all (suc n)) [])) (sym (slice_split_first is_tab line 0 inside)) (column_is_text n (after_first is_tab line) (after_is_text line text inside))
  | inr past ↦ whole (suc n) line text (fields_whole line past)
]
