-- Texts cut at their first space, tab or equals sign.
use Rattle.std.proofs.Common.{◌≡◌, ℕ, suc, ◌+◌, ◌<◌, ◌≤◌, Bool, true, false, cond, ◌||◌, List, [], ◌∷◌, length, refl, sym, arith, ap₂, ◌∙◌, Option, Some, None}
use Rattle.std.specs.Prelude.{not, MatchOption}
use Rattle.std.specs.Borrow.{Bor}
use Rattle.std.specs.List.{position_or_len, list_any, before_first, after_first}
use Rattle.std.proofs.lemmas.List.Splits.{slice_split_first}
use Rattle.gaz_num.specs.Pieces.{fields, is_tab}
use Rattle.gaz_num.proofs.PiecesLemmas.{fields_whole}

none_at : (t any : Bool) (k n : ℕ) → (n ≤ k → any ≡ false) → suc n ≤ cond (not t) (1 + k) 0 → (t || any) ≡ false
none_at true any k n later past = absurd (omega (arith, past))
none_at false any k n later past = later (omega (arith, past))

module _ (p : ℕ → Bool) where
  -- none passes where it doesn't
  pub none_past : (t : List ℕ) → length t ≤ position_or_len p t → list_any p t ≡ false
  none_past [] past = refl
  none_past (b ∷ t) past = none_at (p b) (list_any p t) (position_or_len p t) (length t) (none_past t) past

-- the columns of a text, by its first tab
pub parts_of : (text : List ℕ) (cut : Option (Bor (List ℕ) × Bor (List ℕ)))
    → MatchOption cut (position_or_len is_tab text ≡ length text) (λ x. (position_or_len is_tab text < length text) × (x.0.now ≡ before_first is_tab text) × (x.1.now ≡ after_first is_tab text))
    → MatchOption cut (fields text ≡ text ∷ []) (λ parts. fields text ≡ parts.0.now ∷ fields parts.1.now)
parts_of text None past = fields_whole text (omega (arith, past))
parts_of text (Some parts) is = slice_split_first is_tab text 0 is.0 ∙ ap₂ (λ (a b : List ℕ). a ∷ fields b) (sym is.1) (sym is.2)
