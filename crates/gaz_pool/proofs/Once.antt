-- No number stands at two places, after one is put behind the others or in the place of another.
use Rattle.std.proofs.Common.{◌≡◌, ℕ, ◌+◌, ◌<◌, ◌≤◌, List, [], ◌∷◌, ◌++◌, length, get_or, set, sym, ◌∙◌, ap, arith, inl, inr}
use Rattle.std.proofs.lemmas.Bool.{cases_lt, cases_eq}
use Rattle.std.proofs.lemmas.List.{length-append, get_or_append_left, get_or-set_same, get_or-set_other, length-set}
use Rattle.std.proofs.Math.Seq.{get_or-append_seam}
use Rattle.gaz_pool.specs.Table.{Has, OneEach}

long : (numbers : List ℕ) (number : ℕ) → length (numbers ++ number ∷ []) ≡ length numbers + 1
long numbers number = length-append numbers (number ∷ [])

-- one more behind them
pub once_pushed : (numbers : List ℕ) (number : ℕ) → OneEach numbers → (Has numbers number → ⊥) → OneEach (numbers ++ number ∷ [])
once_pushed numbers number once isnt i j low high same =
    elim (cases_lt i (length numbers)) [
      | inl first ↦ elim (cases_lt j (length numbers)) [
        | inl second ↦ once i j first second (sym (get_or_append_left numbers (number ∷ []) 0 i first) ∙ same ∙ get_or_append_left numbers (number ∷ []) 0 j second)
        | inr last ↦ absurd (isnt (i, first, sym (get_or_append_left numbers (number ∷ []) 0 i first) ∙ same ∙ at_end j high last))
      ]
      | inr last ↦ elim (cases_lt j (length numbers)) [
        | inl second ↦ absurd (isnt (j, second, sym (get_or_append_left numbers (number ∷ []) 0 j second) ∙ sym same ∙ at_end i low last))
        | inr end ↦ omega (arith, low, high, last, end, long numbers number)
      ]
    ]
  where
    at_end : (k : ℕ) → k < length (numbers ++ number ∷ []) → length numbers ≤ k → get_or (numbers ++ number ∷ []) k 0 ≡ number
    at_end k within past = let is : k ≡ length numbers = omega (arith, within, past, long numbers number) in
        ap (λ (n : ℕ). get_or (numbers ++ number ∷ []) n 0) is ∙ get_or-append_seam numbers number [] 0

-- one in the place of another
pub once_replaced : (numbers : List ℕ) (place number : ℕ) → OneEach numbers → place < length numbers → (Has numbers number → ⊥) → OneEach (set numbers place number)
once_replaced numbers place number once there isnt i j low high same =
    let first : i < length numbers = omega (arith, low, length-set numbers place number) in
    let second : j < length numbers = omega (arith, high, length-set numbers place number) in
    elim (cases_eq i place) [
      | inl here ↦ elim (cases_eq j place) [
        | inl too ↦ here ∙ sym too
        | inr other ↦ absurd (isnt (j, second, sym (get_or-set_other numbers place j number 0 other) ∙ sym same ∙ ap (λ (k : ℕ). get_or (set numbers place number) k 0) here ∙ get_or-set_same numbers place number 0 there))
      ]
      | inr away ↦ elim (cases_eq j place) [
        | inl too ↦ absurd (isnt (i, first, sym (get_or-set_other numbers place i number 0 away) ∙ same ∙ ap (λ (k : ℕ). get_or (set numbers place number) k 0) too ∙ get_or-set_same numbers place number 0 there))
        | inr other ↦ once i j first second (sym (get_or-set_other numbers place i number 0 away) ∙ same ∙ get_or-set_other numbers place j number 0 other)
      ]
    ]
