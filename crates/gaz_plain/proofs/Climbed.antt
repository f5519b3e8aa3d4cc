-- A chain that is written place by place.
use Rattle.std.proofs.Common.{◌≡◌, ℕ, zero, suc, Bool, true, false, List, [], ◌∷◌, ◌++◌, refl, sym, ap, ◌∙◌, Option, Some, None}
use Rattle.std.specs.Prelude.{reverse, ◌==◌, ◌||◌}
use Rattle.std.specs.List.{list_any}
use Rattle.std.proofs.lemmas.List.{append-nil, append_assoc, reverse-append}
use Rattle.std.proofs.lemmas.List.Folds.{list_any-append}
use Rattle.gaz_parent.specs.Parent.{Lists}
use Rattle.gaz_parent.specs.Chain.{parent_at, upwards}

or_turned : (a b : Bool) → (a || (b || false)) ≡ (b || a)
or_turned true true = refl
or_turned true false = refl
or_turned false true = refl
or_turned false false = refl

-- a test on a list turned round
pub turned : (test : ℕ → Bool) (ids : List ℕ) → list_any test (reverse ids) ≡ list_any test ids
turned test [] = refl
turned test (id ∷ ids) =
    ap (list_any test) (reverse-append (id ∷ []) ids)
    ∙ list_any-append test (reverse ids) (id ∷ [])
    ∙ or_turned (list_any test (reverse ids)) (test id)
    ∙ ap (λ b. test id || b) (turned test ids)

module _ (lists : Lists) (all written : List ℕ) where
  -- what is written and what is still to come are all
  abbrev pub IsOnWay : ℕ → Option ℕ → Type 0
  IsOnWay most next = all ≡ written ++ upwards most lists (reverse written) next

  pub ended : (most : ℕ) → IsOnWay most None → written ≡ all
  ended zero way = sym (way ∙ append-nil written)
  ended (suc most) way = sym (way ∙ append-nil written)

  pub is_full : (next : Option ℕ) → IsOnWay zero next → written ≡ all
  is_full next way = sym (way ∙ append-nil written)

  pub met : (most place : ℕ) → list_any (λ n. n == place) written ≡ true → IsOnWay most (Some place) → written ≡ all
  met zero place before way = sym (way ∙ append-nil written)
  met (suc most) place before way =
      let test : list_any (λ n. n == place) (reverse written) ≡ true = turned (λ n. n == place) written ∙ before in
      let none : upwards (suc most) lists (reverse written) (Some place) ≡ [] = rw test refl in
      sym (way ∙ ap (λ rest. written ++ rest) none ∙ append-nil written)

  pub climbed : (most place : ℕ) → list_any (λ n. n == place) written ≡ false → IsOnWay (suc most) (Some place) → all ≡ (written ++ place ∷ []) ++ upwards most lists (reverse (written ++ place ∷ [])) (parent_at lists place)
  climbed most place before way =
      let test : list_any (λ n. n == place) (reverse written) ≡ false = turned (λ n. n == place) written ∙ before in
      let next : upwards (suc most) lists (reverse written) (Some place) ≡ place ∷ upwards most lists (place ∷ reverse written) (parent_at lists place) = rw test refl in
      way
      ∙ ap (λ rest. written ++ rest) next
      ∙ sym (append_assoc written (place ∷ []) (upwards most lists (place ∷ reverse written) (parent_at lists place)))
      ∙ ap (λ before. (written ++ place ∷ []) ++ upwards most lists before (parent_at lists place)) (sym (reverse-append written (place ∷ [])))
