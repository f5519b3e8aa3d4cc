-- Texts that are put into a buffer.
use Rattle.std.proofs.Common.{◌≡◌, ℕ, ◌+◌, ◌-◌, ◌≤◌, List, drop, ap, arith, ◌∙◌, sym}
use Rattle.std.proofs.lemmas.List.{drop-drop}

-- what stands from a place on is the same from a later place on
pub later_same : (place later : ℕ) (xs ys : List ℕ) → place ≤ later → drop place xs ≡ drop place ys → drop later xs ≡ drop later ys
later_same place later xs ys le same =
    let sum : place + (later - place) ≡ later = omega (arith, le) in
    sym (drop-drop (later - place) place xs ∙ ap (λ (n : ℕ). drop n xs) sum)
    ∙ ap (drop (later - place)) same
    ∙ drop-drop (later - place) place ys
    ∙ ap (λ (n : ℕ). drop n ys) sum
