-- The byte of a side names it, and no other.
use Rattle.std.proofs.Common.{◌≡◌, ℕ, true, refl, sym, ◌∙◌, ap, inl, inr}
use Rattle.std.specs.Prelude.{◌==◌, ◌||◌}
use Rattle.std.proofs.lemmas.Bool.{eqb-true, or_cases}
use Rattle.gaz_page.specs.declared.page.Side.{Side}
use Rattle.gaz_page.specs.declared.page.Side.TheVariants.{Left, Right}
use Rattle.gaz_page.specs.Root.{side_of, side_code}

pub side_back : (side : Side) → side_of (side_code side) ≡ side
side_back Left = refl
side_back Right = refl

pub has_side : (side : Side) → (side_code side == 3 || side_code side == 4) ≡ true
has_side Left = refl
has_side Right = refl

pub side_there : (code : ℕ) → (code == 3 || code == 4) ≡ true → side_code (side_of code) ≡ code
side_there code names =
    elim (or_cases (code == 3) (code == 4) names) [
      | inl left ↦ let is = eqb-true code 3 left in ap (λ (n : ℕ). side_code (side_of n)) is ∙ sym is
      | inr right ↦ let is = eqb-true code 4 right in ap (λ (n : ℕ). side_code (side_of n)) is ∙ sym is
    ]
