-- One page written over an area.
use Rattle.std.proofs.Common.{◌≡◌, ◌≢◌, inl, inr, ℕ, ◌+◌, ◌*◌, ◌<◌, List, length, get_or, refl, sym, ◌∙◌, ap, arith}
use Rattle.std.proofs.lemmas.Bool.{cases_lt}
use Rattle.std.proofs.lemmas.List.{ext_get_or}
use Rattle.gaz_outside.specs.Station.{overlaid, area_place}
use Rattle.gaz_outside.specs.Overlaid.{overlaid_before, overlaid_inside, overlaid_after}
use Rattle.gaz_page.specs.Area.{page_at, length-page_at}
use Rattle.gaz_page.specs.declared.page.Side.{Side}
use Rattle.gaz_page.specs.declared.page.Side.TheVariants.{Left, Right}
use Rattle.gaz_page.proofs.Area.{same_page, byte_of_page}
use Rattle.gaz_pool.specs.Sides.{side_area}
use Rattle.gaz_pool.specs.Numbers.{page_number}

-- where it was written
pub over_own : (file page : List ℕ) (n : ℕ) → length page ≡ 4096 → page_at (overlaid file (4096 * n) page) n ≡ page
over_own file page n whole = ext_get_or 0 (page_at (overlaid file (4096 * n) page) n) page (length-page_at (overlaid file (4096 * n) page) n ∙ sym whole)
    (λ i below.
    let low : i < 4096 = omega (arith, below, length-page_at (overlaid file (4096 * n) page) n) in
    byte_of_page (overlaid file (4096 * n) page) n i low
    ∙ overlaid_inside file (4096 * n) page (4096 * n + i) (omega arith) (omega (arith, low, whole))
    ∙ ap (λ (k : ℕ). get_or page k 0) (omega arith))

-- elsewhere
pub over_other : (file page : List ℕ) (m n : ℕ) → length page ≡ 4096 → m ≢ n → page_at (overlaid file (4096 * m) page) n ≡ page_at file n
over_other file page m n whole differs = same_page (overlaid file (4096 * m) page) file n n
    (λ i below. elim (cases_lt m n) [
      | inl less ↦ overlaid_after file (4096 * m) page (4096 * n + i) (omega (arith, less, whole))
      | inr ge ↦ overlaid_before file (4096 * m) page (4096 * n + i) (let less : n < m = omega (arith, ge, differs) in omega (arith, less, below))
    ])

-- a number tells its side and page
pub number_tells : (s t : Side) (p q : ℕ) → page_number s p ≡ page_number t q → (s ≡ t) × (p ≡ q)
number_tells Left Left p q same = (refl, omega (arith, same))
number_tells Right Right p q same = (refl, omega (arith, same))
number_tells Left Right p q same = absurd (omega (arith, same))
number_tells Right Left p q same = absurd (omega (arith, same))

-- an area has one side
pub same_side : (s t : Side) → side_area s ≡ side_area t → s ≡ t
same_side Left Left same = refl
same_side Right Right same = refl
same_side Left Right same = absurd (let place : 3 ≡ 4 = ap area_place same in omega (arith, place))
same_side Right Left same = absurd (let place : 4 ≡ 3 = ap area_place same in omega (arith, place))
