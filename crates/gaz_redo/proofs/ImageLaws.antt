-- What a home has after an image is set.
use Rattle.std.proofs.Common.{true, false, Bool, ◌≡◌, inl, inr, ⊎_elim, ℕ, ◌<◌, List, [], ◌∷◌, Some, Option, refl, sym, ◌∙◌, ap, arith, nat_lt, ◌&&◌, ◌||◌, ◌==◌, if◌then◌else◌}
use Rattle.std.proofs.lemmas.Bool.{cases_lt}
use Rattle.std.proofs.lemmas.Bool.Decides.{nat_tests}
use Rattle.gaz_outside.specs.Station.{area_place}
use Rattle.gaz_redo.specs.declared.home.Home.{Home}
use Rattle.gaz_redo.specs.Slots.{Slot}
use Rattle.gaz_redo.specs.Content.{comes_before}
use Rattle.gaz_redo.specs.Images.{stands_at, image_at, with_image}
use Rattle.gaz_redo.proofs.Phases.{and_first, and_second}
use Rattle.gaz_redo.proofs.ImageEdits.{two_cases, by_tests, or_first, or_second}

-- two slots of one home
abbrev SameHome : Slot → Slot → Type 0
SameHome t s = (area_place t.area ≡ area_place s.area) × (t.page ≡ s.page)

stands_where : (h : Home) (s : Slot) → stands_at h s ≡ true → (area_place s.area ≡ area_place h.area) × (s.page ≡ h.page)
stands_where h s is =
    let one = and_first (area_place s.area == area_place h.area) (s.page == h.page) is in
    let two = and_second (area_place s.area == area_place h.area) (s.page == h.page) is in
    (grind (arith, nat_tests), grind (arith, nat_tests))

-- where one slot comes before another, they don't stand at one home
not_both : (h : Home) (t s : Slot) → comes_before t s ≡ true → stands_at h t ≡ true → stands_at h s ≡ false
not_both h t s before here = ⊎_elim
    (λ (is : stands_at h s ≡ true).
    let p = stands_where h t here in
    let q = stands_where h s is in
    let area : area_place t.area ≡ area_place s.area = p.0 ∙ sym q.0 in
    let page : t.page ≡ s.page = p.1 ∙ sym q.1 in
    absurd (⊎_elim
    (λ (lt : nat_lt (area_place t.area) (area_place s.area) ≡ true). let less : area_place t.area < area_place s.area = grind (arith, nat_tests) in omega (arith, less, area))
    (λ (both : ((area_place t.area == area_place s.area) ≡ true) × (nat_lt t.page s.page ≡ true)). let lt = both.1 in let less : t.page < s.page = grind (arith, nat_tests) in omega (arith, less, page))
    (by_tests (nat_lt (area_place t.area) (area_place s.area)) (area_place t.area == area_place s.area) (nat_lt t.page s.page) before)))
    (λ isnt. isnt)
    (two_cases (stands_at h s))

-- where neither comes before the other, they do
same_home : (t s : Slot) → comes_before t s ≡ false → comes_before s t ≡ false → SameHome t s
same_home t s one two = (area, page)
  where
    first : (a b : ℕ) (c d : Bool) → (nat_lt a b || (c && d)) ≡ false → a < b → ⊥
    first a b c d isnt lt = let is : nat_lt a b ≡ true = grind (arith, nat_tests) in cc (isnt, or_first (nat_lt a b) c d is)

    second : (a b p q : ℕ) → (nat_lt a b || (a == b && nat_lt p q)) ≡ false → a ≡ b → p < q → ⊥
    second a b p q isnt same lt =
        let e : (a == b) ≡ true = grind (arith, nat_tests) in
        let f : nat_lt p q ≡ true = grind (arith, nat_tests) in
        cc (isnt, or_second (nat_lt a b) (a == b) (nat_lt p q) e f)

    area : area_place t.area ≡ area_place s.area
    area = elim (cases_lt (area_place t.area) (area_place s.area)) [
      | inl lt ↦ absurd (first (area_place t.area) (area_place s.area) (area_place t.area == area_place s.area) (nat_lt t.page s.page) one lt)
      | inr ge ↦ elim (cases_lt (area_place s.area) (area_place t.area)) [
        | inl lt ↦ absurd (first (area_place s.area) (area_place t.area) (area_place s.area == area_place t.area) (nat_lt s.page t.page) two lt)
        | inr le ↦ omega (arith, ge, le)
      ]
    ]

    page : t.page ≡ s.page
    page = elim (cases_lt t.page s.page) [
      | inl lt ↦ absurd (second (area_place t.area) (area_place s.area) t.page s.page one area lt)
      | inr ge ↦ elim (cases_lt s.page t.page) [
        | inl lt ↦ absurd (second (area_place s.area) (area_place t.area) s.page t.page two (sym area) lt)
        | inr le ↦ omega (arith, ge, le)
      ]
    ]

stands_alike : (h : Home) (t s : Slot) → SameHome t s → stands_at h t ≡ stands_at h s
stands_alike h t s same = λ i. same.0 i == area_place h.area && same.1 i == h.page

-- the two tests in one order or the other
swapped : (b c : Bool) (x y z : Option (List ℕ)) → (b ≡ true → c ≡ false) → (if b then x else (if c then y else z)) ≡ (if c then y else (if b then x else z))
swapped true c x y z apart = rw (apart refl) refl
swapped false c x y z apart = refl

dropped : (b c : Bool) (x y z : Option (List ℕ)) → c ≡ b → (if b then x else z) ≡ (if b then x else (if c then y else z))
dropped true c x y z same = refl
dropped false c x y z same = rw same refl

pub after_set : (h : Home) (s : Slot) (ss : List Slot) → image_at h (with_image s ss) ≡ (if stands_at h s then Some s.image else image_at h ss)
after_set h s [] = refl
after_set h s (t ∷ ss) = ⊎_elim
    (λ (one : comes_before t s ≡ true). rw one (ap (λ (rest : Option (List ℕ)). if stands_at h t then Some t.image else rest) (after_set h s ss) ∙ swapped (stands_at h t) (stands_at h s) (Some t.image) (Some s.image) (image_at h ss) (not_both h t s one)))
    (λ (one : comes_before t s ≡ false). ⊎_elim
    (λ (two : comes_before s t ≡ true). rw (one, two) refl)
    (λ (two : comes_before s t ≡ false). rw (one, two) (dropped (stands_at h s) (stands_at h t) (Some s.image) (Some t.image) (image_at h ss) (stands_alike h t s (same_home t s one two))))
    (two_cases (comes_before s t)))
    (two_cases (comes_before t s))
