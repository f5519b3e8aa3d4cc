-- A root page among changed pages: where it stands, and what the areas read with them laid over.
use Rattle.std.proofs.Common.{◌≡◌, ◌≢◌, ◌≤◌, ◌<◌, ◌+◌, ℕ, suc, true, false, List, [], ◌∷◌, ◌++◌, length, drop, refl, sym, ap, ◌∙◌, subst, arith, inl, inr}
use Rattle.std.specs.Prelude.{nat_lt, ◌==◌, ◌&&◌, ◌||◌}
use Rattle.std.proofs.lemmas.Bool.{cases_Bool}
use Rattle.gaz_outside.specs.declared.station.Area.{Area}
use Rattle.gaz_outside.specs.declared.station.Area.TheVariants as area
use Rattle.gaz_outside.specs.SameArea.{which}
use Rattle.gaz_outside.specs.Station.{area_place, overlaid}
use Rattle.gaz_page.specs.declared.page.Side.{Side}
use Rattle.gaz_page.specs.declared.page.Side.TheVariants.{Left, Right}
use Rattle.gaz_page.specs.declared.tree_root.Root.{Root}
use Rattle.gaz_page.specs.TreeRoot.{tree_root_bytes}
use Rattle.gaz_redo.specs.Slots.{Slot, is_in, end_in, laid_in, Touches, HasNoGap, LeaveNoGap}
use Rattle.gaz_redo.specs.Content.{comes_before}
use Rattle.gaz_redo.specs.Images.{slot_for, with_image}
use Rattle.gaz_pages.specs.Areas.{side_area}
use Rattle.gaz_pages.specs.Laid.{AreOnlyIn}
use Rattle.gaz_install.specs.Next.{root_home, with_root}

-- one image more at most
pub length-with_image : (s : Slot) (ss : List Slot) → length (with_image s ss) ≤ suc (length ss)
length-with_image s [] = omega arith
length-with_image s (t ∷ ss) = elim (cases_Bool (comes_before t s)) [
  | inl before ↦ let rest = length-with_image s ss in rw before (omega (arith, rest))
  | inr isnt ↦ elim (cases_Bool (comes_before s t)) [
    | inl behind ↦ rw (isnt, behind) (omega arith)
    | inr same ↦ rw (isnt, same) (omega arith)
  ]
]

-- an area without an image stays
pub untouched : (a : Area) (ss : List Slot) (file : List ℕ) → (Touches a ss → ⊥) → laid_in a ss file ≡ file
untouched a [] file none = refl
untouched a (s ∷ ss) file none = elim (cases_Bool (is_in a s)) [
  | inl is ↦ absurd (none (inl is))
  | inr isnt ↦ rw isnt (untouched a ss file (λ more. none (inr more)))
]

end_untouched : (a : Area) (ss : List Slot) → (Touches a ss → ⊥) → end_in a ss ≡ 0
end_untouched a [] none = refl
end_untouched a (s ∷ ss) none = elim (cases_Bool (is_in a s)) [
  | inl is ↦ absurd (none (inl is))
  | inr isnt ↦ (let rest = end_untouched a ss (λ more. none (inr more)) in rw isnt (omega (arith, rest)))
]

-- the area of a side isn't that of the root page
side_not_root : (side : Side) → area.Root ≢ side_area side
side_not_root Left is = let p = ap area_place is in absurd (omega (arith, p))
side_not_root Right is = let p = ap area_place is in absurd (omega (arith, p))

pub side_not_mark : (side : Side) → area.Mark ≢ side_area side
side_not_mark Left is = let p = ap area_place is in absurd (omega (arith, p))
side_not_mark Right is = let p = ap area_place is in absurd (omega (arith, p))

module _ (root : Root) (images : List Slot) (only : AreOnlyIn (side_area root.side) images) where
  abbrev pub page : List ℕ
  page = tree_root_bytes root

  abbrev pub first : Slot
  first = slot_for root_home page

  elsewhere : (a : Area) → a ≢ side_area root.side → Touches a images → ⊥
  elsewhere a other touches = other (only a touches)

  -- the root page comes before each page of a side
  is_before : (side : Side) (t : Slot) → t.area ≡ side_area side → (comes_before t first ≡ false) × (comes_before first t ≡ true)
  is_before Left t is = (
    subst (λ (a : Area). (nat_lt (area_place a) 2 || (area_place a == 2 && nat_lt t.page 0)) ≡ false) (sym is) refl,
    subst (λ (a : Area). (nat_lt 2 (area_place a) || (2 == area_place a && nat_lt 0 t.page)) ≡ true) (sym is) refl,
  )
  is_before Right t is = (
    subst (λ (a : Area). (nat_lt (area_place a) 2 || (area_place a == 2 && nat_lt t.page 0)) ≡ false) (sym is) refl,
    subst (λ (a : Area). (nat_lt 2 (area_place a) || (2 == area_place a && nat_lt 0 t.page)) ≡ true) (sym is) refl,
  )

  itself : (t : Slot) → is_in t.area t ≡ true
  itself t = grind arith

  -- so it is the first
  pub root_first : with_root root images ≡ first ∷ images
  root_first = by images only
    where
      by : (ss : List Slot) → AreOnlyIn (side_area root.side) ss → with_image first ss ≡ first ∷ ss
      by [] only_ = refl
      by (t ∷ ss) only_ = let order = is_before root.side t (only_ t.area (inl (itself t))) in rw (order.0, order.1) refl

  -- what Root reads with the page laid over: the page, and what stood behind it
  pub root_laid : (file : List ℕ) → laid_in area.Root (first ∷ images) file ≡ page ++ drop (0 + length page) file
  root_laid file = untouched area.Root images (overlaid file 0 page) (elsewhere area.Root (side_not_root root.side))

  side_not_in : (side : Side) → is_in (side_area side) first ≡ false
  side_not_in Left = refl
  side_not_in Right = refl

  -- and the area of the pages reads the same without it
  pub side_laid : (file : List ℕ) → laid_in (side_area root.side) (first ∷ images) file ≡ laid_in (side_area root.side) images file
  side_laid file = rw (side_not_in root.side) refl

  -- no area has a gap
  end_of_others : (a : Area) → is_in a first ≡ false → end_in a (first ∷ images) ≡ end_in a images
  end_of_others a isnt = rw isnt (omega arith)

  gap_side : (a : Area) → is_in a first ≡ false → (areas : Area → List ℕ) → HasNoGap (side_area root.side) images (areas (side_area root.side)) → HasNoGap a (first ∷ images) (areas a)
  gap_side a isnt areas no_gap i from to = elim (which a (side_area root.side)) [
    | inl is ↦ inr (subst (λ (x : Area). HasNoGap x images (areas x)) (sym is) no_gap i from (subst (λ (n : ℕ). i < n) (end_of_others a isnt) to))
    | inr differs ↦ (let ends : end_in a (first ∷ images) ≡ 0 = end_of_others a isnt ∙ end_untouched a images (elsewhere a differs) in absurd (omega (arith, ends, to)))
  ]

  pub none_gaps : (areas : Area → List ℕ) → HasNoGap (side_area root.side) images (areas (side_area root.side)) → LeaveNoGap (first ∷ images) areas
  none_gaps areas no_gap area.Mark home = absurd (omega (arith, home))
  none_gaps areas no_gap area.Log home = absurd (omega (arith, home))
  none_gaps areas no_gap area.Root home = λ i from to.
      let ends : end_in area.Root images ≡ 0 = end_untouched area.Root images (elsewhere area.Root (side_not_root root.side)) in
      inl (refl, omega arith, omega (arith, ends, to))
  none_gaps areas no_gap area.Left home = gap_side area.Left refl areas no_gap
  none_gaps areas no_gap area.Right home = gap_side area.Right refl areas no_gap
