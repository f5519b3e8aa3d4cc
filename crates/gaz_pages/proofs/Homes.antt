-- The image of a home, in lists of images.
use Rattle.std.proofs.Common.{true, false, Bool, ◌≡◌, ◌≢◌, ◌⊎◌, inl, inr, ⊎_elim, ℕ, ◌+◌, ◌*◌, ◌^◌, ◌<◌, ◌≤◌, max, List, [], ◌∷◌, ◌++◌, length, Some, None, Option, refl, ap, subst, arith, nat_lt, ◌&&◌, ◌||◌, ◌==◌, if◌then◌else◌, IsTrue, IfSome}
use Rattle.std.specs.Borrow.{Bor}
use Rattle.std.specs.Option.{IsSome, option_copied}
use Rattle.std.proofs.lemmas.Bool.Decides.{nat_tests}
use Rattle.gaz_outside.specs.declared.station.Area.{Area}
use Rattle.gaz_outside.specs.Station.{area_place}
use Rattle.gaz_redo.specs.declared.home.Home.{Home}
use Rattle.gaz_redo.specs.Slots.{Slot, is_in, end_of, Covers, end_in, Touches}
use Rattle.gaz_redo.specs.Content.{is_slot, are_images, rises, comes_before}
use Rattle.gaz_redo.specs.Images.{stands_at, image_at, with_image, home_number, number_of}
use Rattle.std.specs.List.{list_all}
use Rattle.gaz_redo.proofs.Phases.{and_first, and_second, and_true}
use Rattle.gaz_redo.proofs.ImageEdits.{two_cases, by_tests}
use Rattle.gaz_redo.proofs.LogForm.{slot_facts}

-- the home of a page
abbrev pub at : Area → ℕ → Home
at area n = record { area = area; page = n }

pub stands : (h : Home) (s : Slot) → stands_at h s ≡ true → (area_place s.area ≡ area_place h.area) × (s.page ≡ h.page)
stands h s is =
    let one = and_first (area_place s.area == area_place h.area) (s.page == h.page) is in
    let two = and_second (area_place s.area == area_place h.area) (s.page == h.page) is in
    (grind (arith, nat_tests), grind (arith, nat_tests))

pub stands_own : (area : Area) (n : ℕ) (s : Slot) → s.area ≡ area → s.page ≡ n → stands_at (at area n) s ≡ true
stands_own area n s here same =
    let place : area_place s.area ≡ area_place area = ap area_place here in
    and_true (area_place s.area == area_place area) (s.page == n) (grind (arith, nat_tests)) (grind (arith, nat_tests))

pub stands_not : (h : Home) (s : Slot) → s.page ≢ h.page → stands_at h s ≡ false
stands_not h s differs = ⊎_elim (λ is. absurd (differs (stands h s is).1)) (λ isnt. isnt) (two_cases (stands_at h s))

-- the first where there is one, else the other
abbrev pub or_else : Option (List ℕ) → Option (List ℕ) → Option (List ℕ)
or_else None other = other
or_else (Some image) other = Some image

pub image_at_append : (h : Home) (xs ys : List Slot) → image_at h (xs ++ ys) ≡ or_else (image_at h xs) (image_at h ys)
image_at_append h [] ys = refl
image_at_append h (s ∷ xs) ys = ⊎_elim
    (λ (is : stands_at h s ≡ true). rw is refl)
    (λ (isnt : stands_at h s ≡ false). rw isnt (image_at_append h xs ys))
    (two_cases (stands_at h s))

-- images are whole pages
first_image : (s : Slot) (ss : List Slot) → are_images (s ∷ ss) ≡ true → is_slot s ≡ true
first_image s ss images = and_first (is_slot s) (list_all is_slot ss) (and_first (is_slot s && list_all is_slot ss) (rises (s ∷ ss)) images)

rises_tail : (s : Slot) (ss : List Slot) → rises (s ∷ ss) ≡ true → rises ss ≡ true
rises_tail s [] is = refl
rises_tail s (t ∷ ss) is = and_second (comes_before s t) (rises (t ∷ ss)) is

pub later_images : (s : Slot) (ss : List Slot) → are_images (s ∷ ss) ≡ true → are_images ss ≡ true
later_images s ss images =
    and_true (list_all is_slot ss) (rises ss)
    (and_second (is_slot s) (list_all is_slot ss) (and_first (is_slot s && list_all is_slot ss) (rises (s ∷ ss)) images))
    (rises_tail s ss (and_second (is_slot s && list_all is_slot ss) (rises (s ∷ ss)) images))

pub first_whole : (s : Slot) (ss : List Slot) → are_images (s ∷ ss) ≡ true → length s.image ≡ 4096
first_whole s ss images = (slot_facts s (first_image s ss images)).whole

pub image_whole : (h : Home) (ss : List Slot) → are_images ss ≡ true → IfSome (image_at h ss) (λ image. length image ≡ 4096)
image_whole h [] images = tt
image_whole h (s ∷ ss) images = ⊎_elim
    (λ (is : stands_at h s ≡ true). rw is (first_whole s ss images))
    (λ (isnt : stands_at h s ≡ false). rw isnt (image_whole h ss (later_images s ss images)))
    (two_cases (stands_at h s))

-- the order of homes is that of their numbers
lesser : (a b p q : ℕ) → p < 2 ^ 32 → q < 2 ^ 32 → (nat_lt a b || (a == b && nat_lt p q)) ≡ true → 2 ^ 32 * a + p < 2 ^ 32 * b + q
lesser a b p q small low is = ⊎_elim
    (λ h. let lt : a < b = grind (arith, nat_tests) in omega (arith, lt, small))
    (λ h. let same = h.0 in let more = h.1 in let e : a ≡ b = grind (arith, nat_tests) in let lt : p < q = grind (arith, nat_tests) in omega (arith, e, lt))
    (by_tests (nat_lt a b) (a == b) (nat_lt p q) is)

page_small : (s : Slot) (ss : List Slot) → are_images (s ∷ ss) ≡ true → s.page < 2 ^ 32
page_small s ss images = (slot_facts s (first_image s ss images)).page

next_number : (s t : Slot) (ss : List Slot) → are_images (s ∷ t ∷ ss) ≡ true → number_of s < number_of t
next_number s t ss images =
    lesser (area_place s.area) (area_place t.area) s.page t.page (page_small s (t ∷ ss) images) (page_small t ss (later_images s (t ∷ ss) images))
    (and_first (comes_before s t) (rises (t ∷ ss)) (and_second (is_slot s && list_all is_slot (t ∷ ss)) (rises (s ∷ t ∷ ss)) images))

-- so no home comes twice
none_behind : (h : Home) (s : Slot) (ss : List Slot) → are_images (s ∷ ss) ≡ true → home_number h.area h.page ≤ number_of s → image_at h ss ≡ None
none_behind h s [] images le = refl
none_behind h s (t ∷ ss) images le =
    let less = next_number s t ss images in
    let isnt : stands_at h t ≡ false = ⊎_elim
    (λ (is : stands_at h t ≡ true). absurd (let p = stands h t is in let area = p.0 in let page = p.1 in omega (arith, less, le, area, page)))
    (λ (isnt : stands_at h t ≡ false). isnt)
    (two_cases (stands_at h t)) in
    rw isnt (none_behind h t ss (later_images s (t ∷ ss) images) (omega (arith, less, le)))

pub once : (h : Home) (s : Slot) (ss : List Slot) → are_images (s ∷ ss) ≡ true → stands_at h s ≡ true → image_at h ss ≡ None
once h s ss images is = let p = stands h s is in let area = p.0 in let page = p.1 in none_behind h s ss images (omega (arith, area, page))

-- the area of a slot that stands at a page
pub stands_in : (area : Area) (n : ℕ) (s : Slot) → stands_at (at area n) s ≡ true → IsTrue (is_in area s)
stands_in area n s is = and_first (area_place s.area == area_place area) (s.page == n) is

pub past_first : (h : Home) (s : Slot) (ss : List Slot) → stands_at h s ≡ false → image_at h (s ∷ ss) ≡ image_at h ss
past_first h s ss isnt = rw isnt refl

pub at_first : (h : Home) (s : Slot) (ss : List Slot) → stands_at h s ≡ true → image_at h (s ∷ ss) ≡ Some s.image
at_first h s ss is = rw is refl

some_rest : (h : Home) (s : Slot) (ss : List Slot) → stands_at h s ≡ false → IsSome (image_at h (s ∷ ss)) → IsSome (image_at h ss)
some_rest h s ss isnt some = subst (λ (o : Option (List ℕ)). IsSome o) (past_first h s ss isnt) some

-- A page with an image is covered by it, ends where the last image does or before, and touches its area.
pub covered : (area : Area) (n i : ℕ) (ss : List Slot) → are_images ss ≡ true → IsSome (image_at (at area n) ss) → 4096 * n ≤ i → i < 4096 * n + 4096 → Covers area ss i
covered area n i [] images some from to = absurd (cc some)
covered area n i (s ∷ ss) images some from to = ⊎_elim
    (λ (is : stands_at (at area n) s ≡ true).
    let whole = first_whole s ss images in
    let page = (stands (at area n) s is).1 in
    inl (stands_in area n s is, omega (arith, from, page), omega (arith, to, page, whole)))
    (λ (isnt : stands_at (at area n) s ≡ false). inr (covered area n i ss (later_images s ss images) (some_rest (at area n) s ss isnt some) from to))
    (two_cases (stands_at (at area n) s))

pub ends_within : (area : Area) (n : ℕ) (ss : List Slot) → are_images ss ≡ true → IsSome (image_at (at area n) ss) → 4096 * n + 4096 ≤ end_in area ss
ends_within area n [] images some = absurd (cc some)
ends_within area n (s ∷ ss) images some = ⊎_elim
    (λ (is : stands_at (at area n) s ≡ true).
    let whole = first_whole s ss images in
    let page = (stands (at area n) s is).1 in
    let first : (if is_in area s then end_of s else 0) ≡ end_of s = rw (stands_in area n s is) refl in
    omega (arith, first, page, whole))
    (λ (isnt : stands_at (at area n) s ≡ false). let rest = ends_within area n ss (later_images s ss images) (some_rest (at area n) s ss isnt some) in omega (arith, rest))
    (two_cases (stands_at (at area n) s))

pub touches : (area : Area) (n : ℕ) (ss : List Slot) → IsSome (image_at (at area n) ss) → Touches area ss
touches area n [] some = absurd (cc some)
touches area n (s ∷ ss) some = ⊎_elim
    (λ (is : stands_at (at area n) s ≡ true). inl (stands_in area n s is))
    (λ (isnt : stands_at (at area n) s ≡ false). inr (touches area n ss (some_rest (at area n) s ss isnt some)))
    (two_cases (stands_at (at area n) s))

-- one image more
pub length-with_image : (s : Slot) (ss : List Slot) → length (with_image s ss) ≤ length ss + 1
length-with_image s [] = omega arith
length-with_image s (t ∷ ss) = ⊎_elim
    (λ (one : comes_before t s ≡ true). rw one (let rest = length-with_image s ss in omega (arith, rest)))
    (λ (one : comes_before t s ≡ false). ⊎_elim
    (λ (two : comes_before s t ≡ true). rw (one, two) (omega arith))
    (λ (two : comes_before s t ≡ false). rw (one, two) (omega arith))
    (two_cases (comes_before s t)))
    (two_cases (comes_before t s))

pub end_with_image : (a : Area) (s : Slot) (ss : List Slot) → end_in a (with_image s ss) ≤ max (end_of s) (end_in a ss)
end_with_image a s [] = by_area (is_in a s)
  where
    by_area : (b : Bool) → max (if b then end_of s else 0) 0 ≤ max (end_of s) 0
    by_area true = omega arith
    by_area false = omega arith
end_with_image a s (t ∷ ss) = ⊎_elim
    (λ (one : comes_before t s ≡ true). rw one (let rest = end_with_image a s ss in omega (arith, rest)))
    (λ (one : comes_before t s ≡ false). ⊎_elim
    (λ (two : comes_before s t ≡ true). rw (one, two) (by_area (is_in a s) (end_in a (t ∷ ss))))
    (λ (two : comes_before s t ≡ false). rw (one, two) (let first = by_area (is_in a s) (end_in a ss) in omega (arith, first)))
    (two_cases (comes_before s t)))
    (two_cases (comes_before t s))
  where
    by_area : (b : Bool) (rest : ℕ) → max (if b then end_of s else 0) rest ≤ max (end_of s) rest
    by_area true rest = omega arith
    by_area false rest = omega arith

pub touches_with : (a : Area) (s : Slot) (ss : List Slot) → Touches a (with_image s ss) → IsTrue (is_in a s) ⊎ Touches a ss
touches_with a s [] h = h
touches_with a s (t ∷ ss) h = ⊎_elim
    (λ (one : comes_before t s ≡ true). ⊎_elim (λ first. inr (inl first)) (λ rest. ⊎_elim (λ own. inl own) (λ later. inr (inr later)) (touches_with a s ss rest))
    (subst (λ (l : List Slot). Touches a l) (behind one) h))
    (λ (one : comes_before t s ≡ false). ⊎_elim
    (λ (two : comes_before s t ≡ true). subst (λ (l : List Slot). Touches a l) (before one two) h)
    (λ (two : comes_before s t ≡ false). ⊎_elim (λ own. inl own) (λ later. inr (inr later)) (subst (λ (l : List Slot). Touches a l) (over one two) h))
    (two_cases (comes_before s t)))
    (two_cases (comes_before t s))
  where
    behind : comes_before t s ≡ true → with_image s (t ∷ ss) ≡ t ∷ with_image s ss
    behind one = rw one refl

    before : comes_before t s ≡ false → comes_before s t ≡ true → with_image s (t ∷ ss) ≡ s ∷ t ∷ ss
    before one two = rw (one, two) refl

    over : comes_before t s ≡ false → comes_before s t ≡ false → with_image s (t ∷ ss) ≡ s ∷ ss
    over one two = rw (one, two) refl

-- what holds of a value that is lent
pub if_copied : {T : Type 0} (P : T → Type 0) (r : Option (Bor T)) → IfSome (option_copied r) P → IfSome r (λ (lent : Bor T). P lent.now)
if_copied P None is = tt
if_copied P (Some lent) is = is
