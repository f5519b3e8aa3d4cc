-- What a search for a home among images finds, and what an edit at that place leaves.
use Rattle.std.proofs.Common.{true, false, Bool, ◌≡◌, ◌≢◌, ◌⊎◌, inl, inr, ⊎_elim, ℕ, zero, suc, ◌+◌, ◌*◌, ◌^◌, ◌<◌, ◌≤◌, List, [], ◌∷◌, ◌++◌, length, get_or, slice_get, set, take, drop, Some, None, Result, Ok, Err, IfOk, IfErr, refl, sym, ◌∙◌, ap, subst, arith, nat_le, nat_lt, ◌&&◌, ◌||◌, ◌==◌, append_assoc}
use Rattle.std.specs.List.{list_all, insert}
use Rattle.std.specs.List.Sorted.{IsSearchInRange, IsBinarySearchResult, IsNonDecreasingBy}
use Rattle.std.specs.Ordering.{nat_cmp, ordering_index}
use Rattle.std.specs.declared.cmp.Ordering.TheVariants.{Less, Equal, Greater}
use Rattle.std.proofs.lemmas.Bool.{cases_lt}
use Rattle.std.proofs.lemmas.Bool.Decides.{nat_tests}
use Rattle.std.proofs.lemmas.Cmp.{ranked}
use Rattle.std.proofs.lemmas.Option.{get_or_from_slice_get, slice_get_within}
use Rattle.std.proofs.lemmas.List.{length-map, get_or-map, map-set, map-append, take-map, drop-map}
use Rattle.gaz_outside.specs.declared.station.Area.{Area}
use Rattle.gaz_outside.specs.declared.station.Area.TheVariants.{Mark, Log, Root, Left, Right}
use Rattle.gaz_outside.specs.Station.{area_place}
use Rattle.gaz_redo.specs.declared.home.Home.{Home}
use Rattle.gaz_redo.specs.declared.image.Image.{Image}
use Rattle.gaz_redo.specs.Slots.{Slot, slot_of, slots_in}
use Rattle.gaz_redo.specs.Content.{is_slot, are_images, rises, comes_before}
use Rattle.gaz_redo.specs.Images.{IsPage, slot_for, stands_at, image_at, with_image, home_number, number_of, IsPlaceOf, IsGapFor}
use Rattle.gaz_redo.proofs.Phases.{and_first, and_second, and_true}
use Rattle.gaz_redo.proofs.LogForm.{slot_facts}

-- a test that isn't true is false
pub two_cases : (b : Bool) → (b ≡ true) ⊎ (b ≡ false)
two_cases true = inl refl
two_cases false = inr refl

pub by_tests : (b c d : Bool) → (b || (c && d)) ≡ true → (b ≡ true) ⊎ ((c ≡ true) × (d ≡ true))
by_tests true c d is = inl refl
by_tests false c d is = inr (and_first c d is, and_second c d is)

pub or_first : (b c d : Bool) → b ≡ true → (b || (c && d)) ≡ true
or_first true c d is = refl
or_first false c d is = absurd (cc is)

pub or_second : (b c d : Bool) → c ≡ true → d ≡ true → (b || (c && d)) ≡ true
or_second true c d one two = refl
or_second false c d one two = and_true c d one two

-- the order of homes is that of their numbers
lesser : (a b p q : ℕ) → p < 2 ^ 32 → q < 2 ^ 32 → (nat_lt a b || (a == b && nat_lt p q)) ≡ true → 2 ^ 32 * a + p < 2 ^ 32 * b + q
lesser a b p q small low is = ⊎_elim
    (λ h. let lt : a < b = grind (arith, nat_tests) in omega (arith, lt, small))
    (λ h. let same = h.0 in let more = h.1 in let e : a ≡ b = grind (arith, nat_tests) in let lt : p < q = grind (arith, nat_tests) in omega (arith, e, lt))
    (by_tests (nat_lt a b) (a == b) (nat_lt p q) is)

is_lesser : (a b p q : ℕ) → p < 2 ^ 32 → q < 2 ^ 32 → 2 ^ 32 * a + p < 2 ^ 32 * b + q → (nat_lt a b || (a == b && nat_lt p q)) ≡ true
is_lesser a b p q small low lt = elim (cases_lt a b) [
  | inl less ↦ or_first (nat_lt a b) (a == b) (nat_lt p q) (grind (arith, nat_tests))
  | inr ge ↦
      let e : a ≡ b = omega (arith, ge, lt, small, low) in
      let more : p < q = omega (arith, e, lt) in
      or_second (nat_lt a b) (a == b) (nat_lt p q) (grind (arith, nat_tests)) (grind (arith, nat_tests))
]

module _ (s t : Slot) (small : s.page < 2 ^ 32) (low : t.page < 2 ^ 32) where
  before_less : comes_before s t ≡ true → number_of s < number_of t
  before_less is = lesser (area_place s.area) (area_place t.area) s.page t.page small low is

  less_before : number_of s < number_of t → comes_before s t ≡ true
  less_before lt = is_lesser (area_place s.area) (area_place t.area) s.page t.page small low lt

  not_before : number_of t ≤ number_of s → comes_before s t ≡ false
  not_before le = ⊎_elim (λ is. absurd (omega (arith, before_less is, le))) (λ isnt. isnt) (two_cases (comes_before s t))

-- the pages of images are small, and their numbers rise
page_small : (s : Slot) → is_slot s ≡ true → s.page < 2 ^ 32
page_small s is = (slot_facts s is).page

first_image : (s : Slot) (ss : List Slot) → are_images (s ∷ ss) ≡ true → is_slot s ≡ true
first_image s ss images = and_first (is_slot s) (list_all is_slot ss) (and_first (is_slot s && list_all is_slot ss) (rises (s ∷ ss)) images)

rises_tail : (s : Slot) (ss : List Slot) → rises (s ∷ ss) ≡ true → rises ss ≡ true
rises_tail s [] is = refl
rises_tail s (t ∷ ss) is = and_second (comes_before s t) (rises (t ∷ ss)) is

later_images : (s : Slot) (ss : List Slot) → are_images (s ∷ ss) ≡ true → are_images ss ≡ true
later_images s ss images =
    and_true (list_all is_slot ss) (rises ss)
    (and_second (is_slot s) (list_all is_slot ss) (and_first (is_slot s && list_all is_slot ss) (rises (s ∷ ss)) images))
    (rises_tail s ss (and_second (is_slot s && list_all is_slot ss) (rises (s ∷ ss)) images))

next_number : (s t : Slot) (ss : List Slot) → are_images (s ∷ t ∷ ss) ≡ true → number_of s < number_of t
next_number s t ss images =
    before_less s t (page_small s (first_image s (t ∷ ss) images)) (page_small t (first_image t ss (later_images s (t ∷ ss) images)))
    (and_first (comes_before s t) (rises (t ∷ ss)) (and_second (is_slot s && list_all is_slot (t ∷ ss)) (rises (s ∷ t ∷ ss)) images))

behind_first : (s : Slot) (ss : List Slot) → are_images (s ∷ ss) ≡ true → (j : ℕ) (d : Slot) → j < length ss → number_of s < number_of (get_or ss j d)
behind_first s [] images j d lt = absurd (omega arith)
behind_first s (t ∷ ss) images zero d lt = next_number s t ss images
behind_first s (t ∷ ss) images (suc j) d lt =
    let rest = behind_first t ss (later_images s (t ∷ ss) images) j d (omega arith) in
    omega (arith, next_number s t ss images, rest)

numbers_rise : (ss : List Slot) → are_images ss ≡ true → (i j : ℕ) (d : Slot) → i < j → j < length ss → number_of (get_or ss i d) < number_of (get_or ss j d)
numbers_rise [] images i j d lt within = absurd (omega arith)
numbers_rise (s ∷ ss) images i zero d lt within = absurd (omega arith)
numbers_rise (s ∷ ss) images zero (suc j) d lt within = behind_first s ss images j d (omega arith)
numbers_rise (s ∷ ss) images (suc i) (suc j) d lt within = numbers_rise ss (later_images s ss images) i j d (omega arith) (omega arith)

all_small : (ss : List Slot) → are_images ss ≡ true → (k : ℕ) (d : Slot) → k < length ss → (get_or ss k d).page < 2 ^ 32
all_small [] images k d lt = absurd (omega arith)
all_small (s ∷ ss) images zero d lt = page_small s (first_image s ss images)
all_small (s ∷ ss) images (suc k) d lt = all_small ss (later_images s ss images) k d (omega arith)

-- there are fewer images than numbers of homes
most_place : (a : Area) → area_place a ≤ 4
most_place Mark = omega arith
most_place Log = omega arith
most_place Root = omega arith
most_place Left = omega arith
most_place Right = omega arith

few_behind : (s : Slot) (ss : List Slot) → are_images (s ∷ ss) ≡ true → number_of s + length ss < 2 ^ 35
few_behind s [] images = omega (arith, most_place s.area, page_small s (first_image s [] images))
few_behind s (t ∷ ss) images = let rest = few_behind t ss (later_images s (t ∷ ss) images) in omega (arith, next_number s t ss images, rest)

pub few_images : (ss : List Slot) → are_images ss ≡ true → length ss < 2 ^ 40
few_images [] images = omega arith
few_images (s ∷ ss) images = let rest = few_behind s ss images in omega (arith, rest)

-- an image at the place of its home, and one in the gap for it
at_place : (s : Slot) (ss : List Slot) (place : ℕ) → place < length ss → ((k : ℕ) (d : Slot) → k < place → comes_before (get_or ss k d) s ≡ true)
    → ((d : Slot) → comes_before (get_or ss place d) s ≡ false) → ((d : Slot) → comes_before s (get_or ss place d) ≡ false)
    → with_image s ss ≡ take place ss ++ (s ∷ []) ++ drop (suc place) ss
at_place s [] place lt before one two = absurd (omega arith)
at_place s (t ∷ ss) zero lt before one two = rw (one t, two t) refl
at_place s (t ∷ ss) (suc place) lt before one two =
    rw (before 0 t (omega arith)) (ap (λ (l : List Slot). t ∷ l) (at_place s ss place (omega arith) (λ k d less. before (suc k) d (omega (arith, less))) one two))

in_gap : (s : Slot) (ss : List Slot) (place : ℕ) → place ≤ length ss → ((k : ℕ) (d : Slot) → k < place → comes_before (get_or ss k d) s ≡ true)
    → ((d : Slot) → place < length ss → comes_before (get_or ss place d) s ≡ false) → ((d : Slot) → place < length ss → comes_before s (get_or ss place d) ≡ true)
    → with_image s ss ≡ take place ss ++ (s ∷ []) ++ drop place ss
in_gap s [] zero le before one two = refl
in_gap s [] (suc place) le before one two = absurd (omega arith)
in_gap s (t ∷ ss) zero le before one two = rw (one t (omega arith), two t (omega arith)) refl
in_gap s (t ∷ ss) (suc place) le before one two =
    rw (before 0 t (omega arith))
    (ap (λ (l : List Slot). t ∷ l) (in_gap s ss place (omega arith) (λ k d less. before (suc k) d (omega (arith, less))) (λ d less. one d (omega (arith, less))) (λ d less. two d (omega (arith, less)))))

-- images stay in order with one more
same_number : (s t v : Slot) → s.page < 2 ^ 32 → t.page < 2 ^ 32 → v.page < 2 ^ 32 → comes_before t s ≡ false → comes_before s t ≡ false → comes_before t v ≡ true → comes_before s v ≡ true
same_number s t v small low least one two before =
    less_before s v small least
    (omega (arith, before_less t v low least before, at_least t s low small one))
  where
    at_least : (t s : Slot) → t.page < 2 ^ 32 → s.page < 2 ^ 32 → comes_before t s ≡ false → number_of s ≤ number_of t
    at_least t s low small isnt = elim (cases_lt (number_of t) (number_of s)) [
      | inl less ↦ absurd (cc (isnt, less_before t s low small less))
      | inr ge ↦ ge
    ]

replaced_rises : (s t : Slot) (ss : List Slot) → is_slot s ≡ true → are_images (t ∷ ss) ≡ true → comes_before t s ≡ false → comes_before s t ≡ false → rises (s ∷ ss) ≡ true
replaced_rises s t [] is images one two = refl
replaced_rises s t (v ∷ ss) is images one two =
    let order = and_second (is_slot t && list_all is_slot (v ∷ ss)) (rises (t ∷ v ∷ ss)) images in
    and_true (comes_before s v) (rises (v ∷ ss))
    (same_number s t v (page_small s is) (page_small t (first_image t (v ∷ ss) images)) (page_small v (first_image v ss (later_images t (v ∷ ss) images))) one two (and_first (comes_before t v) (rises (v ∷ ss)) order))
    (and_second (comes_before t v) (rises (v ∷ ss)) order)

rises_with : (t s : Slot) (ss : List Slot) → is_slot s ≡ true → are_images (t ∷ ss) ≡ true → comes_before t s ≡ true → rises (t ∷ with_image s ss) ≡ true
rises_with t s [] is images before = and_true (comes_before t s) true before refl
rises_with t s (v ∷ ss) is images before =
    let order = and_second (is_slot t && list_all is_slot (v ∷ ss)) (rises (t ∷ v ∷ ss)) images in
    let later = later_images t (v ∷ ss) images in
    ⊎_elim
    (λ (one : comes_before v s ≡ true). rw one (and_true (comes_before t v) (rises (v ∷ with_image s ss)) (and_first (comes_before t v) (rises (v ∷ ss)) order) (rises_with v s ss is later one)))
    (λ (one : comes_before v s ≡ false). ⊎_elim
    (λ (two : comes_before s v ≡ true). rw (one, two) (and_true (comes_before t s) (comes_before s v && rises (v ∷ ss)) before (and_true (comes_before s v) (rises (v ∷ ss)) two (and_second (comes_before t v) (rises (v ∷ ss)) order))))
    (λ (two : comes_before s v ≡ false). rw (one, two) (and_true (comes_before t s) (rises (s ∷ ss)) before (replaced_rises s v ss is later one two)))
    (two_cases (comes_before s v)))
    (two_cases (comes_before v s))

all_with : (s : Slot) (ss : List Slot) → is_slot s ≡ true → list_all is_slot ss ≡ true → list_all is_slot (with_image s ss) ≡ true
all_with s [] is all = and_true (is_slot s) true is refl
all_with s (t ∷ ss) is all =
    let first = and_first (is_slot t) (list_all is_slot ss) all in
    let rest = and_second (is_slot t) (list_all is_slot ss) all in
    ⊎_elim
    (λ (one : comes_before t s ≡ true). rw one (and_true (is_slot t) (list_all is_slot (with_image s ss)) first (all_with s ss is rest)))
    (λ (one : comes_before t s ≡ false). ⊎_elim
    (λ (two : comes_before s t ≡ true). rw (one, two) (and_true (is_slot s) (is_slot t && list_all is_slot ss) is all))
    (λ (two : comes_before s t ≡ false). rw (one, two) (and_true (is_slot s) (list_all is_slot ss) is rest))
    (two_cases (comes_before s t)))
    (two_cases (comes_before t s))

order_with : (s : Slot) (ss : List Slot) → is_slot s ≡ true → are_images ss ≡ true → rises (with_image s ss) ≡ true
order_with s [] is images = refl
order_with s (t ∷ ss) is images =
    let order = and_second (is_slot t && list_all is_slot ss) (rises (t ∷ ss)) images in
    ⊎_elim
    (λ (one : comes_before t s ≡ true). rw one (rises_with t s ss is images one))
    (λ (one : comes_before t s ≡ false). ⊎_elim
    (λ (two : comes_before s t ≡ true). rw (one, two) (and_true (comes_before s t) (rises (t ∷ ss)) two order))
    (λ (two : comes_before s t ≡ false). rw (one, two) (replaced_rises s t ss is images one two))
    (two_cases (comes_before s t)))
    (two_cases (comes_before t s))

pub images_with : (s : Slot) (ss : List Slot) → is_slot s ≡ true → are_images ss ≡ true → are_images (with_image s ss) ≡ true
images_with s ss is images =
    and_true (list_all is_slot (with_image s ss)) (rises (with_image s ss)) (all_with s ss is (and_first (list_all is_slot ss) (rises ss) images)) (order_with s ss is images)

-- what may be set is an image
pub is_image : (home : Home) (bytes : List ℕ) → IsPage home.area home.page → home.page < 2 ^ 32 → length bytes ≡ 4096 → is_slot (slot_for home bytes) ≡ true
is_image home bytes may small whole = by_area home.area home.page (length bytes) may small whole
  where
    by_area : (a : Area) (page size : ℕ) → IsPage a page → page < 2 ^ 32 → size ≡ 4096 → (nat_le 2 (area_place a) && nat_lt page (2 ^ 32) && (size == 4096) && (nat_lt 2 (area_place a) || page == 0)) ≡ true
    by_area Mark page size may small whole = absurd may
    by_area Log page size may small whole = absurd may
    by_area Root page size may small whole =
        let low : nat_lt page (2 ^ 32) ≡ true = grind (arith, nat_tests) in
        let full : (size == 4096) ≡ true = grind (arith, nat_tests) in
        and_true (nat_lt page (2 ^ 32) && (size == 4096)) (page == 0) (and_true (nat_lt page (2 ^ 32)) (size == 4096) low full) (grind (arith, nat_tests))
    by_area Left page size may small whole =
        let low : nat_lt page (2 ^ 32) ≡ true = grind (arith, nat_tests) in
        let full : (size == 4096) ≡ true = grind (arith, nat_tests) in
        and_true (nat_lt page (2 ^ 32) && (size == 4096)) true (and_true (nat_lt page (2 ^ 32)) (size == 4096) low full) refl
    by_area Right page size may small whole =
        let low : nat_lt page (2 ^ 32) ≡ true = grind (arith, nat_tests) in
        let full : (size == 4096) ≡ true = grind (arith, nat_tests) in
        and_true (nat_lt page (2 ^ 32) && (size == 4096)) true (and_true (nat_lt page (2 ^ 32)) (size == 4096) low full) refl

-- a write, by the parts around it
set_parts : {X : Type 0} (xs : List X) (i : ℕ) (y : X) → i < length xs → set xs i y ≡ take i xs ++ (y ∷ []) ++ drop (suc i) xs
set_parts [] i y in_range = absurd (omega arith)
set_parts (x ∷ xs) zero y in_range = refl
set_parts (x ∷ xs) (suc i) y in_range = ap (λ ys. x ∷ ys) (set_parts xs i y (omega arith))

slots-set : (items : List Image) (place : ℕ) (image : Image) → place < length items → slots_in (set items place image) ≡ take place (slots_in items) ++ (slot_of image ∷ []) ++ drop (suc place) (slots_in items)
slots-set items place image in_range = map-set slot_of items place image ∙ set_parts (slots_in items) place (slot_of image) (omega (arith, length-map items slot_of))

slots-insert : (items : List Image) (place : ℕ) (image : Image) → slots_in (insert items place image) ≡ take place (slots_in items) ++ (slot_of image ∷ []) ++ drop place (slots_in items)
slots-insert items place image = map-append slot_of (take place items) (image ∷ drop place items) ∙ rw (take-map slot_of place items, drop-map slot_of place items, append_assoc) refl

module _ (items : List Image) (images : are_images (slots_in items) ≡ true) (s : Slot) (is : is_slot s ≡ true) (place : ℕ) (image : Image) (same : slot_of image ≡ s) where
  small_at : (k : ℕ) (d : Slot) → k < length (slots_in items) → (get_or (slots_in items) k d).page < 2 ^ 32
  small_at k d lt = all_small (slots_in items) images k d lt

  pub put_over : IsPlaceOf (number_of s) (slots_in items) place → slots_in (set items place image) ≡ with_image s (slots_in items)
  put_over at =
      let ss = slots_in items in
      let within = at.in_range in
      slots-set items place image (omega (arith, within, length-map items slot_of))
      ∙ ap (λ (t : Slot). take place ss ++ (t ∷ []) ++ drop (suc place) ss) same
      ∙ sym (at_place s ss place within
      (λ k d less. less_before (get_or ss k d) s (small_at k d (omega (arith, less, within))) (page_small s is) (at.before k d less))
      (λ d. not_before (get_or ss place d) s (small_at place d within) (page_small s is) (let here = at.here d in omega (arith, here)))
      (λ d. not_before s (get_or ss place d) (page_small s is) (small_at place d within) (let here = at.here d in omega (arith, here))))

  pub put_in : IsGapFor (number_of s) (slots_in items) place → slots_in (insert items place image) ≡ with_image s (slots_in items)
  put_in gap =
      let ss = slots_in items in
      let within = gap.in_range in
      slots-insert items place image
      ∙ ap (λ (t : Slot). take place ss ++ (t ∷ []) ++ drop place ss) same
      ∙ sym (in_gap s ss place within
      (λ k d less. less_before (get_or ss k d) s (small_at k d (omega (arith, less, within))) (page_small s is) (gap.before k d less))
      (λ d less. not_before (get_or ss place d) s (small_at place d less) (page_small s is) (let behind = gap.behind place d (omega arith) less in omega (arith, behind)))
      (λ d less. less_before s (get_or ss place d) (page_small s is) (small_at place d less) (gap.behind place d (omega arith) less)))

-- the image of a home
stands_here : (home : Home) (s : Slot) → s.page < 2 ^ 32 → home.page < 2 ^ 32 → number_of s ≡ home_number home.area home.page → stands_at home s ≡ true
stands_here home s small low is =
    let area : area_place s.area ≡ area_place home.area = omega (arith, is, small, low) in
    let page : s.page ≡ home.page = omega (arith, is, area) in
    and_true (area_place s.area == area_place home.area) (s.page == home.page) (grind (arith, nat_tests)) (grind (arith, nat_tests))

stands_not : (home : Home) (s : Slot) → number_of s ≢ home_number home.area home.page → stands_at home s ≡ false
stands_not home s differs = ⊎_elim
    (λ is.
    let one = and_first (area_place s.area == area_place home.area) (s.page == home.page) is in
    let two = and_second (area_place s.area == area_place home.area) (s.page == home.page) is in
    let area : area_place s.area ≡ area_place home.area = grind (arith, nat_tests) in
    let page : s.page ≡ home.page = grind (arith, nat_tests) in
    absurd (differs (omega (arith, area, page))))
    (λ isnt. isnt)
    (two_cases (stands_at home s))

module _ (home : Home) where
  found_image : (items : List Image) (place : ℕ) (image : Image) → place < length items → (slot_of image).page < 2 ^ 32 → home.page < 2 ^ 32 → image ≡ get_or items place image
      → ((k : ℕ) (d : Slot) → k < place → number_of (get_or (slots_in items) k d) < home_number home.area home.page) → number_of (slot_of image) ≡ home_number home.area home.page → image_at home (slots_in items) ≡ Some (slot_of image).image
  found_image [] place image lt small low is before here = absurd (omega arith)
  found_image (i ∷ items) zero image lt small low is before here = subst (λ (j : Image). image_at home (slot_of j ∷ slots_in items) ≡ Some (slot_of image).image) is (rw (stands_here home (slot_of image) small low here) refl)
  found_image (i ∷ items) (suc place) image lt small low is before here =
      let first = before 0 (slot_of i) (omega arith) in
      rw (stands_not home (slot_of i) (λ same. omega (arith, first, same)))
      (found_image items place image (omega arith) small low is (λ k d less. before (suc k) d (omega (arith, less))) here)

  pub no_image : (ss : List Slot) → ((k : ℕ) (d : Slot) → k < length ss → number_of (get_or ss k d) ≢ home_number home.area home.page) → image_at home ss ≡ None
  no_image [] differs = refl
  no_image (s ∷ ss) differs = rw (stands_not home s (differs 0 s (omega arith))) (no_image ss (λ k d less. differs (suc k) d (omega (arith, less))))

-- no image has a home that has a gap
pub gap_differs : (n : ℕ) (ss : List Slot) (place : ℕ) → IsGapFor n ss place → (k : ℕ) (d : Slot) → k < length ss → number_of (get_or ss k d) ≢ n
gap_differs n ss place gap k d lt same = elim (cases_lt k place) [
  | inl less ↦ omega (arith, gap.before k d less, same)
  | inr ge ↦ omega (arith, gap.behind k d ge lt, same)
]

-- a binary search by number ends at the image, or at the gap for it
module _ (items : List Image) (images : are_images (slots_in items) ≡ true) (n : ℕ) where
  abbrev number_at : ℕ → Image → ℕ
  number_at k d = home_number (get_or items k d).home.area (get_or items k d).home.page

  numbers_same : (k : ℕ) (d : Image) (e : Slot) → k < length items → number_of (get_or (slots_in items) k e) ≡ number_at k d
  numbers_same k d e lt = ap number_of (get_or-map slot_of items k d e lt)

  number_rises : (i j : ℕ) (d : Image) → i < j → j < length items → number_at i d < number_at j d
  number_rises i j d lt within =
      let rise = numbers_rise (slots_in items) images i j (slot_of d) lt (omega (arith, within, length-map items slot_of)) in
      omega (arith, rise, numbers_same i d (slot_of d) (omega (arith, lt, within)), numbers_same j d (slot_of d) within)

  -- the comparisons with the number rise along the images, as a binary search asks
  comparisons_rise : IsNonDecreasingBy (λ (i : Image). ordering_index (nat_cmp (home_number i.home.area i.home.page) n)) items
  comparisons_rise i j d le in_range =
      let rise : number_at i d ≤ number_at j d = grind (arith, number_rises i j d, λ (same : i ≡ j). ap (λ k. number_at k d) same) in
      grind (arith, nat_tests)

  any_of : (is : List Image) (k : ℕ) → k < length is → Image
  any_of [] k lt = absurd (omega arith)
  any_of (i ∷ is) k lt = i

  place_at : (place : ℕ) → place < length items → ((d : Image) → number_at place d ≡ n) → IsPlaceOf n (slots_in items) place
  place_at place within has = record {
    in_range = omega (arith, within, length-map items slot_of);
    before = λ k e less.
        let d = any_of items k (omega (arith, less, within)) in
        omega (arith, numbers_same k d e (omega (arith, less, within)), number_rises k place d less within, has d);
    here = λ e. let d = any_of items place within in numbers_same place d e within ∙ has d;
  }

  gap_at : (place : ℕ) → place ≤ length items → ((k : ℕ) (d : Image) → k < place → number_at k d < n) → ((k : ℕ) (d : Image) → place ≤ k → k < length items → n < number_at k d) → IsGapFor n (slots_in items) place
  gap_at place within before behind = record {
    in_range = omega (arith, within, length-map items slot_of);
    before = λ k e less.
        let lt : k < length items = omega (arith, less, within) in
        let d = any_of items k lt in
        omega (arith, numbers_same k d e lt, before k d less);
    behind = λ k e le less.
        let lt : k < length items = omega (arith, less, length-map items slot_of) in
        let d = any_of items k lt in
        omega (arith, numbers_same k d e lt, behind k d le lt);
  }

  pub searched : (r : Result ℕ ℕ) → IsSearchInRange r (length items) → IsBinarySearchResult (λ (i : Image). nat_cmp (home_number i.home.area i.home.page) n) items r
      → record { found : IfOk r (IsPlaceOf n (slots_in items)); absent : IfErr r (IsGapFor n (slots_in items)) }
  searched (Ok place) in_range equal = record { found = place_at place in_range (λ d. ranked (number_at place d) n Equal (sym (equal d))); absent = tt }
  searched (Err place) in_range parted = record {
    found = tt;
    absent = gap_at place in_range
        (λ k d lt. ranked (number_at k d) n Less (sym ((parted comparisons_rise).0 k d (omega arith) lt)))
        (λ k d le within. ranked (number_at k d) n Greater (sym ((parted comparisons_rise).1 k d le within)));
  }

-- an image with the number stands at its place
pub found_at : (items : List Image) → are_images (slots_in items) ≡ true → (n place : ℕ) (image : Image) → slice_get items place ≡ Some image → home_number image.home.area image.home.page ≡ n
    → IsPlaceOf n (slots_in items) place
found_at items images n place image there is =
    place_at items images n place (slice_get_within items place image there)
    (λ d. ap (λ (i : Image). home_number i.home.area i.home.page) (get_or_from_slice_get items place image d there) ∙ is)

-- the image at the place of a home is that of the home
pub get_here : (home : Home) (items : List Image) → are_images (slots_in items) ≡ true → (place : ℕ) (image : Image) → home.page < 2 ^ 32 → IsPlaceOf (home_number home.area home.page) (slots_in items) place → image ≡ get_or items place image
    → image_at home (slots_in items) ≡ Some (slot_of image).image
get_here home items images place image low at is =
    let lt : place < length items = (let within = at.in_range in omega (arith, within, length-map items slot_of)) in
    let same : get_or (slots_in items) place (slot_of image) ≡ slot_of image = get_or-map slot_of items place image (slot_of image) lt ∙ ap slot_of (sym is) in
    let small : (slot_of image).page < 2 ^ 32 = subst (λ (s : Slot). s.page < 2 ^ 32) same (all_small (slots_in items) images place (slot_of image) at.in_range) in
    found_image home items place image lt small low is at.before (ap number_of (sym same) ∙ at.here (slot_of image))
