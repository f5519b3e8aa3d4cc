-- What changed pages keep when a page is replaced, and when a new one is taken.
use Rattle.std.proofs.Common.{true, false, Bool, ◌≡◌, ◌≢◌, ◌⊎◌, inl, inr, ⊎_elim, ℕ, ◌+◌, ◌-◌, ◌*◌, ◌/◌, ◌^◌, ◌<◌, ◌≤◌, List, [], ◌∷◌, ◌++◌, length, get_or, Some, None, Option, Result, Ok, Err, OnOk, OnErr, refl, sym, ◌∙◌, ap, subst, arith, IsTrue, if◌then◌else◌}
use Rattle.std.specs.Prelude.{◌==◌}
use Rattle.std.specs.Option.{IsSome}
use Rattle.std.proofs.lemmas.Bool.{cases_lt, cases_eq, eq-eqb, ne_eqb}
use Rattle.std.proofs.lemmas.Bool.Decides.{nat_tests}
use Rattle.std.proofs.lemmas.List.{length-append, ext_get_or}
use Rattle.gaz_outside.specs.declared.station.Area.{Area}
use Rattle.gaz_outside.specs.Station.{area_place, AnyIn}
use Rattle.gaz_outside.specs.SameArea.{same_place}
use Rattle.gaz_page.specs.Area.{page_at, length-page_at}
use Rattle.gaz_page.specs.Pages.{with_page}
use Rattle.gaz_page.proofs.Area.{byte_of_page}
use Rattle.gaz_page.proofs.PageMaps.{with_other}
use Rattle.gaz_redo.specs.declared.home.Home.{Home}
use Rattle.gaz_redo.specs.Slots.{Slot, is_in, end_of, laid_in, end_in, HasNoGap, Covers, Touches, Scattered}
use Rattle.gaz_redo.specs.Content.{are_images, is_slot}
use Rattle.gaz_redo.specs.Images.{stands_at, image_at, with_image, slot_for, IsPage}
use Rattle.gaz_redo.proofs.ImageEdits.{two_cases, images_with, is_image}
use Rattle.gaz_redo.proofs.ImageLaws.{after_set}
use Rattle.gaz_redo.proofs.Tight.{length-laid}
use Rattle.gaz_pages.specs.Laid.{image_or, imaged, AreKept, AreLaid, AreOnlyIn}
use Rattle.gaz_pages.proofs.Homes.{at, stands_own, stands_not, or_else, image_at_append, covered, ends_within, touches, end_with_image, touches_with, length-with_image}
use Rattle.gaz_pages.proofs.Laying.{laid_pages}

-- each page of the new ones has an image
abbrev AreTaken : Area → ℕ → ℕ → List Slot → Type 0
AreTaken area before fresh images = (n : ℕ) → before ≤ n → n < fresh → IsSome (image_at (at area n) images)

-- no old page has an image apart
abbrev AreApart : Area → ℕ → List Slot → Type 0
AreApart area before past = (n : ℕ) → n < before → image_at (at area n) past ≡ None

or_none : (x y : Option (List ℕ)) → IsSome x ⊎ (y ≡ None) → or_else x y ≡ x
or_none None y h = ⊎_elim (λ some. absurd (cc some)) (λ none. none) h
or_none (Some image) y h = refl

-- what these facts make of the images
module _ (area : Area) (before fresh : ℕ) (images past : List Slot) (bytes : List ℕ)
    (grows : before ≤ fresh) (in_order : are_images images ≡ true) (only : AreOnlyIn area images)
    (taken : AreTaken area before fresh images) (apart : AreApart area before past) (ends : end_in area images ≤ 4096 * fresh) where
  first_only : (n : ℕ) → n < fresh → image_at (at area n) (images ++ past) ≡ image_at (at area n) images
  first_only n low =
      image_at_append (at area n) images past
      ∙ or_none (image_at (at area n) images) (image_at (at area n) past)
      (⊎_elim (λ less. inr (apart n less)) (λ ge. inl (taken n ge low)) (cases_lt n before))

  no_gap : 4096 * before ≤ length bytes → HasNoGap area images bytes
  no_gap long i past_end within =
      let n = i / 4096 in
      covered area n i images in_order (taken n (omega (arith, long, past_end)) (omega (arith, within, ends))) (omega arith) (omega arith)

  last_taken : before < fresh → IsSome (image_at (at area (fresh - 1)) images)
  last_taken more = taken (fresh - 1) (omega (arith, more)) (omega (arith, more))

  long_enough : (before < fresh) ⊎ (4096 * before ≤ length bytes) → 4096 * fresh ≤ length (laid_in area images bytes)
  long_enough which = elim (cases_lt before fresh) [
    | inl more ↦
        let last = ends_within area (fresh - 1) images in_order (last_taken more) in
        omega (arith, more, last, length-laid area images bytes)
    | inr same ↦
        let long : 4096 * before ≤ length bytes = ⊎_elim (λ more. absurd (omega (arith, more, same))) (λ long. long) which in
        omega (arith, same, long, length-laid area images bytes)
  ]

  pub laid_by : AreLaid area before fresh images past bytes
  laid_by = record {
    grows = grows;
    pages = λ n least low. laid_pages area n images bytes in_order ∙ ap (λ (o : Option (List ℕ)). image_or o bytes n) (sym (first_only n low));
    only = only;
    no_gap = no_gap;
    within = long_enough;
    touched = λ more. touches area (fresh - 1) images (last_taken more);
    taken = taken;
    apart = apart;
    ends = ends;
  }

-- nothing is changed yet
pub laid_none : (area : Area) (fresh : ℕ) (images past : List Slot) (bytes : List ℕ) → images ≡ [] → past ≡ [] → AreLaid area fresh fresh images past bytes
laid_none area fresh images past bytes none no_past =
    subst (λ (l : List Slot). AreLaid area fresh fresh l past bytes) (sym none)
    (subst (λ (l : List Slot). AreLaid area fresh fresh [] l bytes) (sym no_past)
    (laid_by area fresh fresh [] [] bytes (omega arith) refl (λ a h. absurd h) (λ n ge low. absurd (omega (arith, ge, low))) (λ n low. refl) (omega arith)))

-- a home has an image still with one more
some_with : (h : Home) (s : Slot) (ss : List Slot) → IsSome (image_at h ss) → IsSome (image_at h (with_image s ss))
some_with h s ss some = subst (λ (o : Option (List ℕ)). IsSome o) (sym (after_set h s ss)) (by_test (stands_at h s))
  where
    by_test : (b : Bool) → IsSome (if b then Some s.image else image_at h ss)
    by_test true = refl
    by_test false = some

some_own : (area : Area) (n : ℕ) (s : Slot) (ss : List Slot) → s.area ≡ area → s.page ≡ n → IsSome (image_at (at area n) (with_image s ss))
some_own area n s ss here same = subst (λ (o : Option (List ℕ)). IsSome o) (sym (after_set (at area n) s ss)) (rw (stands_own area n s here same) refl)

same_with : (h : Home) (s : Slot) (ss : List Slot) → s.page ≢ h.page → image_at h (with_image s ss) ≡ image_at h ss
same_with h s ss differs = after_set h s ss ∙ rw (stands_not h s differs) refl

only_with : (area : Area) (s : Slot) (ss : List Slot) → s.area ≡ area → AreOnlyIn area ss → AreOnlyIn area (with_image s ss)
only_with area s ss here only a h = ⊎_elim
    (λ own. let same : area_place s.area ≡ area_place a = grind (arith, nat_tests) in sym (same_place s.area a same) ∙ here)
    (λ rest. only a rest)
    (touches_with a s ss h)

-- an image of one page is what it reads
own_page : (image : List ℕ) → length image ≡ 4096 → page_at image 0 ≡ image
own_page image whole = ext_get_or 0 (page_at image 0) image (length-page_at image 0 ∙ sym whole)
    (λ i below. byte_of_page image 0 i (omega (arith, below, length-page_at image 0)) ∙ ap (λ (k : ℕ). get_or image k 0) (omega arith))

module _ (area : Area) (page : ℕ) (image : List ℕ) (may : IsPage area page) (small : page < 2 ^ 32) (whole : length image ≡ 4096) where
  abbrev set : Slot
  set = slot_for (at area page) image

  set_is : is_slot set ≡ true
  set_is = is_image (at area page) image may small whole

  pub order_with : (ss : List Slot) → IsTrue (are_images ss) → IsTrue (are_images (with_image set ss))
  order_with ss images = images_with set ss set_is images

  module _ (before fresh : ℕ) (images past : List Slot) (bytes : List ℕ) (in_order : IsTrue (are_images images)) (are : AreLaid area before fresh images past bytes) where
    -- a page that was taken is replaced
    pub laid_put : page < fresh → AreLaid area before fresh (with_image set images) past bytes
    laid_put low =
        laid_by area before fresh (with_image set images) past bytes are.grows (order_with images in_order) (only_with area set images refl are.only)
        (λ n ge less. some_with (at area n) set images (are.taken n ge less)) are.apart
        (let ends = are.ends in omega (arith, end_with_image area set images, ends, low, whole))

    -- one past them is
    pub laid_past : fresh ≤ page → AreLaid area before fresh images (with_image set past) bytes
    laid_past high =
        laid_by area before fresh images (with_image set past) bytes are.grows in_order are.only are.taken
        (λ n less. same_with (at area n) set past (λ (same : page ≡ n). let grows = are.grows in omega (arith, same, less, grows, high)) ∙ are.apart n less)
        are.ends

    -- the next one is taken
    pub laid_take : page ≡ fresh → AreLaid area before (fresh + 1) (with_image set images) past bytes
    laid_take next =
        laid_by area before (fresh + 1) (with_image set images) past bytes (let grows = are.grows in omega (arith, grows)) (order_with images in_order) (only_with area set images refl are.only)
        (λ n ge less. ⊎_elim
        (λ (low : n < fresh). some_with (at area n) set images (are.taken n ge low))
        (λ (high : fresh ≤ n). some_own area n set images refl (let same : page ≡ n = omega (arith, less, high, next) in same))
        (cases_lt n fresh)) are.apart
        (let ends = are.ends in omega (arith, end_with_image area set images, ends, next, whole))

  module _ (fresh : ℕ) (images past : List Slot) (kept : AreKept fresh images past) where
    pub kept_put : page < fresh → AreKept fresh (with_image set images) past
    kept_put low = record {
      below = λ h high. same_with h set images (λ (same : page ≡ h.page). omega (arith, same, high, low)) ∙ kept.below h high;
      in_order = order_with images kept.in_order;
      past_in_order = kept.past_in_order;
    }

    pub kept_past : AreKept fresh images (with_image set past)
    kept_past = record { below = kept.below; in_order = kept.in_order; past_in_order = order_with past kept.past_in_order }

    pub kept_take : page ≡ fresh → AreKept (fresh + 1) (with_image set images) past
    kept_take next = record {
      below = λ h high. same_with h set images (λ (same : page ≡ h.page). omega (arith, same, high, next)) ∙ kept.below h (omega (arith, high));
      in_order = order_with images kept.in_order;
      past_in_order = kept.past_in_order;
    }

  -- the image is seen, and the others as before
  seen : page_at image 0 ≡ image
  seen = own_page image whole

  own_with : (ss : List Slot) (n : ℕ) → n ≡ page → image_at (at area n) (with_image set ss) ≡ Some image
  own_with ss n is = after_set (at area n) set ss ∙ rw (stands_own area n set refl (sym is)) refl

  set_first : (images past : List Slot) (n : ℕ) → image_at (at area n) (with_image set images ++ past) ≡ (if n == page then Some image else image_at (at area n) (images ++ past))
  set_first images past n = elim (cases_eq n page) [
    | inl is ↦ rw (eq-eqb n page is) (image_at_append (at area n) (with_image set images) past ∙ ap (λ (o : Option (List ℕ)). or_else o (image_at (at area n) past)) (own_with images n is))
    | inr isnt ↦ rw (ne_eqb n page isnt) (image_at_append (at area n) (with_image set images) past ∙ ap (λ (o : Option (List ℕ)). or_else o (image_at (at area n) past)) (same_with (at area n) set images (λ (same : page ≡ n). isnt (sym same))) ∙ sym (image_at_append (at area n) images past))
  ]

  set_second : (images past : List Slot) (n : ℕ) → image_at (at area page) images ≡ None → image_at (at area n) (images ++ with_image set past) ≡ (if n == page then Some image else image_at (at area n) (images ++ past))
  set_second images past n none = elim (cases_eq n page) [
    | inl is ↦ rw (eq-eqb n page is) (image_at_append (at area n) images (with_image set past) ∙ ap (λ (o : Option (List ℕ)). or_else o (image_at (at area n) (with_image set past))) (ap (λ (k : ℕ). image_at (at area k) images) is ∙ none) ∙ own_with past n is)
    | inr isnt ↦ rw (ne_eqb n page isnt) (image_at_append (at area n) images (with_image set past) ∙ ap (λ (o : Option (List ℕ)). or_else (image_at (at area n) images) o) (same_with (at area n) set past (λ (same : page ≡ n). isnt (sym same))) ∙ sym (image_at_append (at area n) images past))
  ]

  pub imaged_where : (news olds : List Slot) (file : List ℕ) → ((n : ℕ) → image_at (at area n) news ≡ (if n == page then Some image else image_at (at area n) olds)) → imaged area news file ≡ with_page page image (imaged area olds file)
  unfolding with_page
  imaged_where news olds file each = λ i n. (ap (λ (o : Option (List ℕ)). image_or o file n) (each n) ∙ by_test (n == page) n) i
    where
      by_test : (b : Bool) (n : ℕ) → image_or (if b then Some image else image_at (at area n) olds) file n ≡ (if b then image else image_or (image_at (at area n) olds) file n)
      by_test true n = seen
      by_test false n = refl

  pub imaged_put : (images past : List Slot) (file : List ℕ) → imaged area (with_image set images ++ past) file ≡ with_page page image (imaged area (images ++ past) file)
  imaged_put images past file = imaged_where (with_image set images ++ past) (images ++ past) file (λ n. set_first images past n)

  pub imaged_past : (images past : List Slot) (file : List ℕ) → image_at (at area page) images ≡ None → imaged area (images ++ with_image set past) file ≡ with_page page image (imaged area (images ++ past) file)
  imaged_past images past file none = imaged_where (images ++ with_image set past) (images ++ past) file (λ n. set_second images past n none)

  -- a page that isn't set is as before
  pub others_put : (images images_new past : List Slot) (file : List ℕ) (n : ℕ) → images_new ≡ with_image set images → n ≢ page → imaged area (images_new ++ past) file n ≡ imaged area (images ++ past) file n
  others_put images images_new past file n is differs =
      ap (λ (l : List Slot). imaged area (l ++ past) file n) is
      ∙ ap (λ (f : ℕ → List ℕ). f n) (imaged_put images past file)
      ∙ with_other page n image (imaged area (images ++ past) file) differs

-- one more at most
pub few_put : (s : Slot) (images images_new past past_new : List Slot) → images_new ≡ with_image s images → past_new ≡ past → length (images_new ++ past_new) ≤ length (images ++ past) + 1
few_put s images images_new past past_new set same =
    omega (arith, length-append images_new past_new, length-append images past, ap (λ (l : List Slot). length l) set, ap (λ (l : List Slot). length l) same, length-with_image s images)

pub few_past : (s : Slot) (images images_new past past_new : List Slot) → images_new ≡ images → past_new ≡ with_image s past → length (images_new ++ past_new) ≤ length (images ++ past) + 1
few_past s images images_new past past_new same set =
    omega (arith, length-append images_new past_new, length-append images past, ap (λ (l : List Slot). length l) set, ap (λ (l : List Slot). length l) same, length-with_image s past)

-- what holds of a list that was changed, or on an error wasn't
pub by_result : {T E X : Type 0} (P : X → Type 0) (r : Result T E) (new changed old : X) → OnOk r (new ≡ changed) → OnErr r (new ≡ old) → P changed → P old → P new
by_result P (Ok done) new changed old ok err one other = subst P (sym ok) one
by_result P (Err why) new changed old ok err one other = subst P (sym err) other

pub laid_same : (area : Area) (before fresh fresh_new : ℕ) (images images_new past past_new : List Slot) (bytes : List ℕ) → fresh_new ≡ fresh → images_new ≡ images → past_new ≡ past
    → AreLaid area before fresh images past bytes → AreLaid area before fresh_new images_new past_new bytes
laid_same area before fresh fresh_new images images_new past past_new bytes one two three are =
    subst (λ (n : ℕ). AreLaid area before n images_new past_new bytes) (sym one)
    (subst (λ (l : List Slot). AreLaid area before fresh l past_new bytes) (sym two)
    (subst (λ (l : List Slot). AreLaid area before fresh images l bytes) (sym three) are))

-- A change inside the images is one of their area alone.
covers_touches : (a : Area) (ss : List Slot) (i : ℕ) → Covers a ss i → Touches a ss
covers_touches a [] i h = absurd h
covers_touches a (s ∷ ss) i h = ⊎_elim (λ here. inl here.0) (λ later. inr (covers_touches a ss i later)) h

pub untouched_end : (a : Area) (ss : List Slot) → (Touches a ss → ⊥) → end_in a ss ≡ 0
untouched_end a [] away = refl
untouched_end a (s ∷ ss) away = ⊎_elim
    (λ (here : is_in a s ≡ true). absurd (away (inl here)))
    (λ (isnt : is_in a s ≡ false).
    let first : (if is_in a s then end_of s else 0) ≡ 0 = rw isnt refl in
    let rest = untouched_end a ss (λ later. away (inr later)) in
    omega (arith, first, rest))
    (two_cases (is_in a s))

pub scattered_any : (area : Area) (ss : List Slot) → AreOnlyIn area ss → (a : Area) (d c : List ℕ) → Scattered a ss d c → AnyIn area a d c
scattered_any area ss only a d c torn other =
    let away : Touches a ss → ⊥ = λ touched. other (only a touched) in
    let end = untouched_end a ss away in
    let long : length c ≡ length d = omega (arith, torn.no_shorter, torn.no_longer, end) in
    ext_get_or 0 c d long (λ i lt. torn.same i (omega (arith, lt, long)) (λ h. away (covers_touches a ss i h)))

-- the image of a page is what it reads
pub image_reads : (area : Area) (n : ℕ) (images : List Slot) (file image : List ℕ) → image_at (at area n) images ≡ Some image → length image ≡ 4096 → image ≡ imaged area images file n
image_reads area n images file image is whole = sym (ap (λ (o : Option (List ℕ)). image_or o file n) is ∙ own_page image whole)
