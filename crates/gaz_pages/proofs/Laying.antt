-- Images laid over an area: its pages are the images where there are some, and else as they were.
use Rattle.std.proofs.Common.{true, false, ◌≡◌, ◌≢◌, inl, inr, ⊎_elim, ℕ, ◌+◌, ◌*◌, ◌<◌, List, [], ◌∷◌, length, get_or, Some, None, Option, refl, sym, ◌∙◌, ap, arith, if◌then◌else◌}
use Rattle.std.proofs.lemmas.Bool.{cases_lt}
use Rattle.std.proofs.lemmas.Bool.Decides.{nat_tests}
use Rattle.gaz_outside.specs.declared.station.Area.{Area}
use Rattle.gaz_outside.specs.Station.{overlaid, area_place}
use Rattle.gaz_outside.specs.SameArea.{same_place}
use Rattle.gaz_outside.specs.Overlaid.{overlaid_before, overlaid_inside, overlaid_after}
use Rattle.gaz_page.specs.Area.{page_at}
use Rattle.gaz_page.proofs.Area.{same_page}
use Rattle.gaz_redo.specs.Slots.{Slot, is_in, start_of, laid_in}
use Rattle.gaz_redo.specs.Content.{are_images}
use Rattle.gaz_redo.specs.Images.{stands_at, image_at}
use Rattle.gaz_redo.proofs.ImageEdits.{two_cases}
use Rattle.gaz_pages.specs.Laid.{image_or}
use Rattle.gaz_pages.proofs.Homes.{at, stands, stands_own, stands_in, once, first_whole, later_images, past_first, at_first}

over_own : (file image : List ℕ) (n : ℕ) → length image ≡ 4096 → page_at (overlaid file (4096 * n) image) n ≡ page_at image 0
over_own file image n whole = same_page (overlaid file (4096 * n) image) image n 0
    (λ i below. overlaid_inside file (4096 * n) image (4096 * n + i) (omega arith) (omega (arith, below, whole)) ∙ ap (λ (k : ℕ). get_or image k 0) (omega arith))

over_other : (file image : List ℕ) (m n : ℕ) → length image ≡ 4096 → m ≢ n → page_at (overlaid file (4096 * m) image) n ≡ page_at file n
over_other file image m n whole differs = same_page (overlaid file (4096 * m) image) file n n
    (λ i below. elim (cases_lt m n) [
      | inl less ↦ overlaid_after file (4096 * m) image (4096 * n + i) (omega (arith, less, whole))
      | inr ge ↦ overlaid_before file (4096 * m) image (4096 * n + i) (let less : n < m = omega (arith, ge, differs) in omega (arith, less, below))
    ])

-- one image over an area
put_own : (area : Area) (n : ℕ) (s : Slot) (file : List ℕ) → length s.image ≡ 4096 → stands_at (at area n) s ≡ true → page_at (if is_in area s then overlaid file (start_of s) s.image else file) n ≡ page_at s.image 0
put_own area n s file whole is =
    rw (stands_in area n s is)
    (ap (λ (k : ℕ). page_at (overlaid file (4096 * k) s.image) n) (stands (at area n) s is).1 ∙ over_own file s.image n whole)

put_other : (area : Area) (n : ℕ) (s : Slot) (file : List ℕ) → length s.image ≡ 4096 → stands_at (at area n) s ≡ false → page_at (if is_in area s then overlaid file (start_of s) s.image else file) n ≡ page_at file n
put_other area n s file whole isnt = ⊎_elim
    (λ (here : is_in area s ≡ true). rw here (over_other file s.image s.page n whole (λ same. absurd (cc (isnt, stands_own area n s (own here) same)))))
    (λ (away : is_in area s ≡ false). rw away refl)
    (two_cases (is_in area s))
  where
    own : is_in area s ≡ true → s.area ≡ area
    own here = let same : area_place s.area ≡ area_place area = grind (arith, nat_tests) in same_place s.area area same

-- where no image stands, what lies below is seen
none_laid : (area : Area) (n : ℕ) (image : Option (List ℕ)) (x y : List ℕ) → page_at x n ≡ page_at y n → image_or image x n ≡ image_or image y n
none_laid area n None x y same = same
none_laid area n (Some image) x y same = refl

pub laid_pages : (area : Area) (n : ℕ) (ss : List Slot) (file : List ℕ) → are_images ss ≡ true → page_at (laid_in area ss file) n ≡ image_or (image_at (at area n) ss) file n
laid_pages area n [] file images = refl
laid_pages area n (s ∷ ss) file images =
    let put = if is_in area s then overlaid file (start_of s) s.image else file in
    let whole = first_whole s ss images in
    let rest = laid_pages area n ss put (later_images s ss images) in
    ⊎_elim
    (λ (is : stands_at (at area n) s ≡ true).
    rest ∙ ap (λ (o : Option (List ℕ)). image_or o put n) (once (at area n) s ss images is)
    ∙ put_own area n s file whole is
    ∙ sym (ap (λ (o : Option (List ℕ)). image_or o file n) (at_first (at area n) s ss is)))
    (λ (isnt : stands_at (at area n) s ≡ false).
    rest ∙ none_laid area n (image_at (at area n) ss) put file (put_other area n s file whole isnt)
    ∙ sym (ap (λ (o : Option (List ℕ)). image_or o file n) (past_first (at area n) s ss isnt)))
    (two_cases (stands_at (at area n) s))
