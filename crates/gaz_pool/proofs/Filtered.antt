-- Frames of which some were dropped hold no page twice.
use Rattle.std.proofs.Common.{◌≡◌, ℕ, zero, suc, Bool, true, false, List, [], ◌∷◌, refl, sym, ap, arith, ⊎_elim}
use Rattle.std.specs.Prelude.{filter}
use Rattle.gaz_redo.proofs.ImageEdits.{two_cases}
use Rattle.gaz_pool.specs.declared.frame.Frame.{Frame}
use Rattle.gaz_pool.specs.Table.{Has, OneEach}
use Rattle.gaz_pool.specs.Frames.{number_of, pages_in}

later : (number first : ℕ) (numbers : List ℕ) → Has numbers number → Has (first ∷ numbers) number
later number first numbers (place, within, is) = (suc place, omega (arith, within), is)

once_tail : (first : ℕ) (numbers : List ℕ) → OneEach (first ∷ numbers) → OneEach numbers
once_tail first numbers once i j low high same = let is : suc i ≡ suc j = once (suc i) (suc j) (omega (arith, low)) (omega (arith, high)) same in omega (arith, is)

once_head : (first : ℕ) (numbers : List ℕ) → OneEach (first ∷ numbers) → Has numbers first → ⊥
once_head first numbers once (place, within, is) = let same : suc place ≡ 0 = once (suc place) 0 (omega (arith, within)) (omega arith) is in omega (arith, same)

once_more : (first : ℕ) (numbers : List ℕ) → OneEach numbers → (Has numbers first → ⊥) → OneEach (first ∷ numbers)
once_more first numbers once isnt zero zero low high same = refl
once_more first numbers once isnt zero (suc j) low high same = absurd (isnt (j, omega (arith, high), sym same))
once_more first numbers once isnt (suc i) zero low high same = absurd (isnt (i, omega (arith, low), same))
once_more first numbers once isnt (suc i) (suc j) low high same = ap suc (once i j (omega (arith, low)) (omega (arith, high)) same)

first_of : (frame : Frame) (kept frames : List Frame) (number : ℕ) → (Has (pages_in kept) number → Has (pages_in frames) number) → Has (pages_in (frame ∷ kept)) number → Has (pages_in (frame ∷ frames)) number
first_of frame kept frames number still (zero, within, is) = (zero, omega arith, is)
first_of frame kept frames number still (suc place, within, is) = later number (number_of frame) (pages_in frames) (still (place, omega (arith, within), is))

none_dropped : (number : ℕ) → Has [] number → Has [] number
none_dropped number has = has

-- a page that is held still was held before
has_filtered : (stays : Frame → Bool) (frames : List Frame) (number : ℕ) → Has (pages_in (filter stays frames)) number → Has (pages_in frames) number
has_filtered stays [] number = none_dropped number
has_filtered stays (frame ∷ frames) number = ⊎_elim
    (λ (yes : stays frame ≡ true). rw yes (first_of frame (filter stays frames) frames number (has_filtered stays frames number)))
    (λ (no : stays frame ≡ false). rw no (λ has. later number (number_of frame) (pages_in frames) (has_filtered stays frames number has)))
    (two_cases (stays frame))

pub once_filtered : (stays : Frame → Bool) (frames : List Frame) → OneEach (pages_in frames) → OneEach (pages_in (filter stays frames))
once_filtered stays [] once = once
once_filtered stays (frame ∷ frames) once = ⊎_elim
    (λ (yes : stays frame ≡ true). rw yes
    (once_more (number_of frame) (pages_in (filter stays frames)) (once_filtered stays frames (once_tail (number_of frame) (pages_in frames) once))
    (λ has. once_head (number_of frame) (pages_in frames) once (has_filtered stays frames (number_of frame) has))))
    (λ (no : stays frame ≡ false). rw no (once_filtered stays frames (once_tail (number_of frame) (pages_in frames) once)))
    (two_cases (stays frame))
