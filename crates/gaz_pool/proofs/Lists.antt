-- Where the frame of a page stands.
use Rattle.std.proofs.Common.{◌≡◌, ℕ, zero, suc, ◌<◌, true, false, ◌==◌, List, [], ◌∷◌, length, get_or, Option, Some, None, refl, sym, ◌∙◌, ap, arith, ⊎_elim}
use Rattle.std.proofs.lemmas.Bool.Decides.{nat_tests}
use Rattle.std.proofs.lemmas.List.{get_or-map, length-map}
use Rattle.std.proofs.lemmas.Option.{get_or_from_slice_get, slice_get_read}
use Rattle.gaz_redo.proofs.ImageEdits.{two_cases}
use Rattle.gaz_pool.specs.declared.frame.Frame.{Frame}
use Rattle.gaz_pool.specs.Frames.{number_of, pages_in, frame_of, blank, frame_at}
use Rattle.gaz_pool.specs.Table.{Has, OneEach}

-- what an index within the frames gives
pub frame_read : (frames : List Frame) (place : ℕ) (frame : Frame) → place < length frames → frame ≡ get_or frames place frame → frame_at frames place ≡ frame
frame_read frames place frame within is = get_or_from_slice_get frames place frame blank (slice_get_read frames (length frames) place frame refl within is)

-- This is the frame of the page, or none is.
abbrev pub IsFrameOf : ℕ → List Frame → Option Frame → Type 0
IsFrameOf number frames None = Has (pages_in frames) number → ⊥
IsFrameOf number frames (Some frame) = (place : ℕ) × (place < length frames) × (frame_at frames place ≡ frame) × (number_of frame ≡ number)

-- the number at a place is that of the frame there
pub number_at : (frames : List Frame) (place : ℕ) → place < length frames → get_or (pages_in frames) place 0 ≡ number_of (frame_at frames place)
number_at frames place within = get_or-map number_of frames place blank 0 within

pub pages_long : (frames : List Frame) → length (pages_in frames) ≡ length frames
pages_long frames = length-map frames number_of

behind : (number : ℕ) (frame : Frame) (frames : List Frame) → (number_of frame ≡ number → ⊥) → (Has (pages_in frames) number → ⊥) → Has (pages_in (frame ∷ frames)) number → ⊥
behind number frame frames differs isnt (zero, within, is) = differs is
behind number frame frames differs isnt (suc place, within, is) = isnt (place, omega (arith, within), is)

later : (number : ℕ) (frame : Frame) (frames : List Frame) (o : Option Frame) → (number_of frame ≡ number → ⊥) → IsFrameOf number frames o → IsFrameOf number (frame ∷ frames) o
later number frame frames None differs isnt = behind number frame frames differs isnt
later number frame frames (Some found) differs (place, within, is, numbered) = (suc place, omega (arith, within), is, numbered)

none_in : (number : ℕ) → Has [] number → ⊥
none_in number (place, within, is) = omega (arith, within)

pub frame_found : (number : ℕ) (frames : List Frame) → IsFrameOf number frames (frame_of number frames)
frame_found number [] = none_in number
frame_found number (frame ∷ frames) = ⊎_elim
    (λ (yes : (number_of frame == number) ≡ true). rw yes (zero, omega arith, refl, grind (arith, nat_tests)))
    (λ (no : (number_of frame == number) ≡ false). rw no (later number frame frames (frame_of number frames) (λ same. grind (arith, nat_tests)) (frame_found number frames)))
    (two_cases (number_of frame == number))

-- of frames that hold no page twice there is one such frame at most
pub frame_once : (number : ℕ) (frames : List Frame) → OneEach (pages_in frames) → (o p : Option Frame) → IsFrameOf number frames o → IsFrameOf number frames p → o ≡ p
frame_once number frames once None None first second = refl
frame_once number frames once None (Some f) isnt (place, within, is, numbered) =
    absurd (isnt (place, omega (arith, within, pages_long frames), number_at frames place within ∙ ap number_of is ∙ numbered))
frame_once number frames once (Some f) None (place, within, is, numbered) isnt =
    absurd (isnt (place, omega (arith, within, pages_long frames), number_at frames place within ∙ ap number_of is ∙ numbered))
frame_once number frames once (Some f) (Some g) (i, low, is, numbered) (j, high, too, same) =
    let same_place : i ≡ j = once i j (omega (arith, low, pages_long frames)) (omega (arith, high, pages_long frames))
    (number_at frames i low ∙ ap number_of is ∙ numbered ∙ sym same ∙ sym (ap number_of too) ∙ sym (number_at frames j high)) in
    ap Some (sym is ∙ ap (frame_at frames) same_place ∙ too)
