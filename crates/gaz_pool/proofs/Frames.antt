-- The frame of each page, after one is put behind the others or in the place of another.
use Rattle.std.proofs.Common.{◌≡◌, ℕ, ◌+◌, ◌<◌, List, [], ◌∷◌, ◌++◌, length, set, Option, Some, None, refl, sym, ◌∙◌, ap, subst, arith, inl, inr}
use Rattle.std.proofs.lemmas.Bool.{cases_lt, cases_eq}
use Rattle.std.proofs.lemmas.List.{length-append, length-set, get_or_append_left, get_or-set_same, get_or-set_other, map-append}
use Rattle.std.proofs.Math.Seq.{get_or-append_seam}
use Rattle.gaz_pool.specs.declared.frame.Frame.{Frame}
use Rattle.gaz_pool.specs.Frames.{number_of, pages_in, frame_of, blank, frame_at}
use Rattle.gaz_pool.specs.Table.{Has, OneEach}
use Rattle.gaz_pool.proofs.Lists.{IsFrameOf, number_at, pages_long, frame_found, frame_once}
use Rattle.gaz_pool.proofs.Once.{once_pushed}

-- the frame of a page is the one that stands at a place with its number
pub frame_here : (frames : List Frame) (place : ℕ) → OneEach (pages_in frames) → place < length frames → frame_of (number_of (frame_at frames place)) frames ≡ Some (frame_at frames place)
frame_here frames place once within =
    let frame = frame_at frames place in
    frame_once (number_of frame) frames once (frame_of (number_of frame) frames) (Some frame) (frame_found (number_of frame) frames) (place, within, refl, refl)

-- and none where no frame has it
pub frame_none : (number : ℕ) (frames : List Frame) → OneEach (pages_in frames) → (Has (pages_in frames) number → ⊥) → frame_of number frames ≡ None
frame_none number frames once isnt = frame_once number frames once (frame_of number frames) None (frame_found number frames) isnt

pushed_pages : (frames : List Frame) (frame : Frame) → pages_in (frames ++ frame ∷ []) ≡ pages_in frames ++ number_of frame ∷ []
pushed_pages frames frame = map-append number_of frames (frame ∷ [])

pushed_long : (frames : List Frame) (frame : Frame) → length (frames ++ frame ∷ []) ≡ length frames + 1
pushed_long frames frame = length-append frames (frame ∷ [])

pub pushed_once : (frames : List Frame) (frame : Frame) → OneEach (pages_in frames) → (Has (pages_in frames) (number_of frame) → ⊥) → OneEach (pages_in (frames ++ frame ∷ []))
pushed_once frames frame once isnt = subst OneEach (sym (pushed_pages frames frame)) (once_pushed (pages_in frames) (number_of frame) once isnt)

none_pushed : (number : ℕ) (frames : List Frame) (frame : Frame) → (number_of frame ≡ number → ⊥) → (Has (pages_in frames) number → ⊥) → Has (pages_in (frames ++ frame ∷ [])) number → ⊥
none_pushed number frames frame differs isnt (place, within, is) =
    let new = frames ++ frame ∷ [] in
    let low : place < length new = omega (arith, within, pages_long new) in
    let here = sym (number_at new place low) ∙ is in
    elim (cases_lt place (length frames)) [
      | inl first ↦ isnt (place, omega (arith, first, pages_long frames), number_at frames place first ∙ ap number_of (sym (get_or_append_left frames (frame ∷ []) blank place first)) ∙ here)
      | inr last ↦
          let end : place ≡ length frames = omega (arith, low, last, pushed_long frames frame) in
          differs (sym (ap number_of (ap (frame_at new) end ∙ get_or-append_seam frames frame [] blank)) ∙ here)
    ]

still_pushed : (number : ℕ) (frames : List Frame) (frame : Frame) (o : Option Frame) → (number_of frame ≡ number → ⊥) → IsFrameOf number frames o → IsFrameOf number (frames ++ frame ∷ []) o
still_pushed number frames frame None differs isnt = none_pushed number frames frame differs isnt
still_pushed number frames frame (Some found) differs (place, within, is, numbered) =
    (place, omega (arith, within, pushed_long frames frame), get_or_append_left frames (frame ∷ []) blank place within ∙ is, numbered)

-- after one is put behind the others
pub pushed_other : (number : ℕ) (frames : List Frame) (frame : Frame) → OneEach (pages_in frames) → (Has (pages_in frames) (number_of frame) → ⊥) → (number_of frame ≡ number → ⊥) → frame_of number (frames ++ frame ∷ []) ≡ frame_of number frames
pushed_other number frames frame once isnt differs =
    let new = frames ++ frame ∷ [] in
    frame_once number new (pushed_once frames frame once isnt) (frame_of number new) (frame_of number frames) (frame_found number new)
    (still_pushed number frames frame (frame_of number frames) differs (frame_found number frames))

pub pushed_own : (frames : List Frame) (frame : Frame) → OneEach (pages_in frames) → (Has (pages_in frames) (number_of frame) → ⊥) → frame_of (number_of frame) (frames ++ frame ∷ []) ≡ Some frame
pushed_own frames frame once isnt =
    let new = frames ++ frame ∷ [] in
    frame_once (number_of frame) new (pushed_once frames frame once isnt) (frame_of (number_of frame) new) (Some frame) (frame_found (number_of frame) new)
    (length frames, omega (arith, pushed_long frames frame), get_or-append_seam frames frame [] blank, refl)

none_set : (number place : ℕ) (frames : List Frame) (frame : Frame) → place < length frames → (number_of frame ≡ number → ⊥) → (Has (pages_in frames) number → ⊥) → Has (pages_in (set frames place frame)) number → ⊥
none_set number place frames frame there differs isnt (i, within, is) =
    let new = set frames place frame in
    let low : i < length frames = omega (arith, within, pages_long new, length-set frames place frame) in
    let low_new : i < length new = omega (arith, low, length-set frames place frame) in
    let here = sym (number_at new i low_new) ∙ is in
    elim (cases_eq i place) [
      | inl same ↦ differs (sym (ap number_of (ap (frame_at new) same ∙ get_or-set_same frames place frame blank there)) ∙ here)
      | inr away ↦ isnt (i, omega (arith, low, pages_long frames), number_at frames i low ∙ ap number_of (sym (get_or-set_other frames place i frame blank away)) ∙ here)
    ]

still_set : (number place : ℕ) (frames : List Frame) (frame : Frame) (o : Option Frame) → place < length frames → (number_of frame ≡ number → ⊥) → (number_of (frame_at frames place) ≡ number → ⊥) → IsFrameOf number frames o → IsFrameOf number (set frames place frame) o
still_set number place frames frame None there differs other isnt = none_set number place frames frame there differs isnt
still_set number place frames frame (Some found) there differs other (i, within, is, numbered) =
    elim (cases_eq i place) [
      | inl same ↦ absurd (other (ap number_of (ap (frame_at frames) (sym same) ∙ is) ∙ numbered))
      | inr away ↦ (i, omega (arith, within, length-set frames place frame), get_or-set_other frames place i frame blank away ∙ is, numbered)
    ]

-- after one is put in the place of another
pub set_other : (number place : ℕ) (frames : List Frame) (frame : Frame) → OneEach (pages_in (set frames place frame)) → place < length frames → (number_of frame ≡ number → ⊥) → (number_of (frame_at frames place) ≡ number → ⊥) → frame_of number (set frames place frame) ≡ frame_of number frames
set_other number place frames frame once there differs other =
    let new = set frames place frame in
    frame_once number new once (frame_of number new) (frame_of number frames) (frame_found number new)
    (still_set number place frames frame (frame_of number frames) there differs other (frame_found number frames))

pub set_own : (place : ℕ) (frames : List Frame) (frame : Frame) → OneEach (pages_in (set frames place frame)) → place < length frames → frame_of (number_of frame) (set frames place frame) ≡ Some frame
set_own place frames frame once there =
    let new = set frames place frame in
    frame_once (number_of frame) new once (frame_of (number_of frame) new) (Some frame) (frame_found (number_of frame) new)
    (place, omega (arith, there, length-set frames place frame), get_or-set_same frames place frame blank there, refl)

gone : (place : ℕ) (frames : List Frame) (frame : Frame) → OneEach (pages_in frames) → place < length frames → (number_of frame ≡ number_of (frame_at frames place) → ⊥) → Has (pages_in (set frames place frame)) (number_of (frame_at frames place)) → ⊥
gone place frames frame once there differs (i, within, is) =
    let new = set frames place frame in
    let low : i < length frames = omega (arith, within, pages_long new, length-set frames place frame) in
    let low_new : i < length new = omega (arith, low, length-set frames place frame) in
    let here = sym (number_at new i low_new) ∙ is in
    elim (cases_eq i place) [
      | inl same ↦ differs (sym (ap number_of (ap (frame_at new) same ∙ get_or-set_same frames place frame blank there)) ∙ here)
      | inr away ↦ away (once i place (omega (arith, low, pages_long frames)) (omega (arith, there, pages_long frames))
          (number_at frames i low ∙ ap number_of (sym (get_or-set_other frames place i frame blank away)) ∙ here ∙ sym (number_at frames place there)))
    ]

-- the page that was given up has none
pub set_gone : (place : ℕ) (frames : List Frame) (frame : Frame) → OneEach (pages_in frames) → OneEach (pages_in (set frames place frame)) → place < length frames → (number_of frame ≡ number_of (frame_at frames place) → ⊥) → frame_of (number_of (frame_at frames place)) (set frames place frame) ≡ None
set_gone place frames frame once after there differs = frame_none (number_of (frame_at frames place)) (set frames place frame) after (gone place frames frame once there differs)
