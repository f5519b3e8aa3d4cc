-- The frames after a page was given other bytes.
use Rattle.std.proofs.Common.{◌≡◌, ℕ, ◌<◌, true, false, ◌==◌, List, length, set, refl, sym, ◌∙◌, ap, arith, inl, inr, ⊎_elim}
use Rattle.std.proofs.lemmas.Bool.{cases_eq}
use Rattle.std.proofs.lemmas.Bool.Decides.{nat_tests}
use Rattle.std.proofs.lemmas.List.{length-map, length-set, get_or-map, get_or-set_same, get_or-set_other, ext_get_or}
use Rattle.gaz_page.specs.declared.page.Side.{Side}
use Rattle.gaz_redo.proofs.ImageEdits.{two_cases}
use Rattle.gaz_pool.specs.declared.frame.Frame.{Frame}
use Rattle.gaz_pool.specs.Numbers.{page_number}
use Rattle.gaz_pool.specs.Table.{Has, OneEach}
use Rattle.gaz_pool.specs.Frames.{number_of, pages_in, frame_at, blank, filled, with_bytes, refreshed}
use Rattle.gaz_pool.proofs.Lists.{number_at, pages_long}

with_own : (number : ℕ) (bytes : List ℕ) (frame : Frame) → number_of frame ≡ number → with_bytes number bytes frame ≡ filled bytes frame.waits frame
with_own number bytes frame same = ⊎_elim
    (λ (yes : (number_of frame == number) ≡ true). rw yes refl)
    (λ (no : (number_of frame == number) ≡ false). absurd (grind (arith, nat_tests)))
    (two_cases (number_of frame == number))

with_other : (number : ℕ) (bytes : List ℕ) (frame : Frame) → (number_of frame ≡ number → ⊥) → with_bytes number bytes frame ≡ frame
with_other number bytes frame differs = ⊎_elim
    (λ (yes : (number_of frame == number) ≡ true). absurd (differs (grind (arith, nat_tests))))
    (λ (no : (number_of frame == number) ≡ false). rw no refl)
    (two_cases (number_of frame == number))

at_place : (side : Side) (page : ℕ) (bytes : List ℕ) (frames : List Frame) (i : ℕ) → i < length frames → frame_at (refreshed side page bytes frames) i ≡ with_bytes (page_number side page) bytes (frame_at frames i)
at_place side page bytes frames i within = get_or-map (with_bytes (page_number side page) bytes) frames i blank blank within

-- where a frame holds it
pub refreshed_here : (side : Side) (page : ℕ) (bytes : List ℕ) (frames : List Frame) (place : ℕ) → OneEach (pages_in frames) → place < length frames → number_of (frame_at frames place) ≡ page_number side page
    → set frames place (filled bytes (frame_at frames place).waits (frame_at frames place)) ≡ refreshed side page bytes frames
refreshed_here side page bytes frames place once there is =
    let last = frame_at frames place in
    let new = set frames place (filled bytes last.waits last) in
    let number = page_number side page in
    let all = refreshed side page bytes frames in
    ext_get_or blank new all (length-set frames place (filled bytes last.waits last) ∙ sym (length-map frames (with_bytes number bytes)))
    (λ i low.
    let within : i < length frames = omega (arith, low, length-set frames place (filled bytes last.waits last)) in
    elim (cases_eq i place) [
      | inl same ↦
          ap (λ (k : ℕ). frame_at new k) same ∙ get_or-set_same frames place (filled bytes last.waits last) blank there
          ∙ sym (with_own number bytes last is) ∙ sym (at_place side page bytes frames place there) ∙ ap (λ (k : ℕ). frame_at all k) (sym same)
      | inr away ↦
          get_or-set_other frames place i (filled bytes last.waits last) blank away
          ∙ sym (with_other number bytes (frame_at frames i) (λ same. away (once i place (omega (arith, within, pages_long frames)) (omega (arith, there, pages_long frames))
          (number_at frames i within ∙ same ∙ sym is ∙ sym (number_at frames place there)))))
          ∙ sym (at_place side page bytes frames i within)
    ])

-- and where none does
pub refreshed_none : (side : Side) (page : ℕ) (bytes : List ℕ) (frames : List Frame) → (Has (pages_in frames) (page_number side page) → ⊥) → frames ≡ refreshed side page bytes frames
refreshed_none side page bytes frames isnt =
    let number = page_number side page in
    ext_get_or blank frames (refreshed side page bytes frames) (sym (length-map frames (with_bytes number bytes)))
    (λ i low.
    sym (with_other number bytes (frame_at frames i) (λ same. isnt (i, omega (arith, low, pages_long frames), number_at frames i low ∙ same)))
    ∙ sym (at_place side page bytes frames i low))
