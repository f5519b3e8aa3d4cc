-- What frames and areas give of each page, after a frame is put in or written out.
use Rattle.std.proofs.Common.{◌≡◌, ◌≢◌, ℕ, ◌*◌, ◌<◌, Bool, true, false, List, [], ◌∷◌, ◌++◌, length, get_or, set, Option, Some, None, refl, sym, ◌∙◌, ap, subst, arith, inl, inr}
use Rattle.std.proofs.lemmas.Bool.{cases_eq}
use Rattle.std.proofs.lemmas.List.Elements.{All-push, All-set, All-get_or, All-from_get_or}
use Rattle.std.proofs.lemmas.List.{length-set, get_or-set_same, get_or-set_other}
use Rattle.gaz_outside.specs.declared.station.Area.{Area}
use Rattle.gaz_outside.specs.Station.{overlaid}
use Rattle.gaz_outside.specs.SameArea.{which}
use Rattle.gaz_page.specs.declared.page.Side.{Side}
use Rattle.gaz_page.specs.Area.{page_at}
use Rattle.gaz_redo.proofs.Steps.{true_not_false}
use Rattle.gaz_pool.specs.declared.frame.Frame.{Frame}
use Rattle.gaz_pool.specs.Sides.{side_area}
use Rattle.gaz_pool.specs.Numbers.{page_number}
use Rattle.gaz_pool.specs.Table.{Has, OneEach}
use Rattle.gaz_pool.specs.Frames.{number_of, pages_in, frame_of, frame_at, blank, settled, laid_over, pooled, IsClean, Agrees, GivesSame, StillAgrees, PutsPage, filled}
use Rattle.gaz_pool.proofs.Areas.{over_own, over_other, number_tells, same_side}
use Rattle.gaz_pool.proofs.Lists.{number_at, pages_long}
use Rattle.gaz_pool.proofs.Frames.{frame_here, frame_none, pushed_other, pushed_own, set_other, set_own, set_gone}

laid : (bytes : List ℕ) (page : ℕ) (o p : Option Frame) → o ≡ p → laid_over o bytes page ≡ laid_over p bytes page
laid bytes page o p same = ap (λ (q : Option Frame). laid_over q bytes page) same

-- a clean frame is what it holds, laid over its page
own_laid : (areas : Area → List ℕ) (frame : Frame) → IsClean areas frame → (waits : Bool) → frame.waits ≡ waits → laid_over (Some frame) (areas (side_area frame.side)) frame.page ≡ frame.bytes
own_laid areas frame clean true is = rw is refl
own_laid areas frame clean false is = rw is (sym (clean is))

-- a frame that doesn't wait is seen through
seen_through : (frame : Frame) (bytes : List ℕ) (page : ℕ) → frame.waits ≡ false → laid_over (Some frame) bytes page ≡ page_at bytes page
seen_through frame bytes page is = rw is refl

-- a frame of a page that isn't held, behind the others
pub puts_pushed : (frames : List Frame) (frame : Frame) (areas : Area → List ℕ) → OneEach (pages_in frames) → (Has (pages_in frames) (number_of frame) → ⊥)
    → IsClean areas frame → Agrees frames areas → PutsPage frame.side frame.page frame.bytes frames areas (frames ++ frame ∷ []) areas
puts_pushed frames frame areas once isnt clean agrees = record {
  agrees = All-push (IsClean areas) frames frame agrees clean;
  own = laid (areas (side_area frame.side)) frame.page (frame_of (number_of frame) (frames ++ frame ∷ [])) (Some frame) (pushed_own frames frame once isnt) ∙ own_laid areas frame clean frame.waits refl;
  others = λ side page differs. laid (areas (side_area side)) page (frame_of (page_number side page) (frames ++ frame ∷ [])) (frame_of (page_number side page) frames)
      (pushed_other (page_number side page) frames frame once isnt (λ same. differs (sym same)));
}

-- in the place of one that doesn't wait
pub puts_replaced : (frames : List Frame) (place : ℕ) (frame : Frame) (areas : Area → List ℕ) → OneEach (pages_in frames) → OneEach (pages_in (set frames place frame)) → place < length frames
    → (Has (pages_in frames) (number_of frame) → ⊥) → (frame_at frames place).waits ≡ false → IsClean areas frame → Agrees frames areas
    → PutsPage frame.side frame.page frame.bytes frames areas (set frames place frame) areas
puts_replaced frames place frame areas once after there isnt idle clean agrees = record {
  agrees = All-set (IsClean areas) frames place frame clean agrees;
  own = laid (areas (side_area frame.side)) frame.page (frame_of (number_of frame) new) (Some frame) (set_own place frames frame after there) ∙ own_laid areas frame clean frame.waits refl;
  others = λ side page differs. elim (cases_eq (number_of last) (page_number side page)) [
    | inl same ↦
        let gone = set_gone place frames frame once after there new_here in
        let was = frame_here frames place once there in
        laid (areas (side_area side)) page (frame_of (page_number side page) new) None (ap (λ (n : ℕ). frame_of n new) (sym same) ∙ gone)
        ∙ sym (seen_through last (areas (side_area side)) page idle)
        ∙ laid (areas (side_area side)) page (Some last) (frame_of (page_number side page) frames) (sym was ∙ ap (λ (n : ℕ). frame_of n frames) same)
    | inr other ↦ laid (areas (side_area side)) page (frame_of (page_number side page) new) (frame_of (page_number side page) frames)
        (set_other (page_number side page) place frames frame after there (λ same. differs (sym same)) other)
  ];
}
  where
    new : List Frame
    new = set frames place frame

    last : Frame
    last = frame_at frames place

    new_here : number_of frame ≡ number_of last → ⊥
    new_here same = isnt (place, omega (arith, there, pages_long frames), number_at frames place there ∙ sym same)

-- a page that differs from the one that was written is as it was
written_other : (areas new : Area → List ℕ) (written side : Side) (m page : ℕ) (bytes : List ℕ) → length bytes ≡ 4096
    → new (side_area written) ≡ overlaid (areas (side_area written)) (4096 * m) bytes → ((a : Area) → a ≢ side_area written → new a ≡ areas a)
    → (page_number written m ≡ page_number side page → ⊥) → page_at (new (side_area side)) page ≡ page_at (areas (side_area side)) page
written_other areas new written side m page bytes whole own others differs =
    elim (which (side_area side) (side_area written)) [
      | inl same ↦
          let is : side ≡ written = same_side side written same in
          ap (λ (a : Area). page_at (new a) page) same ∙ ap (λ (file : List ℕ). page_at file page) own
          ∙ over_other (areas (side_area written)) bytes m page whole (λ level. differs (ap (page_number written) level ∙ ap (λ (s : Side). page_number s page) (sym is)))
          ∙ ap (λ (a : Area). page_at (areas a) page) (sym same)
      | inr away ↦ ap (λ (file : List ℕ). page_at file page) (others (side_area side) away)
    ]

-- the frame of a place was written out
pub settle_still : (frames : List Frame) (place : ℕ) (areas new : Area → List ℕ) → OneEach (pages_in frames) → OneEach (pages_in (set frames place (settled (frame_at frames place)))) → place < length frames
    → length (frame_at frames place).bytes ≡ 4096 → (frame_at frames place).waits ≡ true
    → new (side_area (frame_at frames place).side) ≡ overlaid (areas (side_area (frame_at frames place).side)) (4096 * (frame_at frames place).page) (frame_at frames place).bytes
    → ((a : Area) → a ≢ side_area (frame_at frames place).side → new a ≡ areas a)
    → Agrees frames areas → StillAgrees frames areas (set frames place (settled (frame_at frames place))) new
settle_still frames place areas new once after there whole waits own others agrees = record { agrees = All-from_get_or (IsClean new) all blank each; gives = gives }
  where
    last : Frame
    last = frame_at frames place

    all : List Frame
    all = set frames place (settled last)

    is_own : page_at (new (side_area last.side)) last.page ≡ last.bytes
    is_own = ap (λ (file : List ℕ). page_at file last.page) own ∙ over_own (areas (side_area last.side)) last.bytes last.page whole

    each : (i : ℕ) → i < length all → IsClean new (get_or all i blank)
    each i low =
        let within : i < length frames = omega (arith, low, length-set frames place (settled last)) in
        elim (cases_eq i place) [
          | inl same ↦ subst (IsClean new) (sym (ap (frame_at all) same ∙ get_or-set_same frames place (settled last) blank there)) (λ idle. sym is_own)
          | inr away ↦ subst (IsClean new) (sym (get_or-set_other frames place i (settled last) blank away))
              (λ idle. All-get_or (IsClean areas) frames i blank within agrees idle
              ∙ sym (written_other areas new last.side (frame_at frames i).side last.page (frame_at frames i).page last.bytes whole own others
              (λ same. away (once i place (omega (arith, within, pages_long frames)) (omega (arith, there, pages_long frames)) (number_at frames i within ∙ sym same ∙ sym (number_at frames place there))))))
        ]

    seen : (side : Side) (page : ℕ) (o : Option Frame) → (number_of last ≡ page_number side page → ⊥) → laid_over o (new (side_area side)) page ≡ laid_over o (areas (side_area side)) page
    seen side page None differs = written_other areas new last.side side last.page page last.bytes whole own others differs
    seen side page (Some frame) differs = by_wait frame.waits refl
      where
        by_wait : (w : Bool) → frame.waits ≡ w → laid_over (Some frame) (new (side_area side)) page ≡ laid_over (Some frame) (areas (side_area side)) page
        by_wait true is = rw is refl
        by_wait false is = rw is (written_other areas new last.side side last.page page last.bytes whole own others differs)

    gives : (side : Side) (page : ℕ) → pooled all new side page ≡ pooled frames areas side page
    gives side page = elim (cases_eq (number_of last) (page_number side page)) [
      | inl same ↦
          let told = number_tells last.side side last.page page same in
          laid (new (side_area side)) page (frame_of (page_number side page) all) (Some (settled last)) (ap (λ (n : ℕ). frame_of n all) (sym same) ∙ set_own place frames (settled last) after there)
          ∙ ap (λ (s : Side). page_at (new (side_area s)) page) (sym told.0) ∙ ap (page_at (new (side_area last.side))) (sym told.1) ∙ is_own
          ∙ sym (holds_own (areas (side_area side)) page)
          ∙ laid (areas (side_area side)) page (Some last) (frame_of (page_number side page) frames) (sym (frame_here frames place once there) ∙ ap (λ (n : ℕ). frame_of n frames) same)
      | inr other ↦
          laid (new (side_area side)) page (frame_of (page_number side page) all) (frame_of (page_number side page) frames) (set_other (page_number side page) place frames (settled last) after there other other)
          ∙ seen side page (frame_of (page_number side page) frames) other
    ]
      where
        holds_own : (bytes : List ℕ) (page : ℕ) → laid_over (Some last) bytes page ≡ last.bytes
        holds_own bytes page = rw waits refl

-- A frame of a page that isn't held is as clean after frames were written out as before.
pub clean_still : (frames mid : List Frame) (areas new : Area → List ℕ) (frame : Frame) → OneEach (pages_in frames) → OneEach (pages_in mid)
    → (Has (pages_in frames) (number_of frame) → ⊥) → (Has (pages_in mid) (number_of frame) → ⊥) → GivesSame frames areas mid new → IsClean areas frame → IsClean new frame
clean_still frames mid areas new frame once after isnt still_isnt same clean idle =
    clean idle
    ∙ laid (areas (side_area frame.side)) frame.page None (frame_of (number_of frame) frames) (sym (frame_none (number_of frame) frames once isnt))
    ∙ sym (same frame.side frame.page)
    ∙ laid (new (side_area frame.side)) frame.page (frame_of (number_of frame) mid) None (frame_none (number_of frame) mid after still_isnt)

-- one page is put after nothing else was changed
pub puts_after : (side : Side) (page : ℕ) (bytes : List ℕ) (frames mid last : List Frame) (areas between new : Area → List ℕ) → GivesSame frames areas mid between → PutsPage side page bytes mid between last new → PutsPage side page bytes frames areas last new
puts_after side page bytes frames mid last areas between new same puts = record {
  agrees = puts.agrees;
  own = puts.own;
  others = λ s p differs. puts.others s p differs ∙ same s p;
}

-- a page that no frame holds is seen as the area has it
pub unheld_page : (frames : List Frame) (areas : Area → List ℕ) (side : Side) (page : ℕ) → OneEach (pages_in frames) → (Has (pages_in frames) (page_number side page) → ⊥) → pooled frames areas side page ≡ page_at (areas (side_area side)) page
unheld_page frames areas side page once isnt = laid (areas (side_area side)) page (frame_of (page_number side page) frames) None (frame_none (page_number side page) frames once isnt)

-- and one that a frame holds as that frame has it
pub held_page : (frames : List Frame) (areas : Area → List ℕ) (place : ℕ) (side : Side) (page : ℕ) → OneEach (pages_in frames) → place < length frames
    → number_of (frame_at frames place) ≡ page_number side page → Agrees frames areas → (frame_at frames place).bytes ≡ pooled frames areas side page
held_page frames areas place side page once within is agrees =
    let frame = frame_at frames place in
    let told = number_tells frame.side side frame.page page is in
    let clean = All-get_or (IsClean areas) frames place blank within agrees in
    sym (own_laid areas frame clean frame.waits refl)
    ∙ laid (areas (side_area frame.side)) frame.page (Some frame) (frame_of (number_of frame) frames) (sym (frame_here frames place once within))
    ∙ ap (λ (s : Side). pooled frames areas s frame.page) told.0
    ∙ ap (pooled frames areas side) told.1

-- putting a page as it was gives each page as before
pub gives_put : (side : Side) (page : ℕ) (bytes : List ℕ) (frames new : List Frame) (areas after : Area → List ℕ) → PutsPage side page bytes frames areas new after → bytes ≡ pooled frames areas side page → StillAgrees frames areas new after
gives_put side page bytes frames new areas after puts same = record {
  agrees = puts.agrees;
  gives = λ s p. elim (cases_eq (page_number s p) (page_number side page)) [
    | inl is ↦
        let told = number_tells s side p page is in
        ap (λ (t : Side). pooled new after t p) told.0 ∙ ap (pooled new after side) told.1
        ∙ puts.own ∙ same
        ∙ sym (ap (λ (t : Side). pooled frames areas t p) told.0 ∙ ap (pooled frames areas side) told.1)
    | inr differs ↦ puts.others s p differs
  ];
}

-- a page that is held is given bytes that wait to be written
pub puts_filled : (side : Side) (page : ℕ) (bytes : List ℕ) (frames : List Frame) (place : ℕ) (areas : Area → List ℕ) → OneEach (pages_in frames) → OneEach (pages_in (set frames place (filled bytes true (frame_at frames place)))) → place < length frames
    → number_of (frame_at frames place) ≡ page_number side page → Agrees frames areas → PutsPage side page bytes frames areas (set frames place (filled bytes true (frame_at frames place))) areas
puts_filled side page bytes frames place areas once after there is agrees =
    let last = frame_at frames place in
    let frame = filled bytes true last in
    let new = set frames place frame in
    record {
      agrees = All-set (IsClean areas) frames place frame (λ idle. absurd (true_not_false true refl idle)) agrees;
      own = laid (areas (side_area side)) page (frame_of (page_number side page) new) (Some frame) (ap (λ (n : ℕ). frame_of n new) (sym is) ∙ set_own place frames frame after there);
      others = λ s p differs.
          let away = λ (same : number_of last ≡ page_number s p). differs (sym same ∙ is) in
          laid (areas (side_area s)) p (frame_of (page_number s p) new) (frame_of (page_number s p) frames) (set_other (page_number s p) place frames frame after there away away);
    }
