-- Frames that are their pages as a device has them.
use Rattle.std.proofs.Common.{◌≡◌, ◌≢◌, ℕ, ◌+◌, ◌-◌, ◌*◌, ◌/◌, ◌<◌, ◌≤◌, true, false, ◌==◌, List, [], ◌∷◌, ◌++◌, length, take, drop, Some, None, Result, Ok, Err, OnOk, OnErr, refl, sym, ◌∙◌, ap, subst, arith, ⊎_elim}
use Rattle.std.specs.List.{All}
use Rattle.std.proofs.lemmas.List.Elements.{All-head, All-tail, All-cons, All-map, All-weaker}
use Rattle.std.proofs.Math.Seq.{take-add}
use Rattle.std.proofs.lemmas.List.{length-take, length-drop}
use Rattle.std.proofs.lemmas.Bool.{cases_lt}
use Rattle.std.proofs.lemmas.Bool.Decides.{nat_tests}
use Rattle.gaz_outside.specs.declared.station.Area.{Area}
use Rattle.gaz_outside.specs.declared.station.Area.TheVariants as area
use Rattle.gaz_outside.specs.SameArea.{same_place}
use Rattle.gaz_outside.specs.Station.{StationView, Writes, overlaid, area_place}
use Rattle.gaz_outside.specs.Overlaid.{overlaid_before, overlaid_after}
use Rattle.gaz_page.specs.declared.page.Side.{Side}
use Rattle.gaz_page.specs.declared.page.Side.TheVariants.{Left, Right}
use Rattle.gaz_page.specs.Area.{page_at}
use Rattle.gaz_page.proofs.Area.{same_page}
use Rattle.gaz_redo.proofs.ImageEdits.{two_cases}
use Rattle.gaz_redo.proofs.Batches.{overlaid_on}
use Rattle.gaz_pool.specs.declared.frame.Frame.{Frame}
use Rattle.gaz_pool.specs.Frames.{number_of, frame_of, filled, laid_over, pooled, with_bytes, refreshed, are_apart, is_beside, without_side, IsClean, Agrees, StillAgrees, NoneWaits}
use Rattle.gaz_pool.specs.Numbers.{page_number}
use Rattle.gaz_pool.specs.Sides.{side_area}
use Rattle.gaz_pool.proofs.Areas.{over_own, over_other, number_tells}
use Rattle.gaz_framed.specs.Kept.{side_in, wrote, Follows, FollowsAny}

seen_through : (frame : Frame) (bytes : List ℕ) (page : ℕ) → frame.waits ≡ false → laid_over (Some frame) bytes page ≡ page_at bytes page
seen_through frame bytes page idle = rw idle refl

none_laid : (number : ℕ) (frames : List Frame) (bytes : List ℕ) (page : ℕ) → NoneWaits frames → laid_over (frame_of number frames) bytes page ≡ page_at bytes page
none_laid number [] bytes page none = refl
none_laid number (frame ∷ frames) bytes page none = ⊎_elim
    (λ (yes : (number_of frame == number) ≡ true). rw yes (seen_through frame bytes page (All-head (λ (f : Frame). f.waits ≡ false) frame frames none)))
    (λ (no : (number_of frame == number) ≡ false). rw no (none_laid number frames bytes page (All-tail (λ (f : Frame). f.waits ≡ false) frame frames none)))
    (two_cases (number_of frame == number))

-- where no frame waits to be written each page is as its area has it
pub pooled_none : (frames : List Frame) (areas : Area → List ℕ) (side : Side) (page : ℕ) → NoneWaits frames → pooled frames areas side page ≡ page_at (areas (side_area side)) page
pooled_none frames areas side page none = none_laid (page_number side page) frames (areas (side_area side)) page none

-- frames agree with areas of the same bytes
pub agrees_same : (frames : List Frame) (areas new : Area → List ℕ) → ((side : Side) → new (side_area side) ≡ areas (side_area side)) → Agrees frames areas → Agrees frames new
agrees_same frames areas new same agrees =
    All-weaker (IsClean areas) (IsClean new) (λ frame clean idle. clean idle ∙ ap (λ (file : List ℕ). page_at file frame.page) (sym (same frame.side))) frames agrees

-- after a page was loaded, and after the device failed
pub agrees_loaded : {A E : Type 0} (result : Result A E) (frames loaded : List Frame) (areas new : Area → List ℕ) → OnOk result (StillAgrees frames areas loaded new) → OnErr result (loaded ≡ frames)
    → ((side : Side) → new (side_area side) ≡ areas (side_area side)) → Agrees frames areas → Agrees loaded new
agrees_loaded (Ok x) frames loaded areas new still kept same agrees = still.agrees
agrees_loaded (Err e) frames loaded areas new still kept same agrees = subst (λ (l : List Frame). Agrees l new) (sym kept) (agrees_same frames areas new same agrees)

waits_still : (number : ℕ) (bytes : List ℕ) (frame : Frame) → frame.waits ≡ false → (with_bytes number bytes frame).waits ≡ false
waits_still number bytes frame idle = ⊎_elim
    (λ (yes : (number_of frame == number) ≡ true). rw yes idle)
    (λ (no : (number_of frame == number) ≡ false). rw no idle)
    (two_cases (number_of frame == number))

-- no frame waits after a page was given other bytes
pub none_given : (side : Side) (page : ℕ) (bytes : List ℕ) (frames : List Frame) → NoneWaits frames → NoneWaits (refreshed side page bytes frames)
none_given side page bytes frames none =
    All-map (λ (f : Frame). f.waits ≡ false) (with_bytes (page_number side page) bytes) frames
    (All-weaker (λ (f : Frame). f.waits ≡ false) (λ (f : Frame). (with_bytes (page_number side page) bytes f).waits ≡ false) (waits_still (page_number side page) bytes) frames none)

-- what holds of each frame does so of those that are left
pub all_without : (P : Frame → Type 0) (side : Side) (frames : List Frame) → All P frames → All P (without_side side frames)
all_without P side [] all = all
all_without P side (frame ∷ frames) all = ⊎_elim
    (λ (yes : is_beside side frame ≡ true). rw yes (All-cons P frame (without_side side frames) (All-head P frame frames all) (all_without P side frames (All-tail P frame frames all))))
    (λ (no : is_beside side frame ≡ false). rw no (all_without P side frames (All-tail P frame frames all)))
    (two_cases (is_beside side frame))

-- where a side's frames were dropped its area may change
pub agrees_without : (side : Side) (frames : List Frame) (areas new : Area → List ℕ) → ((s : Side) → are_apart side s ≡ true → new (side_area s) ≡ areas (side_area s)) → Agrees frames areas → Agrees (without_side side frames) new
agrees_without side [] areas new same agrees = agrees_none
  where
    agrees_none : Agrees [] new
    agrees_none k d low = absurd (omega (arith, low))
agrees_without side (frame ∷ frames) areas new same agrees = ⊎_elim
    (λ (yes : is_beside side frame ≡ true). rw yes
    (All-cons (IsClean new) frame (without_side side frames)
    (λ idle. All-head (IsClean areas) frame frames agrees idle ∙ ap (λ (file : List ℕ). page_at file frame.page) (sym (same frame.side yes)))
    (agrees_without side frames areas new same (All-tail (IsClean areas) frame frames agrees))))
    (λ (no : is_beside side frame ≡ false). rw no (agrees_without side frames areas new same (All-tail (IsClean areas) frame frames agrees)))
    (two_cases (is_beside side frame))

-- a page that is given bytes is clean in an area that has them there
given_own : (side : Side) (page : ℕ) (bytes : List ℕ) (areas : Area → List ℕ) (frame : Frame) → length bytes ≡ 4096 → number_of frame ≡ page_number side page
    → IsClean (wrote (side_area side) (4096 * page) bytes areas) (filled bytes frame.waits frame)
given_own side page bytes areas frame whole is idle =
    let told = number_tells frame.side side frame.page page is in
    let put = wrote (side_area side) (4096 * page) bytes areas in
    sym (ap (λ (s : Side). page_at (put (side_area s)) frame.page) told.0 ∙ ap (page_at (put (side_area side))) told.1 ∙ here side)
  where
    here : (s : Side) → page_at (wrote (side_area s) (4096 * page) bytes areas (side_area s)) page ≡ bytes
    here Left = over_own (areas area.Left) bytes page whole
    here Right = over_own (areas area.Right) bytes page whole

-- every other page is as it was
put_other : (side other : Side) (page n : ℕ) (bytes : List ℕ) (areas : Area → List ℕ) → length bytes ≡ 4096 → (page_number other n ≡ page_number side page → ⊥)
    → page_at (wrote (side_area side) (4096 * page) bytes areas (side_area other)) n ≡ page_at (areas (side_area other)) n
put_other Left Left page n bytes areas whole differs = over_other (areas area.Left) bytes page n whole (λ same. differs (ap (page_number Left) (sym same)))
put_other Right Right page n bytes areas whole differs = over_other (areas area.Right) bytes page n whole (λ same. differs (ap (page_number Right) (sym same)))
put_other Left Right page n bytes areas whole differs = refl
put_other Right Left page n bytes areas whole differs = refl

given_clean : (side : Side) (page : ℕ) (bytes : List ℕ) (areas : Area → List ℕ) → length bytes ≡ 4096 → (frame : Frame) → IsClean areas frame
    → IsClean (wrote (side_area side) (4096 * page) bytes areas) (with_bytes (page_number side page) bytes frame)
given_clean side page bytes areas whole frame clean = ⊎_elim
    (λ (yes : (number_of frame == page_number side page) ≡ true). rw yes (given_own side page bytes areas frame whole (grind (arith, nat_tests))))
    (λ (no : (number_of frame == page_number side page) ≡ false). rw no (λ idle. clean idle ∙ sym (put_other side frame.side page frame.page bytes areas whole (λ same. grind (arith, nat_tests)))))
    (two_cases (number_of frame == page_number side page))

agrees_given : (side : Side) (page : ℕ) (bytes : List ℕ) (frames : List Frame) (areas : Area → List ℕ) → length bytes ≡ 4096 → Agrees frames areas → Agrees (refreshed side page bytes frames) (wrote (side_area side) (4096 * page) bytes areas)
agrees_given side page bytes frames areas whole agrees =
    let put = wrote (side_area side) (4096 * page) bytes areas in
    All-map (IsClean put) (with_bytes (page_number side page) bytes) frames
    (All-weaker (IsClean areas) (λ (f : Frame). IsClean put (with_bytes (page_number side page) bytes f)) (given_clean side page bytes areas whole) frames agrees)

-- two sides that are apart have two areas
pub apart_sides : (side other : Side) → are_apart side other ≡ true → side_area side ≡ side_area other → ⊥
apart_sides Left Left apart same = cc apart
apart_sides Right Right apart same = cc apart
apart_sides Left Right apart same = let place : 3 ≡ 4 = ap area_place same in omega (arith, place)
apart_sides Right Left apart same = let place : 4 ≡ 3 = ap area_place same in omega (arith, place)

-- bytes that go nowhere change no page
nothing_there : (file : List ℕ) (at page : ℕ) → page_at (overlaid file at []) page ≡ page_at file page
nothing_there file at page = same_page (overlaid file at []) file page page (λ i below. ⊎_elim
    (λ (less : 4096 * page + i < at). overlaid_before file at [] (4096 * page + i) less)
    (λ (past : at ≤ 4096 * page + i). overlaid_after file at [] (4096 * page + i) (omega (arith, past)))
    (cases_lt (4096 * page + i) at))

-- before any byte went out
pub follows_none : (side : Side) (at : ℕ) (frames : List Frame) → Follows (side_area side) at [] frames frames
follows_none side at frames areas agrees =
    All-weaker (IsClean areas) (IsClean (wrote (side_area side) at [] areas)) (λ frame clean idle. clean idle ∙ sym (unchanged frame)) frames agrees
  where
    unchanged : (frame : Frame) → page_at (wrote (side_area side) at [] areas (side_area frame.side)) frame.page ≡ page_at (areas (side_area frame.side)) frame.page
    unchanged frame = ⊎_elim
        (λ (yes : (area_place (side_area side) == area_place (side_area frame.side)) ≡ true). rw yes (nothing_there (areas (side_area frame.side)) at frame.page))
        (λ (no : (area_place (side_area side) == area_place (side_area frame.side)) ≡ false). rw no refl)
        (two_cases (area_place (side_area side) == area_place (side_area frame.side)))

-- one page more
pub follows_more : (side : Side) (first n : ℕ) (bytes page more : List ℕ) (old mid new : List Frame) → length bytes ≡ 4096 * n → length page ≡ 4096 → more ≡ bytes ++ page → new ≡ refreshed side (first + n) page mid
    → Follows (side_area side) (4096 * first) bytes old mid → Follows (side_area side) (4096 * first) more old new
follows_more side first n bytes page more old mid new long whole is frames follows areas agrees =
    let before = wrote (side_area side) (4096 * first) bytes areas in
    let given = agrees_given side (first + n) page mid before whole (follows areas agrees) in
    subst (λ (l : List Frame). Agrees l (wrote (side_area side) (4096 * first) more areas)) (sym frames)
    (agrees_same (refreshed side (first + n) page mid) (wrote (side_area side) (4096 * (first + n)) page before) (wrote (side_area side) (4096 * first) more areas) each given)
  where
    at_end : 4096 * (first + n) ≡ 4096 * first + length bytes
    at_end = omega (arith, long)

    joined : (file : List ℕ) → overlaid file (4096 * first) more ≡ overlaid (overlaid file (4096 * first) bytes) (4096 * (first + n)) page
    joined file = ap (λ (l : List ℕ). overlaid file (4096 * first) l) is ∙ sym (overlaid_on file (4096 * first) bytes page)
        ∙ ap (λ (k : ℕ). overlaid (overlaid file (4096 * first) bytes) k page) (sym at_end)

    each : (s : Side) → wrote (side_area side) (4096 * first) more areas (side_area s) ≡ wrote (side_area side) (4096 * (first + n)) page (wrote (side_area side) (4096 * first) bytes areas) (side_area s)
    each s = ⊎_elim
        (λ (yes : (area_place (side_area side) == area_place (side_area s)) ≡ true). rw yes (joined (areas (side_area s))))
        (λ (no : (area_place (side_area side) == area_place (side_area s)) ≡ false). rw no refl)
        (two_cases (area_place (side_area side) == area_place (side_area s)))

-- an area that has pages is that of its side
side_told : (area : Area) (side : Side) → side_in area ≡ Some side → side_area side ≡ area
side_told area.Mark side is = absurd (cc is)
side_told area.Log side is = absurd (cc is)
side_told area.Root side is = absurd (cc is)
side_told area.Left side is = let told : Left ≡ side = cc is in ap side_area (sym told)
side_told area.Right side is = let told : Right ≡ side = cc is in ap side_area (sym told)

-- another area has what it had
wrote_beside : (area : Area) (at : ℕ) (bytes : List ℕ) (areas : Area → List ℕ) (a : Area) → a ≢ area → wrote area at bytes areas a ≡ areas a
wrote_beside area at bytes areas a differs = ⊎_elim
    (λ (yes : (area_place area == area_place a) ≡ true). absurd (differs (sym (same_place area a (grind (arith, nat_tests))))))
    (λ (no : (area_place area == area_place a) ≡ false). rw no refl)
    (two_cases (area_place area == area_place a))

-- where an area has no pages, no frame is of it
pub beside_follows : (area : Area) (at : ℕ) (bytes : List ℕ) (frames : List Frame) → side_in area ≡ None → Follows area at bytes frames frames
beside_follows area at bytes frames none areas agrees =
    agrees_same frames areas (wrote area at bytes areas) (λ side. wrote_beside area at bytes areas (side_area side) (λ same. apart side (subst (λ (a : Area). side_in a ≡ None) (sym same) none))) agrees
  where
    apart : (side : Side) → side_in (side_area side) ≡ None → ⊥
    apart Left is = cc is
    apart Right is = cc is

-- where the frames of its side were dropped
pub dropped_any : (area : Area) (side : Side) (frames new : List Frame) → side_in area ≡ Some side → new ≡ without_side side frames → FollowsAny area frames new
dropped_any area side frames new is dropped areas other same agrees =
    subst (λ (l : List Frame). Agrees l other) (sym dropped)
    (agrees_without side frames areas other (λ s apart. same (side_area s) (λ eq. apart_sides side s apart (side_told area side is ∙ sym eq))) agrees)

pub dropped_follows : (area : Area) (side : Side) (at : ℕ) (bytes : List ℕ) (frames new : List Frame) → side_in area ≡ Some side → new ≡ without_side side frames → Follows area at bytes frames new
dropped_follows area side at bytes frames new is dropped areas agrees =
    dropped_any area side frames new is dropped areas (wrote area at bytes areas) (λ a differs. wrote_beside area at bytes areas a differs) agrees

-- what was written is what the area has
pub agrees_written : (frames : List Frame) (area : Area) (at : ℕ) (bytes : List ℕ) (old new : StationView) → new.bytes area ≡ overlaid (old.bytes area) at bytes → Writes area at (length bytes) old new
    → Agrees frames (wrote area at bytes old.bytes) → Agrees frames new.bytes
agrees_written frames area at bytes old new written writes agrees = agrees_same frames (wrote area at bytes old.bytes) new.bytes each agrees
  where
    each : (s : Side) → new.bytes (side_area s) ≡ wrote area at bytes old.bytes (side_area s)
    each s = ⊎_elim
        (λ (yes : (area_place area == area_place (side_area s)) ≡ true). rw yes (subst (λ (a : Area). new.bytes a ≡ overlaid (old.bytes a) at bytes) (same_place area (side_area s) (grind (arith, nat_tests))) written))
        (λ (no : (area_place area == area_place (side_area s)) ≡ false). rw no (writes.others (side_area s) (λ same. grind (arith, nat_tests, ap area_place same))).bytes)
        (two_cases (area_place area == area_place (side_area s)))

-- the pages of bytes that are whole pages
module _ (bytes : List ℕ) (n : ℕ) (whole : length bytes ≡ 4096 * (length bytes / 4096)) (there : n < length bytes / 4096) where
  pub front_long : length (take (4096 * n) bytes) ≡ 4096 * n
  front_long = omega (arith, length-take (4096 * n) bytes, whole, there)

  size : 4096 * n + 4096 - 4096 * n ≡ 4096
  size = omega arith

  pub page_long : length (take (4096 * n + 4096 - 4096 * n) (drop (4096 * n) bytes)) ≡ 4096
  page_long = omega (arith, length-take (4096 * n + 4096 - 4096 * n) (drop (4096 * n) bytes), length-drop (4096 * n) bytes, size, whole, there)

  next : 4096 * (n + 1) ≡ 4096 * n + 4096
  next = omega arith

  pub page_on : take (4096 * (n + 1)) bytes ≡ take (4096 * n) bytes ++ take (4096 * n + 4096 - 4096 * n) (drop (4096 * n) bytes)
  page_on =
      ap (λ (k : ℕ). take k bytes) next ∙ take-add (4096 * n) 4096 bytes
      ∙ ap (λ (k : ℕ). take (4096 * n) bytes ++ take k (drop (4096 * n) bytes)) (sym size)
