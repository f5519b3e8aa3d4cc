-- Which areas change where frames are written.
use Rattle.std.proofs.Common.{◌≡◌, ◌<◌, ℕ, true, false, List, length, refl, sym, ◌∙◌}
use Rattle.std.proofs.lemmas.List.Elements.{All-get_or}
use Rattle.gaz_outside.specs.declared.station.Area.{Area}
use Rattle.gaz_outside.specs.Station.{StationView, Outcome, Leaves, AnyIn, Confined}
use Rattle.gaz_outside.proofs.Runs.{confined_start, confined_on, confined_weaker}
use Rattle.gaz_redo.specs.Slots.{SameBytes}
use Rattle.gaz_redo.proofs.Steps.{true_not_false}
use Rattle.gaz_pool.specs.declared.frame.Frame.{Frame}
use Rattle.gaz_pool.specs.Sides.{side_area}
use Rattle.gaz_pool.specs.Frames.{frame_at, blank, WhereWaits}

-- no change is one of areas of which a frame waits
same_waits : (frames : List Frame) (area : Area) (d : List ℕ) → WhereWaits frames area d d
same_waits frames area d none = refl

waits_on : (frames : List Frame) (area : Area) (d e c : List ℕ) → WhereWaits frames area d e → WhereWaits frames area e c → WhereWaits frames area d c
waits_on frames area d e c first second none = second none ∙ first none

-- nothing was called
pub waits_start : (frames : List Frame) (v : StationView) → ((c : Outcome) → v.left_since v.moment c → Leaves v c) → Confined (WhereWaits frames) v v
waits_start frames v now = confined_start (WhereWaits frames) (same_waits frames) v now

-- pages were read
pub waits_reads : (frames : List Frame) (old new : StationView) → Confined SameBytes old new → Confined (WhereWaits frames) old new
waits_reads frames old new reads = confined_weaker SameBytes (WhereWaits frames) (λ a d c same none. same) old new reads

-- a page was read first
pub waits_read : (frames : List Frame) (old mid new : StationView) → Confined SameBytes old mid → Confined (WhereWaits frames) mid new → Confined (WhereWaits frames) old new
waits_read frames old mid new reads run =
    confined_on (WhereWaits frames) (same_waits frames) (waits_on frames) old mid new (waits_reads frames old mid reads) run

-- a frame that waits was written
pub waits_write : (frames : List Frame) (place : ℕ) (old new : StationView) → place < length frames → (frame_at frames place).waits ≡ true → Confined (AnyIn (side_area (frame_at frames place).side)) old new → Confined (WhereWaits frames) old new
waits_write frames place old new there waits only =
    confined_weaker (AnyIn (side_area (frame_at frames place).side)) (WhereWaits frames)
    (λ a d c any none. any (λ same. true_not_false (frame_at frames place).waits waits (All-get_or (λ (f : Frame). side_area f.side ≡ a → f.waits ≡ false) frames place blank there none (sym same))))
    old new only
