-- What the frames of a pool hold.
use Rattle.std.specs.Prelude.{◌≡◌, ◌≢◌, ℕ, ◌<◌, Bool, true, false, ◌==◌, if◌then◌else◌, List, [], ◌∷◌, ◌++◌, length, map, filter, slice_set, slice_index_or, Option, Some, None}
use Rattle.std.specs.List.{All}
use Rattle.gaz_outside.specs.declared.station.Area.{Area}
use Rattle.gaz_page.specs.declared.page.Side.{Side}
use Rattle.gaz_page.specs.declared.page.Side.TheVariants.{Left, Right}
use Rattle.gaz_page.specs.Area.{page_at}
use Rattle.gaz_pool.specs.declared.frame.Frame.{Frame}
use Rattle.gaz_pool.specs.Sides.{side_area}
use Rattle.gaz_pool.specs.Numbers.{page_number}
use Rattle.gaz_pool.specs.Table.{Has}

-- the number of the page that a frame holds
abbrev pub number_of : Frame → ℕ
number_of frame = page_number frame.side frame.page

-- the pages that are held, by their numbers
abbrev pub pages_in : List Frame → List ℕ
pages_in frames = map number_of frames

-- A frame holds this page.
abbrev pub Holds : List Frame → Side → ℕ → Type 0
Holds frames side page = Has (pages_in frames) (page_number side page)

-- the frame of a page, where one holds it
abbrev pub frame_of : ℕ → List Frame → Option Frame
frame_of number [] = None
frame_of number (frame ∷ frames) = if number_of frame == number then Some frame else frame_of number frames

-- a frame that holds nothing
abbrev pub blank : Frame
blank = record { side = Left; page = 0; waits = false; bytes = [] }

-- the frame at a place
abbrev pub frame_at : List Frame → ℕ → Frame
frame_at frames place = slice_index_or frames place blank

-- a frame that waits no longer
abbrev pub settled : Frame → Frame
settled frame = record { side = frame.side; page = frame.page; waits = false; bytes = frame.bytes }

-- a frame with other bytes
abbrev pub filled : List ℕ → Bool → Frame → Frame
filled bytes waits frame = record { side = frame.side; page = frame.page; waits = waits; bytes = bytes }

-- A frame that doesn't wait to be written holds the page as its area has it.
abbrev pub IsClean : (Area → List ℕ) → Frame → Type 0
IsClean areas frame = frame.waits ≡ false → frame.bytes ≡ page_at (areas (side_area frame.side)) frame.page

-- The frames agree with the areas: each that doesn't wait is the page as its area has it.
abbrev pub Agrees : List Frame → (Area → List ℕ) → Type 0
Agrees frames areas = All (IsClean areas) frames

-- No frame waits to be written.
abbrev pub NoneWaits : List Frame → Type 0
NoneWaits frames = All (λ frame. frame.waits ≡ false) frames

-- what a frame that waits holds, else the page as the area has it
abbrev pub laid_over : Option Frame → List ℕ → ℕ → List ℕ
laid_over None bytes page = page_at bytes page
laid_over (Some frame) bytes page = if frame.waits then frame.bytes else page_at bytes page

-- the page of a side as areas have it with the frames laid over that wait to be written
abbrev pub pooled : List Frame → (Area → List ℕ) → Side → ℕ → List ℕ
pooled frames areas side page = laid_over (frame_of (page_number side page) frames) (areas (side_area side)) page

-- The frames and areas give each page as those frames and areas gave it.
abbrev pub GivesSame : List Frame → (Area → List ℕ) → List Frame → (Area → List ℕ) → Type 0
GivesSame old areas_old new areas_new = (side : Side) (page : ℕ) → pooled new areas_new side page ≡ pooled old areas_old side page

-- The frames agree with the areas, and give each page as before.
pub record StillAgrees (old : List Frame) (areas_old : Area → List ℕ) (new : List Frame) (areas_new : Area → List ℕ) : Type 0 where
  pub agrees : Agrees new areas_new
  pub gives : GivesSame old areas_old new areas_new

-- The frames agree with the areas, and give these bytes as this page, and each other page as before.
pub record PutsPage (side : Side) (page : ℕ) (bytes : List ℕ) (old : List Frame) (areas_old : Area → List ℕ) (new : List Frame) (areas_new : Area → List ℕ) : Type 0 where
  pub agrees : Agrees new areas_new
  pub own : pooled new areas_new side page ≡ bytes
  pub others : (s : Side) (p : ℕ) → page_number s p ≢ page_number side page → pooled new areas_new s p ≡ pooled old areas_old s p

-- a frame with these bytes, where it holds this page
abbrev pub with_bytes : ℕ → List ℕ → Frame → Frame
with_bytes number bytes frame = if number_of frame == number then filled bytes frame.waits frame else frame

-- the frames after a page was given these bytes: the one that holds it has them
abbrev pub refreshed : Side → ℕ → List ℕ → List Frame → List Frame
refreshed side page bytes frames = map (with_bytes (page_number side page) bytes) frames

-- whether two sides are not the same
abbrev pub are_apart : Side → Side → Bool
are_apart Left Left = false
are_apart Right Right = false
are_apart Left Right = true
are_apart Right Left = true

-- whether a frame isn't of this side
abbrev pub is_beside : Side → Frame → Bool
is_beside side frame = are_apart side frame.side

-- the frames that are not of this side
abbrev pub without_side : Side → List Frame → List Frame
without_side side frames = filter (is_beside side) frames

-- No frame of this area waits to be written.
abbrev pub NoneWaitsIn : Area → List Frame → Type 0
NoneWaitsIn area frames = All (λ frame. side_area frame.side ≡ area → frame.waits ≡ false) frames

-- a change of areas alone of which a frame waits to be written
abbrev pub WhereWaits : List Frame → Area → List ℕ → List ℕ → Type 0
WhereWaits frames area d c = NoneWaitsIn area frames → c ≡ d

-- No frame of this side waits to be written.
abbrev pub NoneWaitsOf : Side → List Frame → Type 0
NoneWaitsOf side frames = All (λ frame. is_beside side frame ≡ false → frame.waits ≡ false) frames

-- One page more is held, and none is given up.
abbrev pub IsAdded : Side → ℕ → List Frame → List Frame → Type 0
IsAdded side page old new = pages_in new ≡ pages_in old ++ page_number side page ∷ []

-- The page is held in the place of exactly one other, which is given up.
abbrev pub TakesPlaceOfOne : Side → ℕ → List Frame → List Frame → Type 0
TakesPlaceOfOne side page old new = (place : ℕ) × (place < length old) × (pages_in new ≡ slice_set (pages_in old) place (page_number side page))
