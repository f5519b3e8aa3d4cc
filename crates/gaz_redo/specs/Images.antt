-- Images as an ordered map from homes to pages.
use Rattle.std.specs.Prelude.{◌≡◌, ⊤, ℕ, ◌+◌, ◌*◌, ◌^◌, ◌<◌, ◌≤◌, Bool, ◌==◌, ◌&&◌, if◌then◌else◌, List, [], ◌∷◌, length, slice_index_or, Option, Some, None}
use Rattle.gaz_outside.specs.declared.station.Area.{Area}
use Rattle.gaz_outside.specs.declared.station.Area.TheVariants.{Mark, Log, Root, Left, Right}
use Rattle.gaz_outside.specs.Station.{area_place}
use Rattle.gaz_redo.specs.declared.home.Home.{Home}
use Rattle.gaz_redo.specs.Slots.{Slot}
use Rattle.gaz_redo.specs.Content.{comes_before}

-- page 0 of Root, or any page of Left or Right
abbrev pub IsPage : Area → ℕ → Type 0
IsPage Mark page = ⊥
IsPage Log page = ⊥
IsPage Root page = page ≡ 0
IsPage Left page = ⊤
IsPage Right page = ⊤

-- these bytes at this home
abbrev pub slot_for : Home → List ℕ → Slot
slot_for home bytes = record { area = home.area; page = home.page; image = bytes }

-- It stands at the home.
abbrev pub stands_at : Home → Slot → Bool
stands_at home s = area_place s.area == area_place home.area && s.page == home.page

-- the image of a home
abbrev pub image_at : Home → List Slot → Option (List ℕ)
image_at home [] = None
image_at home (s ∷ ss) = if stands_at home s then Some s.image else image_at home ss

-- the images with this one, in the order of homes and in place of the one with its home
abbrev pub with_image : Slot → List Slot → List Slot
with_image s [] = s ∷ []
with_image s (t ∷ ss) = if comes_before t s then t ∷ with_image s ss else (if comes_before s t then s ∷ t ∷ ss else s ∷ ss)

-- a home as one number, which rises in the order of homes
abbrev pub home_number : Area → ℕ → ℕ
home_number area page = 2 ^ 32 * area_place area + page

-- the number of the home of a slot
abbrev pub number_of : Slot → ℕ
number_of s = home_number s.area s.page

-- The image of the home stands at the place, and those before it have lesser homes.
pub record IsPlaceOf (number : ℕ) (ss : List Slot) (place : ℕ) : Type 0 where
  pub in_range : place < length ss
  pub before : (k : ℕ) (d : Slot) → k < place → number_of (slice_index_or ss k d) < number
  pub here : (d : Slot) → number_of (slice_index_or ss place d) ≡ number

-- No image has the home, and one that has would stand between those before the place and the others.
pub record IsGapFor (number : ℕ) (ss : List Slot) (place : ℕ) : Type 0 where
  pub in_range : place ≤ length ss
  pub before : (k : ℕ) (d : Slot) → k < place → number_of (slice_index_or ss k d) < number
  pub behind : (k : ℕ) (d : Slot) → place ≤ k → k < length ss → number < number_of (slice_index_or ss k d)
