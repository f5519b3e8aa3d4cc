-- Images of pages, and the pages of an area with them laid over.
use Rattle.std.specs.Prelude.{◌≡◌, ◌⊎◌, ◌<◌, ◌≤◌, ◌*◌, ℕ, List, ◌++◌, length, Option, Some, None, IsTrue, IsSome}
use Rattle.gaz_outside.specs.declared.station.Area.{Area}
use Rattle.gaz_page.specs.Area.{page_at, length-page_at}
use Rattle.gaz_redo.specs.declared.home.Home.{Home}
use Rattle.gaz_redo.specs.Slots.{Slot, laid_in, end_in, HasNoGap, Touches}
use Rattle.gaz_redo.specs.Content.{are_images}
use Rattle.gaz_redo.specs.Images.{image_at}

-- the image where there is one, else the page as the area has it. An image has the bytes of one page.
abbrev pub image_or : Option (List ℕ) → List ℕ → ℕ → List ℕ
image_or None bytes n = page_at bytes n
image_or (Some image) bytes n = page_at image 0

-- the page of a number with images laid over an area
abbrev pub imaged : Area → List Slot → List ℕ → ℕ → List ℕ
imaged area images bytes n = image_or (image_at (record { area = area; page = n }) images) bytes n

length-image_or : (image : Option (List ℕ)) (bytes : List ℕ) (n : ℕ) → length (image_or image bytes n) ≡ 4096
length-image_or None bytes n = length-page_at bytes n
length-image_or (Some image) bytes n = length-page_at image 0

pub length-imaged : (area : Area) (images : List Slot) (bytes : List ℕ) (n : ℕ) → length (imaged area images bytes n) ≡ 4096
length-imaged area images bytes n = length-image_or (image_at (record { area = area; page = n }) images) bytes n

-- Images of pages that were taken, and apart from them those of pages that weren't. Both are in the order of their homes, and whole.
pub record AreKept (fresh : ℕ) (images past : List Slot) : Type 0 where
  pub below : (home : Home) → fresh ≤ home.page → image_at home images ≡ None
  pub in_order : IsTrue (are_images images)
  pub past_in_order : IsTrue (are_images past)

-- All images are of this area.
abbrev pub AreOnlyIn : Area → List Slot → Type 0
AreOnlyIn area images = (a : Area) → Touches a images → a ≡ area

-- Images of pages of an area whose pages from `fresh_before` on are new, where `fresh` is the least that was never taken, and those of pages past
-- it, apart: laid over the area, the images give each page that was taken, and leave no gap.
pub record AreLaid (area : Area) (fresh_before fresh : ℕ) (images past : List Slot) (bytes : List ℕ) : Type 0 where
  pub grows : fresh_before ≤ fresh
  pub pages : (n : ℕ) → 1 ≤ n → n < fresh → page_at (laid_in area images bytes) n ≡ imaged area (images ++ past) bytes n
  pub only : AreOnlyIn area images
  -- where the old pages lie within the area
  pub no_gap : 4096 * fresh_before ≤ length bytes → HasNoGap area images bytes
  -- where a page was taken, or the old ones lie within the area
  pub within : (fresh_before < fresh) ⊎ (4096 * fresh_before ≤ length bytes) → 4096 * fresh ≤ length (laid_in area images bytes)
  -- where a page was taken, the area has an image
  pub touched : fresh_before < fresh → Touches area images
  -- Each page that is new has an image, and no page that is old has one apart.
  pub taken : (n : ℕ) → fresh_before ≤ n → n < fresh → IsSome (image_at (record { area = area; page = n }) images)
  pub apart : (n : ℕ) → n < fresh_before → image_at (record { area = area; page = n }) past ≡ None
  -- Each image ends where the pages that were taken do, or before.
  pub ends : end_in area images ≤ 4096 * fresh
