-- How pages stand among the frames.
use Rattle.std.specs.Prelude.{◌≡◌, ℕ, ◌<◌, List, length, slice_index, Option, Some}

-- This number stands at the place.
abbrev pub StandsAt : List ℕ → ℕ → ℕ → Type 0
StandsAt numbers place number = (place < length numbers) × (slice_index numbers place ≡ number)

-- This number stands among them.
abbrev pub Has : List ℕ → ℕ → Type 0
Has numbers number = (place : ℕ) × (place < length numbers) × (slice_index numbers place ≡ number)

-- No number stands at two places.
abbrev pub OneEach : List ℕ → Type 0
OneEach numbers = (i j : ℕ) → i < length numbers → j < length numbers → slice_index numbers i ≡ slice_index numbers j → i ≡ j

-- The map gives the place of each number that stands among these, and of no other.
pub record AreFound (map : ℕ → Option ℕ) (numbers : List ℕ) : Type 0 where
  pub here : (place : ℕ) → place < length numbers → map (slice_index numbers place) ≡ Some place
  pub there : (number place : ℕ) → map number ≡ Some place → StandsAt numbers place number
