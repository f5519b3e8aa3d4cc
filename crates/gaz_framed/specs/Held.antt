-- Which pages a station holds, by their numbers.
use Rattle.std.specs.Prelude.{◌≡◌, ℕ, ◌<◌, List, [], ◌∷◌, ◌++◌, length, slice_set}

-- One page more is held, and none is given up.
abbrev pub IsAddedTo : List ℕ → ℕ → List ℕ → Type 0
IsAddedTo old number new = new ≡ old ++ number ∷ []

-- The page is held in the place of exactly one other, which is given up.
abbrev pub TakesPlaceIn : List ℕ → ℕ → List ℕ → Type 0
TakesPlaceIn old number new = (place : ℕ) × (place < length old) × (new ≡ slice_set old place number)
