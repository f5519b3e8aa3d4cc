-- The map from keys to places.
use Rattle.std.specs.Prelude.{ℕ, length, Option}
use Rattle.std.specs.List.{position}
use Rattle.gaz_places.specs.declared.places.Places.{Places}
use Rattle.gaz_places.specs.Chains.{has}

-- the place that a key has: the one that is held for it
unfoldable pub found_in : Places → ℕ → Option ℕ
found_in places key = position (has key) places.links.items

-- how many places there are
unfoldable pub most_in : Places → ℕ
most_in places = length places.links.items
