-- By which keys rows are sought, and for which rows such a key stands.
use Rattle.std.specs.Prelude.{ℕ, Bool, ◌&&◌, ◌||◌, List, ◌==◌}
use Rattle.std.specs.List.{list_any}
use Rattle.gaz_row.specs.Row.{id_of}
use Rattle.gaz_pick.specs.Asked.{Asked}
use Rattle.gaz_plain.specs.Gazetteer.{Gazetteer}
use Rattle.gaz_plan.specs.Wanted.{wanted_of, is_nothing, fits_own, fits_any}
use Rattle.gaz_leaf.specs.Node.{Pair}
use Rattle.gaz_keys.specs.Parts.{four_at}
use Rattle.gaz_rows.proofs.RoomPairs.{bytes_of}
use Rattle.gaz_plan.specs.declared.walk.Way.{Way}
use Rattle.gaz_plan.specs.declared.walk.Way.TheVariants.{Row, Lying}

-- the tag of the keys
abbrev pub tag_by : Way → ℕ
tag_by Row = 1
tag_by Lying = 8

-- the id that stands at a byte of a key that is a number
abbrev pub number_at : ℕ → ℕ → ℕ
number_at at key = four_at at (bytes_of key)

-- nothing is asked of names, or one of the row's own fits
abbrev pub fits_itself : Asked → List ℕ → Bool
fits_itself asked row = is_nothing (wanted_of asked.name) || fits_own (wanted_of asked.name) asked.lang row

-- the row has the id, and nothing is asked of names or one of its own fits
abbrev pub is_itself : Asked → ℕ → List ℕ → Bool
is_itself asked id row = id == id_of row && fits_itself asked row

-- a key that is a number stands for the row
abbrev pub stands_for : Asked → Way → ℕ → List ℕ → Bool
stands_for asked Row key row = is_itself asked (number_at 1 key) row
stands_for asked Lying key row = is_itself asked (number_at 11 key) row

-- the key of one of these pairs does
abbrev pub is_among : Asked → Way → List Pair → List ℕ → Bool
is_among asked way pairs row = list_any (λ pair. stands_for asked way pair.key row) pairs

-- the row has the text of some alternate name that counts and fits
abbrev pub is_named : Gazetteer → Asked → List ℕ → Bool
is_named gaz asked row = fits_any (wanted_of asked.name) asked.lang (id_of row) gaz.alternates
