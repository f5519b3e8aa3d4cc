-- How many frames a table has room for.
use Rattle.std.specs.Prelude.{ℕ}
use Rattle.gaz_places.specs.Places.{most_in}
use Rattle.gaz_pool.specs.declared.table.Table.{Table}

-- the frames that were reserved
abbrev pub most_of : Table → ℕ
most_of table = most_in table.places
