-- What a row says of its place.
use Rattle.std.specs.Prelude.{ℕ, List, ℤ, pos, unwrap_or}
use Rattle.gaz_num.specs.Numbers.{id_in, i64_in}
use Rattle.gaz_num.specs.Pieces.{column}

-- the id of a row
abbrev pub id_of : List ℕ → ℕ
id_of line = unwrap_or (id_in (column 1 line)) 0

-- the population, and 0 where the column is empty
abbrev pub population_of : List ℕ → ℤ
population_of line = unwrap_or (i64_in (column 15 line)) (pos 0)
