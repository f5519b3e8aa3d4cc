-- What stands above a place and below one.
use Rattle.std.specs.Prelude.{ℕ, List, [], ◌∷◌, map, reverse}
use Rattle.std.specs.List.{filter_map}
use Rattle.gaz_num.specs.declared.words.Table.TheVariants.{Rows}
use Rattle.gaz_parent.specs.Parent.{Lists}
use Rattle.gaz_parent.specs.Chain.{chain_in, children_in}
use Rattle.gaz_pick.specs.Order.{Pair, cut}
use Rattle.gaz_pick.specs.Match.{pair_of}
use Rattle.gaz_plain.specs.Gazetteer.{Gazetteer, line_with}
use Rattle.gaz_plain.specs.Search.{rows_at}

-- the lists of a gazetteer through which the rules go
abbrev pub lists_of : Gazetteer → Lists
lists_of gaz = record { rows = gaz.rows; links = gaz.links; countries = gaz.countries }

-- the chain of a place: its id, that of its parent, and so on upwards; none where no row has the id
abbrev pub chain_of : Gazetteer → ℕ → List ℕ
chain_of gaz id = chain_in (lists_of gaz) id

-- the rows with these ids
abbrev pub rows_with : Gazetteer → List ℕ → List (List ℕ)
rows_with gaz ids = filter_map (λ id. line_with Rows (id ∷ []) gaz) ids

-- the hierarchy of a place: the rows of its chain from the top down, its own the last
abbrev pub hierarchy_of : Gazetteer → ℕ → List (List ℕ)
hierarchy_of gaz id = rows_with gaz (reverse (chain_of gaz id))

-- the population and the id of each row of class A or P whose parent is the place
abbrev pub child_pairs : Gazetteer → ℕ → List Pair
child_pairs gaz id = map pair_of (children_in (lists_of gaz) id)

-- of these, the first in the order of answers, at most so many
abbrev pub children_pairs : Gazetteer → ℕ → ℕ → List Pair
children_pairs gaz id max = cut (child_pairs gaz id) 0 max

-- the children of a place: the rows of these pairs
abbrev pub children_of : Gazetteer → ℕ → ℕ → List (List ℕ)
children_of gaz id max = rows_at gaz (children_pairs gaz id max)
