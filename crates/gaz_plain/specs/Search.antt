-- The answer to a search: filter, order and cut.
use Rattle.std.specs.Prelude.{ℕ, Bool, ◌&&◌, List, [], ◌∷◌, map, filter}
use Rattle.std.specs.List.{filter_map}
use Rattle.gaz_num.specs.declared.words.Table.TheVariants.{Rows}
use Rattle.gaz_pick.specs.Order.{Pair, cut}
use Rattle.gaz_pick.specs.Asked.{Asked}
use Rattle.gaz_pick.specs.Match.{passes_all, pair_of}
use Rattle.gaz_plain.specs.Gazetteer.{Gazetteer, line_with}
use Rattle.gaz_plain.specs.Names.{names_of, has_name}

-- whether a row has all that is asked: the values of columns, a place in the box, and a name
abbrev pub matches : Gazetteer → Asked → List ℕ → Bool
matches gaz asked line = passes_all asked line && has_name asked.name (names_of gaz asked.lang line)

-- the population and the id of each row that matches
abbrev pub matching_pairs : Gazetteer → Asked → List Pair
matching_pairs gaz asked = map pair_of (filter (matches gaz asked) gaz.rows)

-- of these, in the order of answers, the first without those before the start, at most as many as are wanted
abbrev pub answer_pairs : Gazetteer → Asked → List Pair
answer_pairs gaz asked = cut (matching_pairs gaz asked) asked.start asked.max

-- the rows with the ids of pairs
abbrev pub rows_at : Gazetteer → List Pair → List (List ℕ)
rows_at gaz pairs = filter_map (λ pair. line_with Rows (pair.1 ∷ []) gaz) pairs

-- the answer: the rows of these pairs
abbrev pub search_of : Gazetteer → Asked → List (List ℕ)
search_of gaz asked = rows_at gaz (answer_pairs gaz asked)
