-- How many pages are read at most, by what a gazetteer has.
use Rattle.std.specs.Prelude.{ℕ, ◌+◌, ◌*◌, max, Bool, ◌&&◌, ◌||◌, ◌==◌, List, [], ◌∷◌, ◌++◌, length, take, map, filter, Option, Some, None}
use Rattle.std.specs.Str.{bytes_eq}
use Rattle.std.specs.List.{sum_by}
use Rattle.gaz_num.specs.Numbers.{id_in}
use Rattle.gaz_num.specs.Pieces.{column}
use Rattle.gaz_num.specs.declared.words.Table.TheVariants.{Rows}
use Rattle.gaz_name.specs.Name.{first_bytes}
use Rattle.gaz_row.specs.Row.{id_of}
use Rattle.gaz_tables.specs.declared.link.LinkClass.{LinkClass}
use Rattle.gaz_tables.specs.declared.link.LinkClass.TheVariants.{Adm, Plain}
use Rattle.gaz_parent.specs.Parent.{is_link, is_this}
use Rattle.gaz_parent.specs.Questions.{Question, by_link, by_division, by_country}
use Rattle.gaz_plain.specs.Gazetteer.{Gazetteer, line_with}
use Rattle.gaz_plain.specs.Kin.{chain_of}
use Rattle.gaz_leaf.specs.Node.{Pair, key_of}
use Rattle.gaz_keys.specs.Keys.{country_key}
use Rattle.gaz_keys.specs.Lines.{id_at, path_to, division_level}

-- how many links of a class lead upwards from a child
abbrev pub links_up : Gazetteer → ℕ → LinkClass → ℕ
links_up gaz child class = length (filter (λ link. is_link class child (id_at 1 link) link) gaz.links)

-- the other row is a division of this level, or for level 0 a country row, whose path to it has the same first 26 bytes as the row's
abbrev pub is_alike : ℕ → List ℕ → List ℕ → Bool
is_alike level row other = is_this level (division_level other) && bytes_eq (first_bytes 26 (path_to level other)) (first_bytes 26 (path_to level row))

-- how many such rows there are
abbrev pub alike_at : Gazetteer → List ℕ → ℕ → ℕ
alike_at gaz row level = length (filter (is_alike level row) gaz.rows)

-- among how many the parent of a row is sought: its links upwards that may be followed, and such rows of all levels
abbrev pub parents_sought : Gazetteer → List ℕ → ℕ
parents_sought gaz row = links_up gaz (id_of row) Adm + links_up gaz (id_of row) Plain + sum_by (alike_at gaz row) (0 ∷ 1 ∷ 2 ∷ 3 ∷ 4 ∷ [])

-- the most that a question of the parent rule reads
abbrev pub most_for : Gazetteer → Question → ℕ
most_for gaz (by_link child class) = 35 * links_up gaz child class + 12
most_for gaz (by_division level row) = 35 * alike_at gaz row level + 12
most_for gaz (by_country row) = 35 * alike_at gaz row 0 + 58

-- the greatest of some numbers, 0 where there are none
abbrev pub greatest : List ℕ → ℕ
greatest [] = 0
greatest (n ∷ ns) = max n (greatest ns)

-- among how many the parent of any row is sought, at most
unfoldable pub most_sought : Gazetteer → ℕ
most_sought gaz = greatest (map (parents_sought gaz) gaz.rows)

-- the most that the chain of a place reads
abbrev pub most_for_chain : Gazetteer → ℕ → ℕ
most_for_chain gaz id = 64 * (length (chain_of gaz id) * (most_sought gaz + 4) + 1)

-- a link that may be followed leads to the place
abbrev pub leads_to : ℕ → List ℕ → Bool
leads_to id link = is_link Adm (id_at 2 link) id link || is_link Plain (id_at 2 link) id link

-- how many such links there are
abbrev pub links_down : Gazetteer → ℕ → ℕ
links_down gaz id = length (filter (leads_to id) gaz.links)

-- the most that is read to look at so many rows that may be children
abbrev pub most_for_rows : Gazetteer → ℕ → ℕ
most_for_rows gaz rows = 64 * (rows * (most_sought gaz + 4))

-- the first 27 bytes of a row's path, with zeros behind a shorter one, begin with those of a text
abbrev pub begins_alike : List ℕ → List ℕ → Bool
begins_alike text row = bytes_eq (take (length (take 27 text)) (first_bytes 27 (path_to 4 row))) (take 27 text)

-- how many rows' paths do
abbrev pub rows_alike : Gazetteer → List ℕ → ℕ
rows_alike gaz text = length (filter (begins_alike text) gaz.rows)

abbrev pub alike_to : Gazetteer → List ℕ → Option ℕ → ℕ
alike_to gaz place None = 0
alike_to gaz place (Some level) = rows_alike gaz (path_to level place)

-- how many begin with the path of a place to its own level, if it is a division or a country
abbrev pub rows_within : Gazetteer → List ℕ → ℕ
rows_within gaz place = alike_to gaz place (division_level place)

-- how many do, if there is such a place
abbrev pub rows_within_found : Gazetteer → Option (List ℕ) → ℕ
rows_within_found gaz None = 0
rows_within_found gaz (Some place) = rows_within gaz place

-- the line of a country names the place
abbrev pub names_place : ℕ → List ℕ → Bool
names_place id line = is_this id (id_in (column 17 line))

-- how many rows' paths begin with that of a country
abbrev pub rows_of_country : Gazetteer → List ℕ → ℕ
rows_of_country gaz line = rows_alike gaz (column 1 line ++ 0 ∷ [])

-- how many begin with that of a country whose line names the place, added up over these countries
abbrev pub rows_named : Gazetteer → ℕ → ℕ
rows_named gaz id = sum_by (rows_of_country gaz) (filter (names_place id) gaz.countries)

-- among how many the children of a place are sought: the rows from which such a link leads to it, those within it, and those of the
-- countries that name it
abbrev pub children_sought : Gazetteer → ℕ → ℕ
children_sought gaz id = links_down gaz id + rows_within_found gaz (line_with Rows (id ∷ []) gaz) + rows_named gaz id

-- the most that the children of a place read
abbrev pub most_for_children : Gazetteer → ℕ → ℕ
most_for_children gaz id = 64 * (children_sought gaz id * (most_sought gaz + 4) + length gaz.countries + 4)

-- the line of a country has this key, and it names the place
abbrev pub names_at : ℕ → ℕ → List ℕ → Bool
names_at id key line = (key == key_of (country_key (first_bytes 4 (column 1 line)))) && names_place id line

-- how many rows' paths begin with that of the country of a pair, if its line names the place
abbrev pub rows_of_pair : Gazetteer → ℕ → Pair → ℕ
rows_of_pair gaz id pair = sum_by (rows_of_country gaz) (filter (names_at id pair.key) gaz.countries)

-- how many begin with those of the countries of pairs
abbrev pub rows_of_pairs : Gazetteer → ℕ → List Pair → ℕ
rows_of_pairs gaz id pairs = sum_by (rows_of_pair gaz id) pairs

-- how many begin with that of the first of them, if there is one
abbrev pub rows_of_first : Gazetteer → ℕ → List Pair → ℕ
rows_of_first gaz id [] = 0
rows_of_first gaz id (pair ∷ pairs) = rows_of_pair gaz id pair
