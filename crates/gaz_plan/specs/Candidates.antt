-- How much a search has to look at: its candidates, and the bands of its box.
use Rattle.std.specs.Prelude.{ℕ, ◌+◌, ◌-◌, ◌*◌, Bool, ◌||◌, if◌then◌else◌, nat_le, List, [], ◌∷◌, length, take, map, filter, Option, Some, None, nat_eq}
use Rattle.std.specs.List.{flat_map, starts_with}
use Rattle.gaz_num.specs.Pieces.{column}
use Rattle.gaz_name.specs.Name.{name_key_of, first_bytes}
use Rattle.gaz_box.specs.Edges.{Edges, band_of}
use Rattle.gaz_pick.specs.Asked.{Asked, NameAsked, absent, equals, starts}
use Rattle.gaz_plain.specs.Gazetteer.{Gazetteer}
use Rattle.gaz_plan.specs.Boxes.{is_in_bands}

-- the names and the asciinames of the rows
abbrev pub names_of_rows : Gazetteer → List (List ℕ)
names_of_rows gaz = flat_map (λ row. column 2 row ∷ column 3 row ∷ []) gaz.rows

-- the texts of the alternate names
abbrev pub alternate_texts : Gazetteer → List (List ℕ)
alternate_texts gaz = map (λ alternate. column 4 alternate) gaz.alternates

-- The 22 bytes by which a name stands in the index begin so where it is a candidate. Where a whole name is asked for, this is all 22, with
-- zeros behind a shorter key; where the beginning of one is, it is the first 22 bytes of the value's key, or all if it has fewer.
abbrev pub front_of : NameAsked → List ℕ
front_of absent = []
front_of (equals value) = first_bytes 22 (name_key_of value)
front_of (starts value) = take 22 (name_key_of value)

-- the first 22 bytes of a name's key, with zeros behind a shorter one, begin so
abbrev pub begins_so : NameAsked → List ℕ → Bool
begins_so name text = starts_with nat_eq (first_bytes 22 (name_key_of text)) (front_of name)

-- how many texts of alternate names do
abbrev pub alternates_alike : Gazetteer → NameAsked → ℕ
alternates_alike gaz name = length (filter (begins_so name) (alternate_texts gaz))

-- how many names of rows and texts of alternate names do
abbrev pub names_alike : Gazetteer → NameAsked → ℕ
names_alike gaz name = length (filter (begins_so name) (names_of_rows gaz)) + alternates_alike gaz name

-- how many rows have a name or an asciiname that does
abbrev pub is_alike : NameAsked → List ℕ → Bool
is_alike name row = begins_so name (column 2 row) || begins_so name (column 3 row)

abbrev pub rows_alike : Gazetteer → NameAsked → ℕ
rows_alike gaz name = length (filter (is_alike name) gaz.rows)

-- The candidates where a name is asked for: these rows, each once whichever of its names begin so, and these alternate names. Where more than
-- 512 names begin so, a row counts for each of its two names.
abbrev pub named_candidates : Gazetteer → NameAsked → ℕ
named_candidates gaz name = if nat_le (names_alike gaz name) 512 then rows_alike gaz name + alternates_alike gaz name else names_alike gaz name

-- how many rows lie in the bands of a box and in one of its ranges of longitudes
abbrev pub rows_in_bands : Gazetteer → Edges → ℕ
rows_in_bands gaz edges = length (filter (is_in_bands (band_of edges.south) (band_of edges.north + 1) edges) gaz.rows)

-- how many bands a box has
abbrev pub bands_in : Edges → ℕ
bands_in edges = band_of edges.north + 1 - band_of edges.south

-- The candidates where no name is asked for are those rows, or all where there is no box.
abbrev pub unnamed_candidates : Gazetteer → Option Edges → ℕ
unnamed_candidates gaz None = length gaz.rows
unnamed_candidates gaz (Some edges) = rows_in_bands gaz edges

-- the bands of the box, if there is one
abbrev pub bands_asked : Option Edges → ℕ
bands_asked None = 0
bands_asked (Some edges) = bands_in edges

-- the most pages that are read for so many candidates and bands
abbrev pub reads_for : ℕ → ℕ → ℕ
reads_for candidates bands = 64 * (candidates + 2 * bands + 1)

-- the most pages that a search reads: where a name is asked for, the box has no part in it
abbrev pub most_by : Gazetteer → NameAsked → Option Edges → ℕ
most_by gaz absent edges = reads_for (unnamed_candidates gaz edges) (bands_asked edges)
most_by gaz name edges = reads_for (named_candidates gaz name) 0

abbrev pub most_reads : Gazetteer → Asked → ℕ
most_reads gaz asked = most_by gaz asked.name asked.edges
