-- How many pairs a tree has, by the keys of the lines.
use Rattle.std.proofs.Common.{◌≡◌, ◌≤◌, ◌+◌, ◌*◌, ◌^◌, ℕ, List, [], ◌∷◌, ◌++◌, length, map, refl, sym, arith, subst, Option, Some, None, length-append}
use Rattle.std.specs.Prelude.{Contains}
use Rattle.std.specs.List.{flat_map}
use Rattle.std.proofs.Math.Nat.{mul-le-mul_left}
use Rattle.std.proofs.lemmas.List.{length-map}
use Rattle.gaz_num.specs.declared.words.Table.{Table}
use Rattle.gaz_num.specs.declared.words.Table.TheVariants.{Rows, Alternates, Links, Countries, Codes}
use Rattle.gaz_plain.specs.Gazetteer.{Gazetteer, IsGazetteer, lines_in}
use Rattle.gaz_leaf.specs.Node.{Pair, key_of}
use Rattle.gaz_tree.specs.Pairs.{Within}
use Rattle.gaz_keys.specs.Parts.{has_place}
use Rattle.gaz_keys.specs.Lines.{division_keys, division_level, divided_key}
use Rattle.gaz_rows.specs.Index.{Slots, line_key, line_keys, IsIndexed}
use Rattle.gaz_rows.specs.Stands.{value_in, tag_in, places_in}
use Rattle.gaz_rows.proofs.Counting.{flat_contains, flat_most, few_pairs, some_rise}
use Rattle.gaz_rows.proofs.Members.{head_is_in}
use Rattle.gaz_rows.proofs.RoomPairs.{placed, pair_of_line, place_of_line}

-- ---- the keys of all lines

abbrev tables : List Table
tables = Rows ∷ Alternates ∷ Links ∷ Countries ∷ Codes ∷ []

table_there : (table : Table) → Contains tables table
table_there Rows = (0, omega arith, refl)
table_there Alternates = (1, omega arith, refl)
table_there Links = (2, omega arith, refl)
table_there Countries = (3, omega arith, refl)
table_there Codes = (4, omega arith, refl)

-- how many keys a line has at most
abbrev most_keys : Table → ℕ
most_keys Rows = 6
most_keys Alternates = 2
most_keys Links = 2
most_keys Countries = 1
most_keys Codes = 1

division_few : (line : List ℕ) (level : Option ℕ) → length (division_keys line level) ≤ 1
division_few line None = omega arith
division_few line (Some level) = omega arith

keys_few : (slots : Slots) (table : Table) (line : List ℕ) → length (line_keys slots table line) ≤ most_keys table
keys_few slots Rows line =
    let few = division_few line (division_level line) in
    omega (arith, few, length-append (division_keys line (division_level line)) (divided_key line ∷ []))
keys_few slots Alternates line = omega arith
keys_few slots Links line = omega arith
keys_few slots Countries line = omega arith
keys_few slots Codes line = omega arith

-- so many of each line of the tables at most, within their limits
abbrev limits : (Table → ℕ) → ℕ
limits most = most Rows * 2 ^ 25 + most Alternates * 2 ^ 25 + most Links * 2 ^ 23 + most Countries * 1024 + most Codes * 2 ^ 20

five_long : (a b c d e : List ℕ) → length (a ++ (b ++ (c ++ (d ++ (e ++ []))))) ≡ length a + length b + length c + length d + length e
five_long a b c d e =
    omega (arith, length-append a (b ++ (c ++ (d ++ (e ++ [])))), length-append b (c ++ (d ++ (e ++ []))), length-append c (d ++ (e ++ [])), length-append d (e ++ []), length-append e [])

module _ (gaz : Gazetteer) (made : Table → List ℕ → List ℕ) where
  -- the numbers that are made of each line of a table, and of each line
  abbrev of_table : Table → List ℕ
  of_table table = flat_map (made table) (lines_in gaz table)

  abbrev pub of_lines : List ℕ
  of_lines = flat_map of_table tables

  pub line_has : (table : Table) (line : List ℕ) (n : ℕ) → Contains (lines_in gaz table) line → Contains (made table line) n → Contains of_lines n
  line_has table line n there among = flat_contains of_table tables table n (table_there table) (flat_contains (made table) (lines_in gaz table) line n there among)

  pub lines_few : (most : Table → ℕ) → IsGazetteer gaz → ((table : Table) (line : List ℕ) → length (made table line) ≤ most table) → length of_lines ≤ limits most
  lines_few most is each =
      let rows : length gaz.rows ≤ 2 ^ 25 = (is.tables Rows).within in
      let alternates : length gaz.alternates ≤ 2 ^ 25 = (is.tables Alternates).within in
      let links : length gaz.links ≤ 2 ^ 23 = (is.tables Links).within in
      let countries : length gaz.countries ≤ 1024 = (is.tables Countries).within in
      let codes : length gaz.codes ≤ 2 ^ 20 = (is.tables Codes).within in
      omega (
        arith,
        five_long (of_table Rows) (of_table Alternates) (of_table Links) (of_table Countries) (of_table Codes),
        one Rows (2 ^ 25) rows,
        one Alternates (2 ^ 25) alternates,
        one Links (2 ^ 23) links,
        one Countries 1024 countries,
        one Codes (2 ^ 20) codes,
      )
    where
      one : (table : Table) (limit : ℕ) → length (lines_in gaz table) ≤ limit → length (of_table table) ≤ most table * limit
      one table limit within = omega (arith, flat_most (most table) (made table) (lines_in gaz table) (each table), mul-le-mul_left (most table) within)

-- ---- the pairs

-- the numbers of the keys of a line
abbrev line_numbers : Slots → Table → List ℕ → List ℕ
line_numbers slots table line = map key_of (line_keys slots table line)

-- the number of the key by which it stands at its place
abbrev line_number : Slots → Table → List ℕ → List ℕ
line_number slots table line = key_of (line_key slots table line) ∷ []

module _ (waiting : List (List ℕ)) (slots : Slots) (gaz : Gazetteer) (pairs : List Pair) (bytes : ℕ → Option (List ℕ))
    (held : IsIndexed slots gaz (value_in waiting pairs) bytes) (rising : Within 0 (2 ^ 256) pairs) (is : IsGazetteer gaz) where
  pub pairs_few : length pairs ≤ limits most_keys
  pairs_few = omega (arith, few_pairs 0 (2 ^ 256) pairs (of_lines gaz (line_numbers slots)) rising among, lines_few gaz (line_numbers slots) most_keys is few)
    where
      among : (p : Pair) → Contains pairs p → Contains (of_lines gaz (line_numbers slots)) p.key
      among p has = let of = pair_of_line waiting slots gaz pairs bytes held rising p has in line_has gaz (line_numbers slots) of.0 of.1.0 p.key of.1.1 of.1.2

      few : (table : Table) (line : List ℕ) → length (line_numbers slots table line) ≤ most_keys table
      few table line = omega (arith, length-map (line_keys slots table line) key_of, keys_few slots table line)

  pub places_few : length (places_in pairs) ≤ limits (λ table. 1)
  places_few =
      omega (
        arith,
        length-map (placed pairs) (λ pair. pair.value),
        few_pairs 0 (2 ^ 256) (placed pairs) (of_lines gaz (line_number slots)) (some_rise (λ pair. has_place (tag_in pair.key)) 0 (2 ^ 256) pairs rising) among,
        lines_few gaz (line_number slots) (λ table. 1) is (λ table line. omega arith),
      )
    where
      among : (p : Pair) → Contains (placed pairs) p → Contains (of_lines gaz (line_number slots)) p.key
      among p has =
          let of = place_of_line waiting slots gaz pairs bytes held rising p has in
          line_has gaz (line_number slots) of.table of.line p.key of.there (subst (λ n. Contains (n ∷ []) p.key) (sym of.is) (head_is_in p.key []))
