-- Among which rows the children of a place are sought.
use Rattle.std.specs.Prelude.{◌≡◌, ℕ, Bool, true, false, ◌&&◌, List, [], ◌∷◌, ◌++◌, length, take, Option, Some, None, MatchOption, ◌==◌}
use Rattle.std.specs.Str.{bytes_eq}
use Rattle.std.specs.List.{list_any}
use Rattle.gaz_num.specs.Pieces.{column}
use Rattle.gaz_parent.specs.Parent.{is_this, names}
use Rattle.gaz_num.specs.Numbers.{id_in}
use Rattle.gaz_name.specs.Name.{first_bytes}
use Rattle.gaz_plain.specs.Gazetteer.{Gazetteer}
use Rattle.gaz_leaf.specs.Node.{Pair, key_of}
use Rattle.gaz_keys.specs.Front.{IsFront}
use Rattle.gaz_keys.specs.Keys.{country_key}
use Rattle.gaz_keys.specs.Lines.{path_to, division_level}
use Rattle.gaz_kin.specs.declared.beginning.Beginning.{Beginning}

-- the id is one of these
abbrev pub is_one_of : List ℕ → ℕ → Bool
is_one_of ids id = list_any (λ n. n == id) ids

-- the row's path begins with the text
abbrev pub has_beginning : List ℕ → List ℕ → Bool
has_beginning text row = bytes_eq (take (length text) (path_to 4 row)) text

-- the path of a row begins with that of a place up to a level, if the place has one
abbrev pub begins_at : Option ℕ → List ℕ → List ℕ → Bool
begins_at None place row = false
begins_at (Some level) place row = has_beginning (path_to level place) row

-- the row lies within the place, if that is a division or a country
abbrev pub is_within : List ℕ → List ℕ → Bool
is_within place row = begins_at (division_level place) place row

-- the line of the row's country names the place
abbrev pub is_named_by : Gazetteer → ℕ → List ℕ → Bool
is_named_by gaz id row = list_any (names (column 9 row) id) gaz.countries

-- the key of a country's line is one of those of pairs
abbrev pub has_pair_in : List Pair → List ℕ → Bool
has_pair_in pairs line = list_any (λ pair. pair.key == key_of (country_key (first_bytes 4 (column 1 line)))) pairs

-- one of the countries whose keys are those of pairs is the row's, and its line names the place
abbrev pub is_named_among : Gazetteer → List Pair → ℕ → List ℕ → Bool
is_named_among gaz pairs id row = list_any (λ line. names (column 9 row) id line && has_pair_in pairs line) gaz.countries

-- The bytes are the first of the text.
abbrev pub IsBeginning : List ℕ → Beginning → Type 0
IsBeginning text beginning = IsFront 27 text beginning.bytes beginning.len

-- They are the first of the path of a division or a country row, and there are none of another row.
abbrev pub IsBeginningOf : List ℕ → Option Beginning → Type 0
IsBeginningOf row found = MatchOption found (division_level row ≡ None) (λ beginning. (level : ℕ) × (division_level row ≡ Some level) × IsBeginning (path_to level row) beginning)

-- They are the first of the path of the country whose line names the place, and there are none where it names none.
abbrev pub IsNamedBeginning : ℕ → List ℕ → Option Beginning → Type 0
IsNamedBeginning id line found = MatchOption found (is_this id (id_in (column 17 line)) ≡ false) (λ beginning. (is_this id (id_in (column 17 line)) ≡ true) × IsBeginning (column 1 line ++ 0 ∷ []) beginning)
