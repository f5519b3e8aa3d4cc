-- What is remembered of the rows that were looked at last.
use Rattle.std.specs.Prelude.{◌≡◌, ◌<◌, ℕ, zero, suc, Bool, true, List, [], ◌∷◌, ◌++◌, length, map, filter, Option, IfSome, slice_index_or}
use Rattle.std.specs.List.{flat_map, list_any}
use Rattle.gaz_num.specs.Pieces.{column}
use Rattle.gaz_row.specs.Row.{id_of}
use Rattle.gaz_parent.specs.Parent.{Lists, first_some, least, least_other, path_columns, is_division_of, names, is_country_of}
use Rattle.gaz_keys.specs.Front.{IsFront}
use Rattle.gaz_kin.specs.declared.kept.Found.{Found}
use Rattle.gaz_kin.specs.declared.kept.Last.{Last}
use Rattle.gaz_kin.specs.declared.kept.Kept.{Kept}

-- the path to a level: the country and the admin codes up to it, each with this byte behind it
abbrev pub path_with : ℕ → ℕ → List ℕ → List ℕ
path_with byte level row = flat_map (λ n. column n row ++ byte ∷ []) (path_columns level)

-- a line of the table of countries names the other row for the row's country
abbrev pub is_named_for : Lists → List ℕ → List ℕ → Bool
is_named_for lists row other = list_any (names (column 9 row) (id_of other)) lists.countries

-- the least id of all rows that pass a test
abbrev pub least_of_all : Lists → (List ℕ → Bool) → Option ℕ
least_of_all lists test = least (map id_of (filter test lists.rows))

-- what stands above every row with a row's path to a level: the division of that level, or for level 0 the country
abbrev pub above_all : Lists → ℕ → List ℕ → Option ℕ
above_all lists zero row = first_some (least_of_all lists (is_named_for lists row) ∷ least_of_all lists (is_country_of (column 9 row)) ∷ [])
above_all lists (suc level) row = least_of_all lists (is_division_of (suc level) row)

-- the same for this row, which itself is never taken
abbrev pub above_it : Lists → ℕ → List ℕ → Option ℕ
above_it lists zero row = first_some (least_other lists (id_of row) (is_named_for lists row) ∷ least_other lists (id_of row) (is_country_of (column 9 row)) ∷ [])
above_it lists (suc level) row = least_other lists (id_of row) (is_division_of (suc level) row)

-- The least id of another row that passes a test was found; if it is common, it is the least of all that pass.
pub record IsLeastFound (lists : Lists) (id : ℕ) (test : List ℕ → Bool) (found : Found) : Type 0 where
  pub other : found.above ≡ least_other lists id test
  pub all : found.is_common ≡ true → found.above ≡ least_of_all lists test

-- What stands above the row at a level was found; if it is common, it stands above every row with its path.
pub record IsAboveFound (lists : Lists) (level : ℕ) (row : List ℕ) (found : Found) : Type 0 where
  pub other : found.above ≡ above_it lists level row
  pub all : found.is_common ≡ true → found.above ≡ above_all lists level row

-- What is remembered with a path stands above every row with it. A tab stands behind each code, since no column has one.
abbrev pub IsLast : Lists → ℕ → Last → Type 0
IsLast lists level last = (row : List ℕ) → IsFront 48 (path_with 9 level row) last.path.bytes last.path.len → last.path.len < 48 → last.above ≡ above_all lists level row

-- So it is at each level of which something is remembered.
pub record IsKept (lists : Lists) (kept : Kept) : Type 0 where
  pub each : (level : ℕ) (other : Option Last) → level < length kept.lasts → IfSome (slice_index_or kept.lasts level other) (IsLast lists level)
