-- What holds of the parent rule.
use Rattle.std.specs.Prelude.{◌≡◌, ◌≢◌, ℕ, ◌≤◌, Bool, true, ◌&&◌, not, List, [], ◌∷◌, length, Option, Some, None, Contains, ◌==◌}
use Rattle.std.specs.List.{list_any}
use Rattle.gaz_num.specs.Pieces.{column}
use Rattle.gaz_row.specs.Row.{id_of}
use Rattle.gaz_tables.specs.declared.link.LinkClass.{LinkClass}
use Rattle.gaz_parent.specs.Parent.{Lists, may_be, least_other, is_link, has_path, is_division_of, has_country, names, is_country_of, parent_of}
use Rattle.gaz_parent.specs.Chain.{chain_in}

-- The id is that of a row that may be taken, and no such row has a lesser one; or there is no such row.
abbrev pub IsLeast : (List ℕ → Bool) → List (List ℕ) → Option ℕ → Type 0
IsLeast may rows (Some id) =
    ((row : List ℕ) × Contains rows row × (may row ≡ true) × (id_of row ≡ id))
    × ((row : List ℕ) → Contains rows row → may row ≡ true → id ≤ id_of row)
IsLeast may rows None = (row : List ℕ) → Contains rows row → may row ≡ true → ⊥

-- Such is the least id that a rule takes.
abbrev pub TakesLeast : Type 0
TakesLeast = (lists : Lists) (id : ℕ) (test : List ℕ → Bool) → IsLeast (may_be id test) lists.rows (least_other lists id test)

-- There is one such answer, so whatever finds it by an index is right.
abbrev pub OneLeast : Type 0
OneLeast = (may : List ℕ → Bool) (rows : List (List ℕ)) (a b : Option ℕ) → IsLeast may rows a → IsLeast may rows b → a ≡ b

-- A parent is a row of the gazetteer, and never the row itself.
abbrev pub ParentsAreOthers : Type 0
ParentsAreOthers = (lists : Lists) (row : List ℕ) (id : ℕ) → parent_of lists row ≡ Some id
    → ((other : List ℕ) × Contains lists.rows other × (id_of other ≡ id)) × (id ≢ id_of row)

-- What leads from a row to a place.
pub data LeadsTo (lists : Lists) (row : List ℕ) (id : ℕ) : Type 0 where
  -- a link
  by_link : (class : LinkClass) (link : List ℕ) → Contains lists.links link → is_link class (id_of row) id link ≡ true → LeadsTo lists row id
  -- the country and admin codes up to a level, which the place has too
  by_codes : (level : ℕ) (place : List ℕ) → Contains lists.rows place → id_of place ≡ id → has_path level row ≡ true → is_division_of level row place ≡ true → LeadsTo lists row id
  -- the table of countries, which names the place for the row's country
  by_table : (line : List ℕ) → Contains lists.countries line → has_country row ≡ true → names (column 9 row) id line ≡ true → LeadsTo lists row id
  -- the country, of which the place is a country row
  by_country : (place : List ℕ) → Contains lists.rows place → id_of place ≡ id → has_country row ≡ true → is_country_of (column 9 row) place ≡ true → LeadsTo lists row id

-- One of these leads to a parent, so the children of a place are found among the rows from which one leads to it.
abbrev pub ParentsAreLedTo : Type 0
ParentsAreLedTo = (lists : Lists) (row : List ℕ) (id : ℕ) → parent_of lists row ≡ Some id → LeadsTo lists row id

-- none of these numbers comes twice
abbrev pub are_distinct : List ℕ → Bool
are_distinct [] = true
are_distinct (n ∷ more) = not (list_any (λ m. m == n) more) && are_distinct more

-- A chain has at most 64 places, each once.
abbrev pub ChainsEnd : Type 0
ChainsEnd = (lists : Lists) (id : ℕ) → (length (chain_in lists id) ≤ 64) × (are_distinct (chain_in lists id) ≡ true)
