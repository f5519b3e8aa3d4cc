-- The parent rule, which goes through the rows, links and countries of a gazetteer.
use Rattle.std.specs.Prelude.{ℕ, zero, suc, ◌-◌, min, Bool, false, ◌&&◌, ◌||◌, not, List, [], ◌∷◌, map, filter, take, codes, Option, Some, None, option_map, unwrap_or, if◌then◌else◌, ◌==◌}
use Rattle.std.specs.Str.{bytes_eq}
use Rattle.std.specs.List.{list_all, list_any}
use Rattle.gaz_num.specs.Numbers.{id_in}
use Rattle.gaz_num.specs.Pieces.{column}
use Rattle.gaz_num.specs.Check.{is_empty, class_in}
use Rattle.gaz_row.specs.Row.{id_of}
use Rattle.gaz_tables.specs.declared.link.LinkClass.{LinkClass}
use Rattle.gaz_tables.specs.declared.link.LinkClass.TheVariants.{Adm, Plain}
use Rattle.gaz_tables.specs.Keys.{class_number}

-- The lines of a gazetteer through which the rules go.
pub record Lists : Type 0 where
  pub rows : List (List ℕ)
  pub links : List (List ℕ)
  pub countries : List (List ℕ)

-- there is a number, and it is this one
abbrev pub is_this : ℕ → Option ℕ → Bool
is_this n None = false
is_this n (Some m) = m == n

-- the first of these that exists
abbrev pub first_some : List (Option ℕ) → Option ℕ
first_some [] = None
first_some (None ∷ more) = first_some more
first_some (Some n ∷ more) = Some n

-- the least of these, if there are any
abbrev pub least : List ℕ → Option ℕ
least [] = None
least (n ∷ more) = Some (unwrap_or (option_map (min n) (least more)) n)

-- a row may be taken that passes a test and hasn't this id
abbrev pub may_be : ℕ → (List ℕ → Bool) → List ℕ → Bool
may_be id test row = test row && not (id_of row == id)

-- the least id of a row that passes a test, where the row with this id is never taken
abbrev pub least_other : Lists → ℕ → (List ℕ → Bool) → Option ℕ
least_other lists id test = least (map id_of (filter (may_be id test) lists.rows))

-- a row of class A
abbrev pub is_administrative : List ℕ → Bool
is_administrative row = bytes_eq (column 7 row) (codes "A")

-- one of the six codes of political entities
abbrev pub is_political : List ℕ → Bool
is_political code =
    bytes_eq code (codes "PCL") || bytes_eq code (codes "PCLD") || bytes_eq code (codes "PCLF")
    || bytes_eq code (codes "PCLI") || bytes_eq code (codes "PCLIX") || bytes_eq code (codes "PCLS")

-- a country row: class A, and a code of political entities
abbrev pub is_country_row : List ℕ → Bool
is_country_row row = is_administrative row && is_political (column 8 row)

-- the level for which a code stands
abbrev pub code_level : List ℕ → Option ℕ
code_level code =
    if bytes_eq code (codes "ADM1") then Some 1
    else if bytes_eq code (codes "ADM2") then Some 2
    else if bytes_eq code (codes "ADM3") then Some 3
    else if bytes_eq code (codes "ADM4") then Some 4
    else None

-- the level of a row of class A with code ADM1 to ADM4
abbrev pub level_of : List ℕ → Option ℕ
level_of row = if is_administrative row then code_level (column 8 row) else None

-- a link of this class from this child to this parent
abbrev pub is_link : LinkClass → ℕ → ℕ → List ℕ → Bool
is_link class child parent link =
    (class_in (column 3 link) == class_number class)
    && is_this child (id_in (column 2 link))
    && is_this parent (id_in (column 1 link))

-- Rules 1 and 4: the least id of a row that is parent of this child in a link of this class.
unfoldable pub linked : Lists → ℕ → LinkClass → Option ℕ
linked lists child class = least_other lists child (λ other. list_any (is_link class child (id_of other)) lists.links)

-- the columns of the admin codes 1 to a level
abbrev pub code_columns : ℕ → List ℕ
code_columns level = take level (11 ∷ 12 ∷ 13 ∷ 14 ∷ [])

-- the path to a level: the columns of the country and of the admin codes up to it
abbrev pub path_columns : ℕ → List ℕ
path_columns level = 9 ∷ code_columns level

-- none of them is empty, and code 1 isn't 00
abbrev pub has_path : ℕ → List ℕ → Bool
has_path level row =
    list_all (λ n. not (is_empty (column n row))) (path_columns level) && not (bytes_eq (column 11 row) (codes "00"))

-- two rows have them in common
abbrev pub same_path : ℕ → List ℕ → List ℕ → Bool
same_path level row other = list_all (λ n. bytes_eq (column n other) (column n row)) (path_columns level)

-- another row is of this level, and has the same country and the same admin codes up to it
abbrev pub is_division_of : ℕ → List ℕ → List ℕ → Bool
is_division_of level row other = is_this level (level_of other) && same_path level row other

-- Rule 2 at one level: the least id of such a row, where the path isn't empty anywhere.
unfoldable pub division : Lists → ℕ → List ℕ → Option ℕ
division lists level row = if has_path level row then least_other lists (id_of row) (is_division_of level row) else None

-- the first level: that of the row less one, 0 for a country row, and 4 for all other rows
abbrev pub first_level : List ℕ → ℕ
first_level row = if is_country_row row then 0 else unwrap_or (option_map (λ level. level - 1) (level_of row)) 4

-- the levels from one downwards to 1
abbrev pub downwards : ℕ → List ℕ
downwards zero = []
downwards (suc level) = suc level ∷ downwards level

-- Rule 2: the division of the first level that has one, from the first level downwards to 1.
abbrev pub division_above : Lists → ℕ → List ℕ → Option ℕ
division_above lists level row = first_some (map (λ k. division lists k row) (downwards level))

-- a line of the table of countries names this place for this country
abbrev pub names : List ℕ → ℕ → List ℕ → Bool
names country id line = bytes_eq (column 1 line) country && is_this id (id_in (column 17 line))

-- a country row of this country
abbrev pub is_country_of : List ℕ → List ℕ → Bool
is_country_of country other = is_country_row other && bytes_eq (column 9 other) country

-- a row that is no country row and whose country isn't empty
abbrev pub has_country : List ℕ → Bool
has_country row = not (is_country_row row) && not (is_empty (column 9 row))

-- Rule 3, of such a row: the row that the table of countries names for its country, else the least id of a country row with
-- that country.
unfoldable pub country_above : Lists → List ℕ → Option ℕ
country_above lists row =
    if has_country row
    then first_some
    (least_other lists (id_of row) (λ other. list_any (names (column 9 row) (id_of other)) lists.countries)
    ∷ least_other lists (id_of row) (is_country_of (column 9 row))
    ∷ [])
    else None

-- The parent of a row: the first that exists of the four rules.
abbrev pub parent_of : Lists → List ℕ → Option ℕ
parent_of lists row =
    first_some
    (linked lists (id_of row) Adm
    ∷ division_above lists (first_level row) row
    ∷ country_above lists row
    ∷ linked lists (id_of row) Plain
    ∷ [])
