-- Numbers by which rows and links are found beside their keys.
use Rattle.std.specs.Prelude.{◌≡◌, ℕ, zero, suc, ◌+◌, ◌*◌, ◌%◌, ◌^◌, ◌<◌, Bool, true, false, List, [], ◌∷◌, ◌++◌, Option, Some, None, All, ⊤, ◌==◌, if◌then◌else◌}
use Rattle.std.specs.List.{list_any, AllByRecursion}
use Rattle.gaz_num.specs.Pieces.{column}
use Rattle.gaz_num.specs.declared.words.Kind.TheVariants.{Row}
use Rattle.gaz_num.specs.declared.words.Table.TheVariants.{Rows, Links}
use Rattle.gaz_parent.specs.Parent.{is_country_row, level_of}
use Rattle.gaz_plain.specs.Gazetteer.{IsLine, line_at}
use Rattle.gaz_plain.specs.Placed.{has_pair}

-- the next number, of one and a digit
unfoldable pub next_number : ℕ → ℕ → ℕ
next_number number digit = (number * 1099511628211 % 2 ^ 64 + digit) % 2 ^ 64

-- a number of a text and of those before it: equal texts have equal numbers
abbrev pub number_of : ℕ → List ℕ → ℕ
number_of number [] = next_number number 256
number_of number (byte ∷ bytes) = number_of (next_number number byte) bytes

-- the number of a row's country and of its admin codes up to a level
abbrev pub path_number : ℕ → List ℕ → ℕ
path_number zero row = number_of 0 (column 9 row)
path_number (suc level) row = number_of (path_number level row) (column (11 + level) row)

-- the number by which the rows of countries are found
abbrev pub country_number : List ℕ → ℕ
country_number country = number_of 1 country

-- what there is, as a list
abbrev pub as_list : Option ℕ → List ℕ
as_list None = []
as_list (Some n) = n ∷ []

-- the number of a country's row
abbrev pub entity_numbers : List ℕ → List ℕ
entity_numbers row = if is_country_row row then country_number (column 9 row) ∷ [] else []

-- the number of a division, if there is one
abbrev pub division_numbers : List ℕ → Option ℕ → List ℕ
division_numbers row None = []
division_numbers row (Some level) = path_number level row ∷ []

-- the numbers of a row: that of its country, and as a country's row or a division its own
abbrev pub row_numbers : List ℕ → List ℕ
row_numbers row = path_number 0 row ∷ entity_numbers row ++ division_numbers row (level_of row)

-- a number is one of these
abbrev pub is_one_in : List ℕ → ℕ → Bool
is_one_in numbers number = list_any (λ n. n == number) numbers

-- The pairs that were there are there.
abbrev pub Keeps : List (ℕ × ℕ) → List (ℕ × ℕ) → Type 0
Keeps old new = (number id : ℕ) → has_pair old number id ≡ true → has_pair new number id ≡ true

-- All but some of an id, and of these those of the numbers that are kept.
abbrev pub KeepsBut : ℕ → List ℕ → List (ℕ × ℕ) → List (ℕ × ℕ) → Type 0
KeepsBut id kept old new = (number i : ℕ) → has_pair old number i ≡ true → ((id == i) ≡ true → is_one_in kept number ≡ true) → has_pair new number i ≡ true

-- The pairs of an id and of each number are there.
abbrev pub HasAll : ℕ → List ℕ → List (ℕ × ℕ) → Type 0
HasAll id numbers pairs = (number : ℕ) → is_one_in numbers number ≡ true → has_pair pairs number id ≡ true

-- Each row has a pair for each of its numbers.
pub record AreNumbered (rows : List (List ℕ)) (pairs : List (ℕ × ℕ)) : Type 0 where
  pub each : All (IsLine Row) rows
  pub numbered : (id : ℕ) (row : List ℕ) → line_at Rows (id ∷ []) rows ≡ Some row → HasAll id (row_numbers row) pairs

-- there is a row and it passes a test
abbrev pub passes_at : (List ℕ → Bool) → Option (List ℕ) → Bool
passes_at test None = false
passes_at test (Some row) = test row

-- an id is among those of pairs
abbrev pub has_id : List (ℕ × ℕ) → ℕ → Bool
has_id pairs id = list_any (λ pair. pair.1 == id) pairs

-- The ids of pairs rise.
abbrev pub IdsRise : List (ℕ × ℕ) → Type 0
IdsRise [] = ⊤
IdsRise (pair ∷ pairs) = AllByRecursion (λ later. pair.1 < later.1) pairs × IdsRise pairs

-- the numbers by which the parents of a child and the children of a parent are found
abbrev pub up_number : ℕ → ℕ → ℕ
up_number child class = child * 4 + class

abbrev pub down_number : ℕ → ℕ
down_number parent = parent * 4 + 3

-- A link of a child, a class and a parent has a pair upwards and one downwards.
abbrev pub HasLink : ℕ → ℕ → ℕ → List (ℕ × ℕ) → Type 0
HasLink child class parent pairs = (has_pair pairs (up_number child class) parent ≡ true) × (has_pair pairs (down_number parent) child ≡ true)

-- Each link has both.
abbrev pub AreLinked : List (List ℕ) → List (ℕ × ℕ) → Type 0
AreLinked links pairs = (child class parent : ℕ) (link : List ℕ) → line_at Links (child ∷ class ∷ parent ∷ []) links ≡ Some link → HasLink child class parent pairs
