-- The made table: rows whose columns follow from their number and from a sequence of numbers.
use Rattle.std.specs.Prelude.{ℕ, zero, suc, ◌+◌, ◌*◌, ◌-◌, ◌/◌, ◌%◌, Bool, List, [], ◌∷◌, ◌++◌, map, flat_map, codes, decimal, nat_lt, ◌==◌, if◌then◌else◌}
use Rattle.std.specs.List.{join_with_byte}
use Rattle.gaz_num.specs.Dates.{padded_number}

-- the number after x, in the sequence of Park and Miller
abbrev pub after : ℕ → ℕ
after x = x * 16807 % 2147483647

-- the n-th number of the sequence, from 1; the zeroth, 1 up to 2147483646, follows from the start
unfoldable pub drawn : ℕ → ℕ → ℕ
drawn start zero = 1 + start % 2147483646
drawn start (suc n) = after (drawn start n)

-- so many thousandths: the whole part, a point and three digits
abbrev pub thousandths : ℕ → List ℕ
thousandths n = decimal (n / 1000) ++ codes "." ++ padded_number 3 (n % 1000)

-- n - most thousandths, with a minus in front where that is negative
abbrev pub signed_thousandths : ℕ → ℕ → List ℕ
signed_thousandths most n =
    if nat_lt n most then codes "-" ++ thousandths (most - n) else thousandths (n - most)

-- a coordinate of -most up to most thousandths, by the number that is drawn for it
abbrev pub coordinate : ℕ → ℕ → List ℕ
coordinate most x = signed_thousandths most (x % (2 * most + 1))

-- each fiftieth row, from the first on, is an administrative division
abbrev pub is_division : ℕ → Bool
is_division i = i % 50 == 1

abbrev pub feature_class : ℕ → List ℕ
feature_class i = if is_division i then codes "A" else codes "P"

abbrev pub feature_code : ℕ → List ℕ
feature_code i = if is_division i then codes "ADM1" else codes "PPL"

-- XA for the first thousand rows, XB for the next, up to XZ, and again
abbrev pub country_code : ℕ → List ℕ
country_code i = codes "X" ++ (65 + (i - 1) / 1000 % 26) ∷ []

-- 01 for the first fifty rows, 02 for the next, up to 20, and again
abbrev pub admin_code : ℕ → List ℕ
admin_code i = padded_number 2 (1 + (i - 1) / 50 % 20)

abbrev pub place_name : ℕ → List ℕ
place_name i = codes "Place " ++ decimal i

-- what is said of a row at a date: its coordinates and population follow from three numbers that are drawn for it
pub record Drawn : Type 0 where
  pub latitude : ℕ
  pub longitude : ℕ
  pub population : ℕ

-- the three numbers of row i, one after another
abbrev pub drawn_for : ℕ → ℕ → Drawn
drawn_for start i = record {
  latitude = drawn start (3 * i - 2);
  longitude = drawn start (3 * i - 1);
  population = drawn start (3 * i);
}

-- the 19 columns of row i, with so many people more and this date
abbrev pub row_columns : ℕ → Drawn → ℕ → List ℕ → List (List ℕ)
row_columns i x more date =
    decimal i
    ∷ place_name i
    ∷ place_name i
    ∷ []
    ∷ coordinate 90000 x.latitude
    ∷ coordinate 180000 x.longitude
    ∷ feature_class i
    ∷ feature_code i
    ∷ country_code i
    ∷ []
    ∷ admin_code i
    ∷ []
    ∷ []
    ∷ []
    ∷ decimal (x.population % 1000000 + more)
    ∷ []
    ∷ []
    ∷ codes "Etc/UTC"
    ∷ date
    ∷ []

-- columns with a tab between each two
abbrev pub row_line : ℕ → Drawn → ℕ → List ℕ → List ℕ
row_line i x more date = join_with_byte 9 (row_columns i x more date)

-- row i of the table
abbrev pub made_line : ℕ → ℕ → List ℕ
made_line start i = row_line i (drawn_for start i) 0 (codes "2000-01-01")

-- the numbers from 1 to n
unfoldable pub up_to : ℕ → List ℕ
up_to zero = []
up_to (suc n) = up_to n ++ suc n ∷ []

-- the rows of the table
abbrev pub made_lines : ℕ → ℕ → List (List ℕ)
made_lines start rows = map (made_line start) (up_to rows)

-- each line with an LF
abbrev pub lined : List (List ℕ) → List ℕ
lined lines = flat_map (λ line. line ++ 10 ∷ []) lines

-- the table
abbrev pub made_table : ℕ → ℕ → List ℕ
made_table start rows = lined (made_lines start rows)
