-- The text of a date, digit by digit, and that it is read again.
use Rattle.std.proofs.Common.{◌≡◌, ℕ, ◌+◌, ◌/◌, ◌%◌, ◌<◌, Bool, true, ◌&&◌, List, [], ◌∷◌, ◌++◌, refl, sym, ◌∙◌, ap, arith, le-leb, ℤ, pos, negsuc, neg_ℤ, ◌+ℤ◌, ◌≤ℤ◌, Some, rules, inl}
use Rattle.std.specs.Prelude.{unsigned_abs}
use Rattle.std.specs.Str.{all_ascii_digits}
use Rattle.std.specs.Char.{is_ascii_digit, digit_value}
use Rattle.std.specs.Str.Parse.{digits_value}
use Rattle.std.proofs.lemmas.Int.{by_lt_z}
use Rattle.std.proofs.lemmas.Str.{digit_value_digit}
use Rattle.jiff_core.specs.declared.civil.date.Date.{Date}
use Rattle.jiff_core.specs.Date.{epoch_day}
use Rattle.jiff_core.proofs.SignedLemmas.{signed_arith}
use Rattle.jiff_core.proofs.DateLemmas.{epoch_day-lt}
use Rattle.gaz_num.specs.Numbers.{some_if}
use Rattle.gaz_num.specs.Dates.{day_number, padded_number, civil_text, civil_in, is_date, day_of_parts, day_in}
use Rattle.gaz_num.proofs.CalendarLemmas.{and_both, first_of_all, IsDayOf, day_of_date}
use Rattle.gaz_num.proofs.DateTextLemmas.{AreAscii, written, three_parts}

abbrev pub four_digits : ℕ → List ℕ
four_digits n = (48 + n / 1000) ∷ (48 + n / 100 % 10) ∷ (48 + n / 10 % 10) ∷ (48 + n % 10) ∷ []

abbrev pub two_digits : ℕ → List ℕ
two_digits n = (48 + n / 10) ∷ (48 + n % 10) ∷ []

ascii : (n : ℕ) → n < 10 → is_ascii_digit (48 + n) ≡ true
ascii n below = and_both _ _ (le-leb 48 (48 + n) (omega arith)) (le-leb (48 + n) 57 (omega (arith, below)))

value : (n : ℕ) → n < 10 → digit_value (48 + n) ≡ n
value n below = let same = digit_value_digit (48 + n) (omega arith, omega (arith, below)) in omega (arith, same)

-- the digits are digits
ascii_four : (n : ℕ) → n < 10000 → AreAscii (four_digits n)
ascii_four n below =
    and_both _ _ (ascii (n / 1000) (omega (arith, below))) (and_both _ _ (ascii (n / 100 % 10) (omega arith)) (and_both _ _ (ascii (n / 10 % 10) (omega arith)) (and_both _ _ (ascii (n % 10) (omega arith)) refl)))

ascii_two : (n : ℕ) → n < 100 → AreAscii (two_digits n)
ascii_two n below = and_both _ _ (ascii (n / 10) (omega (arith, below))) (and_both _ _ (ascii (n % 10) (omega arith)) refl)

-- and their number is the number
value_four : (n : ℕ) → n < 10000 → digits_value 10 (four_digits n) ≡ n
value_four n below =
    let a = value (n / 1000) (omega (arith, below)) in
    let b = value (n / 100 % 10) (omega arith) in
    let c = value (n / 10 % 10) (omega arith) in
    let d = value (n % 10) (omega arith) in
    omega (arith, a, b, c, d, below)

value_two : (n : ℕ) → n < 100 → digits_value 10 (two_digits n) ≡ n
value_two n below =
    let a = value (n / 10) (omega (arith, below)) in
    let b = value (n % 10) (omega arith) in
    omega (arith, a, b, below)

padded_four : (n : ℕ) → n < 10000 → padded_number 4 n ≡ four_digits n
padded_four n below = ap (padded_number 4) (sym (value_four n below)) ∙ written (four_digits n) (ascii_four n below) (omega arith) (omega arith)

padded_two : (n : ℕ) → n < 100 → padded_number 2 n ≡ two_digits n
padded_two n below = ap (padded_number 2) (sym (value_two n below)) ∙ written (two_digits n) (ascii_two n below) (omega arith) (omega arith)

-- the ten bytes of a date
abbrev pub civil_digits : ℕ → ℕ → ℕ → List ℕ
civil_digits year month day = four_digits year ++ 45 ∷ [] ++ two_digits month ++ 45 ∷ [] ++ two_digits day

pub civil_text-digits : (year month day : ℕ) → year < 10000 → month < 100 → day < 100 → civil_text (record { year = year; month = month; day = day }) ≡ civil_digits year month day
civil_text-digits year month day y m d =
    three_parts (padded_number 4 year) (padded_number 2 month) (padded_number 2 day) (four_digits year) (two_digits month) (two_digits day) (padded_four year y) (padded_two month m) (padded_two day d)

-- they are read as the numbers that they write
parts_of_digits : (year month day : ℕ) → year < 10000 → month < 100 → day < 100 → is_date (record { year = year; month = month; day = day }) ≡ true → day_of_parts (four_digits year) (two_digits month) (two_digits day) ≡ Some (day_number (record { year = year; month = month; day = day }))
parts_of_digits year month day y m d is =
    let all : (all_ascii_digits (four_digits year) && all_ascii_digits (two_digits month) && all_ascii_digits (two_digits day)) ≡ true =
    and_both _ _ (and_both _ _ (ascii_four year y) (ascii_two month m)) (ascii_two day d) in
    ap (λ (b : Bool). some_if (b && is_date (civil_in (four_digits year) (two_digits month) (two_digits day))) (day_number (civil_in (four_digits year) (two_digits month) (two_digits day)))) all
    ∙ ap (λ (n : ℕ). some_if (is_date (record { year = n; month = digits_value 10 (two_digits month); day = digits_value 10 (two_digits day) })) (day_number (record { year = n; month = digits_value 10 (two_digits month); day = digits_value 10 (two_digits day) }))) (value_four year y)
    ∙ ap (λ (n : ℕ). some_if (is_date (record { year = year; month = n; day = digits_value 10 (two_digits day) })) (day_number (record { year = year; month = n; day = digits_value 10 (two_digits day) }))) (value_two month m)
    ∙ ap (λ (n : ℕ). some_if (is_date (record { year = year; month = month; day = n })) (day_number (record { year = year; month = month; day = n }))) (value_two day d)
    ∙ ap (λ (b : Bool). some_if b (day_number (record { year = year; month = month; day = day }))) is

pub day_in-digits : (year month day : ℕ) → year < 10000 → month < 100 → day < 100 → is_date (record { year = year; month = month; day = day }) ≡ true → day_in (civil_text (record { year = year; month = month; day = day })) ≡ Some (day_number (record { year = year; month = month; day = day }))
day_in-digits year month day y m d is = ap day_in (civil_text-digits year month day y m d) ∙ parts_of_digits year month day y m d is

first_date : Date
first_date = record { year = pos 0; month = 1; day = 1; year_in = search rules; month_in = search rules; day_in = search rules }

-- a day from 0000-01-01 on has a year from 0 on
year_from_zero : (d : Date) (n : ℕ) → epoch_day d +ℤ pos 4371587 ≡ pos (n + 3652059) → pos 0 ≤ℤ d.year
unfolding first_date
year_from_zero d n is =
    by_lt_z d.year (pos 0)
    (λ before. let less = epoch_day-lt d first_date (inl before) in let first = first_of_all in absurd (omega (arith, signed_arith, less, first, is)))
    (λ later. later)

size_of_later : (z : ℤ) → pos 0 ≤ℤ z → z ≡ pos (unsigned_abs z)
size_of_later (pos n) later = refl
size_of_later (negsuc n) later = absurd (omega (arith, signed_arith, later))

-- what jiff's date of a count says of its day
pub written_day : (d : Date) (year : ℕ) (n : ℕ) → year ≡ unsigned_abs d.year → epoch_day d +ℤ pos 4371587 ≡ pos (n + 3652059) → IsDayOf (record { year = year; month = d.month; day = d.day }) (n + 3652059)
written_day d year n is count =
    day_of_date (record { year = year; month = d.month; day = d.day }) d (n + 3652059) (size_of_later d.year (year_from_zero d n count) ∙ ap pos (sym is)) refl refl count

size_below : (z : ℤ) → neg_ℤ (pos 9999) ≤ℤ z → z ≤ℤ pos 9999 → unsigned_abs z < 10000
size_below (pos n) low high = omega (arith, signed_arith, high)
size_below (negsuc n) low high = omega (arith, signed_arith, low)

-- a year has at most four digits
pub year_below : (d : Date) → unsigned_abs d.year < 10000
year_below d = size_below d.year d.year_in.0 d.year_in.1
