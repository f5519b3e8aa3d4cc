-- The dates of the years 0000 to 9999. A day is the number of days from 0000-01-01 up to it.
use Rattle.std.specs.Prelude.{ℕ, zero, suc, ◌-◌, Bool, ◌&&◌, List, [], ◌∷◌, ◌++◌, length, replicate, pos, ◌-ℤ◌, unsigned_abs, Option, None, if◌then◌else◌, ◌==◌, nat_lt, nat_le, slice_index, slice_range, decimal}
use Rattle.std.specs.Str.{all_ascii_digits}
use Rattle.std.specs.Str.Parse.{digits_value}
use Rattle.jiff_core.specs.Calendar.{days_from_civil, days_in_month}
use Rattle.gaz_num.specs.Numbers.{some_if}

-- the three numbers of a date
pub record Civil : Type 0 where
  pub year : ℕ
  pub month : ℕ
  pub day : ℕ

-- how many days lie between 0000-01-01 and the date
abbrev pub day_number : Civil → ℕ
day_number date = unsigned_abs (days_from_civil (pos date.year) date.month date.day -ℤ days_from_civil (pos 0) 1 1)

-- the date of the day after
abbrev pub date_after : Civil → Civil
date_after date =
    if nat_lt date.day (days_in_month (pos date.year) date.month) then record date { day = suc date.day }
    else if nat_lt date.month 12 then record { year = date.year; month = suc date.month; day = 1 }
    else record { year = suc date.year; month = 1; day = 1 }

-- the date of a day
abbrev pub date_of : ℕ → Civil
date_of zero = record { year = 0; month = 1; day = 1 }
date_of (suc day) = date_after (date_of day)

-- 9999-12-31
abbrev pub last_day : ℕ
last_day = 3652424

-- in decimal, with zeros in front up to a width
abbrev pub padded_number : ℕ → ℕ → List ℕ
padded_number width n = replicate (width - length (decimal n)) 48 ++ decimal n

-- yyyy-MM-dd
abbrev pub civil_text : Civil → List ℕ
civil_text date = padded_number 4 date.year ++ 45 ∷ [] ++ padded_number 2 date.month ++ 45 ∷ [] ++ padded_number 2 date.day

-- the date of a day, as yyyy-MM-dd
abbrev pub date_text : ℕ → List ℕ
date_text day = civil_text (date_of day)

-- the calendar has the date
abbrev pub is_date : Civil → Bool
is_date date =
    nat_le 1 date.month && nat_le date.month 12
    && nat_le 1 date.day && nat_le date.day (days_in_month (pos date.year) date.month)

-- the date whose three numbers are written so
abbrev pub civil_in : List ℕ → List ℕ → List ℕ → Civil
civil_in year month day =
    record { year = digits_value 10 year; month = digits_value 10 month; day = digits_value 10 day }

-- the day of a year, a month and a day in digits
abbrev pub day_of_parts : List ℕ → List ℕ → List ℕ → Option ℕ
day_of_parts year month day =
    some_if (all_ascii_digits year && all_ascii_digits month && all_ascii_digits day && is_date (civil_in year month day))
    (day_number (civil_in year month day))

-- the day that a text yyyy-MM-dd names
abbrev pub day_in : List ℕ → Option ℕ
day_in text =
    if (length text == 10) && (slice_index text 4 == 45) && (slice_index text 7 == 45)
    then day_of_parts (slice_range text 0 4) (slice_range text 5 7) (slice_range text 8 10)
    else None
