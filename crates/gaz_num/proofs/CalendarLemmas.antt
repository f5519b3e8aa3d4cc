-- The date of each day, and the day of each date.
use Rattle.std.proofs.Common.{◌≡◌, ℕ, zero, suc, ◌+◌, ◌-◌, ◌<◌, ◌≤◌, Bool, true, false, ◌&&◌, true≢false, refl, sym, ◌∙◌, ap, subst, arith, ℤ, pos, neg_ℤ, ◌+ℤ◌, ◌-ℤ◌, ◌≤ℤ◌, leb-true, le-leb, lt-ltb, le-ltb, add-one}
use Rattle.std.specs.Prelude.{unsigned_abs, nat_le}
use Rattle.jiff_core.specs.declared.civil.date.Date.{Date}
use Rattle.jiff_core.specs.Date.{epoch_day}
use Rattle.jiff_core.specs.Calendar.{days_from_civil, days_in_month, day_count, days_of_years, days_of_months}
use Rattle.jiff_core.proofs.SignedLemmas.{signed_arith}
use Rattle.jiff_core.proofs.CalendarLemmas.{days_in_month_bounds}
use Rattle.jiff_core.proofs.DateLemmas.{days_from_civil-day, days_from_civil-next_month, days_from_civil-next_year}
use Rattle.gaz_num.specs.Dates.{Civil, day_number, date_after, date_of, is_date}

-- the parts of a test of two, and the test from its parts
pub and_left : (a b : Bool) → (a && b) ≡ true → a ≡ true
and_left true b h = refl
and_left false b h = h

pub and_right : (a b : Bool) → (a && b) ≡ true → b ≡ true
and_right true b h = h
and_right false b h = absurd (true≢false (sym h))

pub and_both : (a b : Bool) → a ≡ true → b ≡ true → (a && b) ≡ true
and_both a b x y = rw x y

-- the date is that of a number of days
pub record IsOn (year month day : ℕ) : Type 0 where
  pub number : ℕ
  pub days : days_from_civil (pos year) month day ≡ days_from_civil (pos 0) 1 1 +ℤ pos number
  pub date : date_of number ≡ record { year = year; month = month; day = day }

-- from a day to the next within its month, from a month to the next, from a year to the next
next_day : (y m d : ℕ) → 1 ≤ d → d < days_in_month (pos y) m → IsOn y m d → IsOn y m (suc d)
next_day y m d low more on =
    let one = days_from_civil-day (pos y) m d (suc d) low (omega arith) in
    let was = on.days in
    let civil : Civil = record { year = y; month = m; day = d } in
    let step : date_after civil ≡ record { year = y; month = m; day = suc d } = rw (lt-ltb d (days_in_month (pos y) m) more) refl in
    record {
      number = suc on.number;
      days = omega (arith, signed_arith, one, was);
      date = ap date_after on.date ∙ step;
    }

next_month : (y m d : ℕ) → 1 ≤ m → m < 12 → d ≡ days_in_month (pos y) m → IsOn y m d → IsOn y (suc m) 1
next_month y m d low high last on =
    let one : days_from_civil (pos y) (suc m) 1 ≡ days_from_civil (pos y) m d +ℤ pos 1 = subst (λ (k : ℕ). days_from_civil (pos y) k 1 ≡ days_from_civil (pos y) m d +ℤ pos 1) (add-one m) (days_from_civil-next_month (pos y) m d low last) in
    let was = on.days in
    let civil : Civil = record { year = y; month = m; day = d } in
    let step : date_after civil ≡ record { year = y; month = suc m; day = 1 } = rw (le-ltb d (days_in_month (pos y) m) (omega (arith, last)), lt-ltb m 12 high) refl in
    record {
      number = suc on.number;
      days = omega (arith, signed_arith, one, was);
      date = ap date_after on.date ∙ step;
    }

next_year : (y : ℕ) → IsOn y 12 31 → IsOn (suc y) 1 1
next_year y on =
    let low : neg_ℤ (pos 10000) ≤ℤ pos y = omega (arith, signed_arith) in
    let next : pos (suc y) ≡ pos y +ℤ pos 1 = omega (arith, signed_arith) in
    let one = days_from_civil-next_year (pos y) (pos (suc y)) low next in
    let was = on.days in
    record {
      number = suc on.number;
      days = omega (arith, signed_arith, one, was);
      date = ap date_after on.date;
    }

-- so each day from the first of its month, each month from its year's first, each year from 0000
on_day : (y m : ℕ) → IsOn y m 1 → (d : ℕ) → suc d ≤ days_in_month (pos y) m → IsOn y m (suc d)
on_day y m on zero le = on
on_day y m on (suc d) le = next_day y m (suc d) (omega arith) le (on_day y m on d (omega (arith, le)))

on_last : (y m : ℕ) (n : ℕ) → n ≡ days_in_month (pos y) m → IsOn y m 1 → IsOn y m n
on_last y m zero is on = let long = days_in_month_bounds (pos y) m in absurd (omega (arith, is, long))
on_last y m (suc d) is on = on_day y m on d (omega (arith, is))

on_month : (y : ℕ) → IsOn y 1 1 → (k : ℕ) → suc k ≤ 12 → IsOn y (suc k) 1
on_month y on zero le = on
on_month y on (suc k) le =
    let n = days_in_month (pos y) (suc k) in
    next_month y (suc k) n (omega arith) (omega (arith, le)) refl (on_last y (suc k) n refl (on_month y on k (omega (arith, le))))

on_year : (y : ℕ) → IsOn y 1 1
on_year zero = record { number = 0; days = omega (arith, signed_arith); date = refl }
on_year (suc y) = next_year y (on_last y 12 31 refl (on_month y (on_year y) 11 (omega arith)))

on_date : (y m d : ℕ) → 1 ≤ m → m ≤ 12 → 1 ≤ d → d ≤ days_in_month (pos y) m → IsOn y m d
on_date y zero d a b c e = absurd (omega (arith, a))
on_date y (suc k) zero a b c e = absurd (omega (arith, c))
on_date y (suc k) (suc d) a b c e = on_day y (suc k) (on_month y (on_year y) k b) d e

apart : (a b : ℤ) (n : ℕ) → a ≡ b +ℤ pos n → a -ℤ b ≡ pos n
apart a b n is = omega (arith, signed_arith, is)

-- what the test of a date says
pub record IsCivil (c : Civil) : Type 0 where
  pub month_low : 1 ≤ c.month
  pub month_high : c.month ≤ 12
  pub day_low : 1 ≤ c.day
  pub day_high : c.day ≤ days_in_month (pos c.year) c.month

pub civil_of_test : (c : Civil) → is_date c ≡ true → IsCivil c
civil_of_test c is =
    let dim = days_in_month (pos c.year) c.month in
    let three = and_left ((nat_le 1 c.month && nat_le c.month 12) && nat_le 1 c.day) (nat_le c.day dim) is in
    let two = and_left (nat_le 1 c.month && nat_le c.month 12) (nat_le 1 c.day) three in
    record {
      month_low = leb-true 1 c.month (and_left (nat_le 1 c.month) (nat_le c.month 12) two);
      month_high = leb-true c.month 12 (and_right (nat_le 1 c.month) (nat_le c.month 12) two);
      day_low = leb-true 1 c.day (and_right (nat_le 1 c.month && nat_le c.month 12) (nat_le 1 c.day) three);
      day_high = leb-true c.day dim (and_right ((nat_le 1 c.month && nat_le c.month 12) && nat_le 1 c.day) (nat_le c.day dim) is);
    }

pub test_of_civil : (c : Civil) → IsCivil c → is_date c ≡ true
test_of_civil c is =
    let dim = days_in_month (pos c.year) c.month in
    and_both ((nat_le 1 c.month && nat_le c.month 12) && nat_le 1 c.day) (nat_le c.day dim)
    (and_both (nat_le 1 c.month && nat_le c.month 12) (nat_le 1 c.day)
    (and_both (nat_le 1 c.month) (nat_le c.month 12) (le-leb 1 c.month is.month_low) (le-leb c.month 12 is.month_high))
    (le-leb 1 c.day is.day_low))
    (le-leb c.day dim is.day_high)

pub on_civil : (c : Civil) → IsCivil c → IsOn c.year c.month c.day
on_civil c is = on_date c.year c.month c.day is.month_low is.month_high is.day_low is.day_high

-- the days before 0000-01-01 in jiff's count
pub first_of_all : days_from_civil (pos 0) 1 1 ≡ neg_ℤ (pos 719528)
unfolding days_from_civil day_count days_of_years days_of_months
first_of_all = refl

-- the date of the day of a date
pub date_of-day_number : (c : Civil) → is_date c ≡ true → date_of (day_number c) ≡ c
date_of-day_number c is =
    let on = on_civil c (civil_of_test c is) in
    ap date_of (ap unsigned_abs (apart (days_from_civil (pos c.year) c.month c.day) (days_from_civil (pos 0) 1 1) on.number on.days)) ∙ on.date

-- what jiff's count of a date says of its day
pub record IsDayOf (c : Civil) (since : ℕ) : Type 0 where
  pub civil : is_date c ≡ true
  pub later : 3652059 ≤ since
  pub number : day_number c ≡ since - 3652059

pub day_of_date : (c : Civil) (d : Date) (since : ℕ) → d.year ≡ pos c.year → pos d.month ≡ pos c.month → pos d.day ≡ pos c.day → epoch_day d +ℤ pos 4371587 ≡ pos since → IsDayOf c since
day_of_date c d since year month day count =
    let month_is : d.month ≡ c.month = omega (arith, signed_arith, month) in
    let day_is : d.day ≡ c.day = omega (arith, signed_arith, day) in
    let long : days_in_month d.year d.month ≡ days_in_month (pos c.year) c.month = ap (λ (y : ℤ). days_in_month y d.month) year ∙ ap (days_in_month (pos c.year)) month_is in
    let month_in = d.month_in in
    let day_in = d.day_in in
    let civil : IsCivil c = record {
      month_low = omega (arith, month_in, month_is);
      month_high = omega (arith, month_in, month_is);
      day_low = omega (arith, day_in, day_is);
      day_high = omega (arith, day_in, day_is, long);
    } in
    let on = on_civil c civil in
    let same : epoch_day d ≡ days_from_civil (pos c.year) c.month c.day = ap (λ (y : ℤ). days_from_civil y d.month d.day) year ∙ ap (λ (m : ℕ). days_from_civil (pos c.year) m d.day) month_is ∙ ap (days_from_civil (pos c.year) c.month) day_is in
    let days = on.days in
    let first = first_of_all in
    let is : day_number c ≡ on.number = ap unsigned_abs (apart (days_from_civil (pos c.year) c.month c.day) (days_from_civil (pos 0) 1 1) on.number on.days) in
    let sum : since ≡ on.number + 3652059 = omega (arith, signed_arith, same, days, first, count) in
    record {
      civil = test_of_civil c civil;
      later = omega (arith, sum);
      number = omega (arith, is, sum);
    }
