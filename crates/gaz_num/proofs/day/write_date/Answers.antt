use Rattle.std.proofs.Common.{◌≡◌, ℕ, ◌+◌, ◌∙◌, sym, subst, ap, arith, Some, pos, w16, FitsSigned}
use Rattle.std.specs.Prelude.{unsigned_abs}
use Rattle.std.specs.Str.{IsAscii}
use Rattle.std.proofs.lemmas.Int.{to_z-of_z}
use Rattle.jiff_core.proofs.SignedLemmas.{signed_arith}
use Rattle.jiff_core.proofs.CalendarLemmas.{days_in_month_bounds}
use Rattle.gaz_num.specs.Dates.{date_of, civil_text, Civil, day_number, day_in}
use Rattle.gaz_num.proofs.CalendarLemmas.{IsDayOf, date_of-day_number}
use Rattle.gaz_num.proofs.DateDigitsLemmas.{written_day, day_in-digits, year_below}
use Rattle.gaz_num.proofs.day.write_date.Goals as goal

size : (c : goal.After-write_civil) → c.unsigned_abs.result ≡ unsigned_abs c.from_days_since_min-date.result.year
size c =
    let within = c.from_days_since_min-date.result.year_in in
    let fits : FitsSigned w16 c.from_days_since_min-date.result.year = omega (arith, signed_arith, within) in
    c.unsigned_abs.ensures.value ∙ ap unsigned_abs (to_z-of_z w16 c.from_days_since_min-date.result.year fits)

abbrev date : goal.After-write_civil → Civil
date c = record { year = c.unsigned_abs.result; month = c.from_days_since_min-date.result.month; day = c.from_days_since_min-date.result.day }

is_day : (c : goal.After-write_civil) → IsDayOf (date c) (c.args.day + 3652059)
is_day c = written_day c.from_days_since_min-date.result c.unsigned_abs.result c.args.day (size c) (c.from_days_since_min-date.ensures ∙ ap (λ (n : ℕ). pos (n + 3652059)) c.day.view_is)

number : (c : goal.After-write_civil) → day_number (date c) ≡ c.args.day
number c = let same = (is_day c).number in omega (arith, same)

pub returns-clause-text : goal.returns-clause-text
returns-clause-text c =
    c.write_civil.ensures.text
    ∙ ap civil_text (sym (date_of-day_number (date c) (is_day c).civil))
    ∙ ap (λ (n : ℕ). civil_text (date_of n)) (number c)

pub returns-clause-day : goal.returns-clause-day
returns-clause-day c =
    ap day_in c.write_civil.ensures.text
    ∙ day_in-digits c.unsigned_abs.result c.from_days_since_min-date.result.month c.from_days_since_min-date.result.day (let below = year_below c.from_days_since_min-date.result in let is = size c in omega (arith, below, is)) (omega arith) (let long = days_in_month_bounds c.from_days_since_min-date.result.year c.from_days_since_min-date.result.month in omega (arith, long)) (is_day c).civil
    ∙ ap Some (number c)

pub returns-clause-ascii : goal.returns-clause-ascii
returns-clause-ascii c = subst IsAscii (returns-clause-text c) c.write_civil.ensures.ascii
