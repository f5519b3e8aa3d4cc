use Rattle.std.proofs.Common.{Bool, Some, ap, sym, ◌∙◌, arith, w8, w16}
use Rattle.std.proofs.lemmas.Int.{to_z_pos}
use Rattle.gaz_num.specs.Numbers.{some_if}
use Rattle.gaz_num.specs.Dates.{Civil, day_number}
use Rattle.gaz_num.proofs.CalendarLemmas.{day_of_date}
use Rattle.gaz_num.proofs.day.day_on.Goals as goal

pub overflow_sub-result : goal.overflow_sub-result
overflow_sub-result c =
    let date : Civil = record { year = c.args.year; month = c.args.month; day = c.args.day } in
    let ymd = c.in-Ok.ensures.value in
    (day_of_date date c.in-Ok.date c.days_since_min.result (ymd.0 ∙ to_z_pos w16 c.args.year (omega arith)) (ymd.1 ∙ to_z_pos w8 c.args.month (omega arith)) (ymd.2 ∙ to_z_pos w8 c.args.day (omega arith)) c.days_since_min.ensures.value).later

pub returns-in-Ok : goal.returns-in-Ok
returns-in-Ok c =
    let date : Civil = record { year = c.args.year; month = c.args.month; day = c.args.day } in
    let ymd = c.in-Ok.ensures.value in
    let is = day_of_date date c.in-Ok.date c.days_since_min.result (ymd.0 ∙ to_z_pos w16 c.args.year (omega arith)) (ymd.1 ∙ to_z_pos w8 c.args.month (omega arith)) (ymd.2 ∙ to_z_pos w8 c.args.day (omega arith)) c.days_since_min.ensures.value in
    ap Some (sym is.number) ∙ ap (λ (b : Bool). some_if b (day_number date)) (sym is.civil)
