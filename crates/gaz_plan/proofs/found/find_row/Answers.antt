use Rattle.std.proofs.Common.{[], sym, ◌∙◌}
use Rattle.gaz_kin.proofs.Live.{not_refused}
use Rattle.gaz_plan.proofs.found.find_row.Goals as goal

pub returns-then-is_err-clause-damaged : goal.returns-then-is_err-clause-damaged
returns-then-is_err-clause-damaged g c told gaz stands =
    absurd (not_refused gaz stands.is_gazetteer c.args.id _ c.check_row.result (rw c.in-Ok-Some.field-0-is at (c.in-Ok-Some.ensures.line told [] gaz stands)) c.check_row.ensures (sym c.is_err.ensures.value ∙ c.if-is_err.true))

pub returns-else-is_err-clause-line : goal.returns-else-is_err-clause-line
returns-else-is_err-clause-line g c told gaz stands = rw c.in-Ok-Some.field-0-is at (c.in-Ok-Some.ensures.line told [] gaz stands)

pub returns-in-Ok-None-clause-line : goal.returns-in-Ok-None-clause-line
returns-in-Ok-None-clause-line g c told gaz stands = rw c.in-Ok-None.field-0-is at (c.in-Ok-None.ensures.line told [] gaz stands)

pub returns-in-Err-clause-damaged : goal.returns-in-Err-clause-damaged
returns-in-Err-clause-damaged g c told gaz stands = c.in-Err.ensures.damaged told [] gaz stands
