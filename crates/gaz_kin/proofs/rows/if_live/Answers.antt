use Rattle.std.proofs.Common.{[], ap, sym, option_map}
use Rattle.gaz_kin.proofs.rows.if_live.Goals as goal

pub returns-in-Ok-Some-clause-found : goal.returns-in-Ok-Some-clause-found
returns-in-Ok-Some-clause-found g c told gaz stands = sym (ap (option_map (λ row. c.args.id)) (rw c.in-Ok-Some.field-0-is at (c.in-Ok-Some.ensures.line told [] gaz stands)))

pub returns-in-Ok-None-clause-found : goal.returns-in-Ok-None-clause-found
returns-in-Ok-None-clause-found g c told gaz stands = sym (ap (option_map (λ row. c.args.id)) (rw c.in-Ok-None.field-0-is at (c.in-Ok-None.ensures.line told [] gaz stands)))

pub returns-in-Err-clause-damaged : goal.returns-in-Err-clause-damaged
returns-in-Err-clause-damaged g c told gaz stands = c.in-Err.ensures.damaged told [] gaz stands
