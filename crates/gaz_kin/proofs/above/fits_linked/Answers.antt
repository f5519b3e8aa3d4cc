use Rattle.std.proofs.Common.{[], None, Some, sym, rules}
use Rattle.gaz_kin.specs.Above.{may_be_parent}
use Rattle.gaz_kin.proofs.Tested.{tested, is_parent}
use Rattle.gaz_kin.proofs.above.fits_linked.Goals as goal

pub returns-in-Ok-Some-clause-fits : goal.returns-in-Ok-Some-clause-fits
returns-in-Ok-Some-clause-fits g c told gaz stands =
    let at = rw c.in-Ok-Some.field-0-is at (c.in-Ok-Some.ensures.line told [] gaz stands) in
    sym (tested gaz (may_be_parent c.args.child) c.args.id (Some _) _ at (is_parent gaz stands.is_gazetteer c.args.id _ at c.args.child))

pub returns-in-Ok-None-clause-fits : goal.returns-in-Ok-None-clause-fits
returns-in-Ok-None-clause-fits g c told gaz stands =
    sym (tested gaz (may_be_parent c.args.child) c.args.id None _ (rw c.in-Ok-None.field-0-is at (c.in-Ok-None.ensures.line told [] gaz stands)) (search rules))

pub returns-in-Err-clause-damaged : goal.returns-in-Err-clause-damaged
returns-in-Err-clause-damaged g c told gaz stands = c.in-Err.ensures.damaged told [] gaz stands
