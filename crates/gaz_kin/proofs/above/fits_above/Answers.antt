use Rattle.std.proofs.Common.{None, Some, ap, sym, ◌∙◌, rules}
use Rattle.gaz_kin.specs.Above.{may_be_above}
use Rattle.gaz_kin.proofs.Tested.{tested}
use Rattle.gaz_kin.proofs.above.fits_above.Goals as goal

pub returns-in-Ok-Some-clause-fits : goal.returns-in-Ok-Some-clause-fits
returns-in-Ok-Some-clause-fits g c told gaz stands =
    let at = rw c.in-Ok-Some.field-0-is at (c.in-Ok-Some.ensures.line told gaz stands) in
    sym (tested gaz (may_be_above c.args.level c.args.row.now) c.args.id (Some _) _ at (sym (c.is_other_above.ensures ∙ ap (may_be_above c.args.level c.args.row.now) c.of.ensures)))

pub returns-in-Ok-None-clause-fits : goal.returns-in-Ok-None-clause-fits
returns-in-Ok-None-clause-fits g c told gaz stands =
    sym (tested gaz (may_be_above c.args.level c.args.row.now) c.args.id None _ (rw c.in-Ok-None.field-0-is at (c.in-Ok-None.ensures.line told gaz stands)) (search rules))
