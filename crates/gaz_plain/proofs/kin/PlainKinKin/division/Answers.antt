use Rattle.std.proofs.Common.{sym, true, false, ◌≡◌, refl}
use Rattle.gaz_parent.specs.Parent.{division, has_path}
use Rattle.gaz_plain.proofs.kin.PlainKinKin.division.Goals as goal

-- no path leads to one
pub returns-then-not-leads_to_division-clause-found : goal.returns-then-not-leads_to_division-clause-found
unfolding division
returns-then-not-leads_to_division-clause-found c lists is =
    let none : has_path c.args.level c.args.row.now ≡ false = sym c.if-not-leads_to_division.ensures in
    rw (is, none) refl

pub returns-clause-found : goal.returns-clause-found
unfolding division
returns-clause-found c lists is =
    let some : has_path c.args.level c.args.row.now ≡ true = sym c.if-not-leads_to_division.ensures in
    rw (is, some) c.least_division.ensures
