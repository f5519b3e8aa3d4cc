use Rattle.std.proofs.Common.{◌≡◌, true, false, None, refl, sym, arith}
use Rattle.gaz_parent.specs.Parent.{country_above, has_country}
use Rattle.gaz_plain.specs.Kin.{lists_of}
use Rattle.gaz_kin.specs.Leading.{asked_nothing}
use Rattle.gaz_kin.proofs.above.find_country.Goals as goal

-- no country may stand above it
pub returns-then-not-leads_to_country-clause-found : goal.returns-then-not-leads_to_country-clause-found
unfolding country_above
returns-then-not-leads_to_country-clause-found g c told gaz stands is =
    let none : has_country c.args.row.now ≡ false = sym c.if-not-leads_to_country.ensures in
    rw none refl

pub returns-then-not-leads_to_country-clause-asked : goal.returns-then-not-leads_to_country-clause-asked
returns-then-not-leads_to_country-clause-asked g c = (0, asked_nothing (g.P.Pages.view c.args.store.now.pages) None)

pub returns-then-not-leads_to_country-clause-few : goal.returns-then-not-leads_to_country-clause-few
returns-then-not-leads_to_country-clause-few g c told gaz stands = omega arith

-- it is remembered
pub returns-in-Some-clause-found : goal.returns-in-Some-clause-found
unfolding country_above
returns-in-Some-clause-found g c told gaz stands is =
    let some : has_country c.args.row.now ≡ true = sym c.if-not-leads_to_country.ensures in
    rw some (c.in-Some.ensures (lists_of gaz) is)

-- it was found
pub returns-in-Ok-clause-found : goal.returns-in-Ok-clause-found
unfolding country_above
returns-in-Ok-clause-found g c told gaz stands is =
    let some : has_country c.args.row.now ≡ true = sym c.if-not-leads_to_country.ensures in
    rw some (c.in-Ok.ensures.found told gaz stands).other
