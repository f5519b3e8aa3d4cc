use Rattle.std.proofs.Common.{sym, ◌∙◌, true, false, ◌≡◌, refl}
use Rattle.gaz_parent.specs.Parent.{country_above, has_country}
use Rattle.gaz_plain.proofs.Foremost.{this_first, then_this}
use Rattle.gaz_plain.proofs.kin.PlainKinKin.country.Goals as goal

-- no country may stand above it
pub returns-then-not-leads_to_country-clause-found : goal.returns-then-not-leads_to_country-clause-found
unfolding country_above
returns-then-not-leads_to_country-clause-found c lists is =
    let none : has_country c.args.row.now ≡ false = sym c.if-not-leads_to_country.ensures in
    rw (is, none) refl

pub returns-in-Some-clause-found : goal.returns-in-Some-clause-found
unfolding country_above
returns-in-Some-clause-found c lists is =
    let some : has_country c.args.row.now ≡ true = sym c.if-not-leads_to_country.ensures in
    rw (is, some) (this_first c.in-Some.named _ _ (sym c.in-Some.is ∙ c.named_country.ensures))

pub returns-in-None-clause-found : goal.returns-in-None-clause-found
unfolding country_above
returns-in-None-clause-found c lists is =
    let some : has_country c.args.row.now ≡ true = sym c.if-not-leads_to_country.ensures in
    rw (is, some) (c.least_country.ensures ∙ then_this _ _ (sym c.in-None.is ∙ c.named_country.ensures))
