use Rattle.gaz_parent.specs.Parent.{linked}
use Rattle.gaz_plain.proofs.kin.PlainKinKin.link_up.Goals as goal

pub returns-clause-found : goal.returns-clause-found
unfolding linked
returns-clause-found c lists is = rw is c.least_linked.ensures
