use Rattle.gaz_parent.specs.Parent.{may_be}
use Rattle.gaz_parent.proofs.Least.{least_is, one_least}
use Rattle.gaz_parent.proofs.laws.takes_least.Goals as goal

pub returns-clause-least : goal.returns-clause-least
returns-clause-least c = λ lists id test. least_is (may_be id test) lists.rows

pub returns-clause-one : goal.returns-clause-one
returns-clause-one c = one_least
