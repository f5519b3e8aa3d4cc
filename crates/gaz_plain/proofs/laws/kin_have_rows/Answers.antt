use Rattle.gaz_plain.proofs.Upwards.{hierarchies_have_rows, children_have_rows}
use Rattle.gaz_plain.proofs.laws.kin_have_rows.Goals as goal

pub returns-clause-chains : goal.returns-clause-chains
returns-clause-chains c = λ gaz id is. hierarchies_have_rows gaz is id

pub returns-clause-children : goal.returns-clause-children
returns-clause-children c = λ gaz id max is. children_have_rows gaz is id max
