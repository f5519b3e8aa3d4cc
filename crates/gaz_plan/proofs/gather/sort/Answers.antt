use Rattle.gaz_plan.proofs.Sorted.{in_order}
use Rattle.gaz_plan.proofs.gather.sort.Goals as goal

pub returns-clause-order : goal.returns-clause-order
returns-clause-order c = in_order c.sort_unstable.new.self c.sort_unstable.ensures.sorted
