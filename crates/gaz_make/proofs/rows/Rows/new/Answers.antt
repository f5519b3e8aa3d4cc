use Rattle.std.proofs.Common.{arith}
use Rattle.gaz_make.proofs.Draws.{first_drawn}
use Rattle.gaz_make.proofs.rows.Rows.new.Goals as goal

pub invariant_of-result : goal.invariant_of-result
invariant_of-result c = record { drawn = first_drawn c.args.start; within = omega arith }
