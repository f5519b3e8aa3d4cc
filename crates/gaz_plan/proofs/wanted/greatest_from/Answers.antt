use Rattle.std.proofs.Common.{◌++◌, ap₂}
use Rattle.gaz_kin.proofs.Bytes.{drop_same}
use Rattle.gaz_plan.proofs.wanted.greatest_from.Goals as goal

pub returns : goal.returns
returns c = ap₂ (λ front rest. front ++ rest) c.copy_from_slice.ensures.after (drop_same c.args.len 22)
