use Rattle.gaz_plain.proofs.Folds.{part-fold}
use Rattle.gaz_plain.proofs.laws.part_is_fold.Goals as goal

pub returns : goal.returns
returns c = part-fold
