use Rattle.gaz_plain.proofs.Folds.{fold-append}
use Rattle.gaz_plain.proofs.laws.folds_append.Goals as goal

pub returns : goal.returns
returns c = fold-append
