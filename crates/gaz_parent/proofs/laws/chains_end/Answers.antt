use Rattle.gaz_parent.proofs.Chains.{chains_end}
use Rattle.gaz_parent.proofs.laws.chains_end.Goals as goal

pub returns : goal.returns
returns c = chains_end
