use Rattle.gaz_keys.proofs.KeysFit.{keys_fit}
use Rattle.gaz_keys.proofs.laws.keys_fit.Goals as goal

pub returns : goal.returns
returns c = keys_fit
