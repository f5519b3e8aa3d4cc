use Rattle.gaz_keys.proofs.Apart.{keys_tell_their_line}
use Rattle.gaz_keys.proofs.laws.keys_tell_their_line.Goals as goal

pub returns : goal.returns
returns c = keys_tell_their_line
