use Rattle.gaz_plain.proofs.Kept.{day_once}
use Rattle.gaz_plain.proofs.laws.day_twice.Goals as goal

pub returns : goal.returns
returns c = day_once
