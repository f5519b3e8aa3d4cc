use Rattle.std.proofs.Common.{arith}
use Rattle.gaz_places.specs.Places.{most_in}
use Rattle.gaz_places.proofs.places.Places.most.Goals as goal

pub returns : goal.returns
unfolding most_in
returns c = omega (arith, c.len.ensures)
