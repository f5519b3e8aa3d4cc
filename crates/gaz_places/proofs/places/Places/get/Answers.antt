use Rattle.gaz_places.specs.Places.{found_in, most_in}
use Rattle.gaz_places.proofs.Found.{found_held}
use Rattle.gaz_places.proofs.places.Places.get.Goals as goal

-- a place that is found is held, so there is one
pub returns-in-Some-clause-within : goal.returns-in-Some-clause-within
unfolding found_in most_in
returns-in-Some-clause-within c = (found_held c.args.self.now.links.items c.args.key c.in-Some.spot.place c.in-Some.ensures.found).2
