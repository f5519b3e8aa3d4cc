use Rattle.std.proofs.Common.{sym, ◌∙◌}
use Rattle.gaz_places.specs.Places.{found_in, most_in}
use Rattle.gaz_places.proofs.Found.{found_held}
use Rattle.gaz_places.proofs.laws.places_and_keys.Goals as goal

-- the key that the place is held for
pub returns-clause-one : goal.returns-clause-one
unfolding found_in
returns-clause-one c places a b place is too = sym (found_held places.links.items a place is).1 ∙ (found_held places.links.items b place too).1

pub returns-clause-within : goal.returns-clause-within
unfolding found_in most_in
returns-clause-within c places key place is = (found_held places.links.items key place is).2
