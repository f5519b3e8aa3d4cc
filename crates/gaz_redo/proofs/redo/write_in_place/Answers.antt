use Rattle.std.proofs.Common.{List, subst}
use Rattle.gaz_outside.specs.Station.{Confined}
use Rattle.gaz_redo.specs.Slots.{Slot, Scattered}
use Rattle.gaz_redo.proofs.redo.write_in_place.Goals as goal

-- the slots of the list are the images
pub returns-clause-confined : goal.returns-clause-confined
returns-clause-confined g c = λ told.
    subst (λ (ss : List Slot). Confined (λ a. Scattered a ss) (g.T.Station.view c.args.station.now) (g.T.Station.view c.place_images.new.station)) c.as_slice.ensures.all (c.place_images.ensures.confined told)
