use Rattle.gaz_outside.specs.Station.{AnyIn}
use Rattle.gaz_outside.proofs.Runs.{confined_weaker}
use Rattle.gaz_redo.specs.Slots.{Scattered}
use Rattle.gaz_pages.proofs.Changing.{scattered_any}
use Rattle.std.proofs.lemmas.Result.{on_ok_weaker}
use Rattle.gaz_redo.proofs.LogForm.{homes_of}
use Rattle.gaz_pages.proofs.changed.Changed.finish.Goals as goal

-- images stand in areas that may have some
pub returns-clause-stable : goal.returns-clause-stable
returns-clause-stable g c =
    let self = c.args.self.now in
    on_ok_weaker c.write_in_place.result (λ stable told a touched. stable told a (homes_of self.images self.kept.in_order a touched) touched) c.write_in_place.ensures.stable

-- the images are of one area
pub returns-clause-confined : goal.returns-clause-confined
returns-clause-confined g c told area only =
    let view = g.T.Station.view in
    let images = c.args.self.now.images in
    confined_weaker (λ a. Scattered a images) (AnyIn area) (scattered_any area images only) (view c.args.station.now) (view c.write_in_place.new.station) (c.write_in_place.ensures.confined told)
