use Rattle.std.proofs.Common.{refl}
use Rattle.gaz_pages.specs.Areas.{side_area}
use Rattle.gaz_pages.proofs.day_pages.DayPagesPages.take.Goals as goal

-- the station is only read
pub returns-clause-keeps : goal.returns-clause-keeps
returns-clause-keeps g c =
    let extent = c.args.self.now.extent in
    let file = (g.T.Station.view c.args.self.now.station.now).bytes (side_area extent.side) in
    (refl, refl, refl, λ told. c.take.ensures.still extent.fresh file, c.take.ensures.reads)
