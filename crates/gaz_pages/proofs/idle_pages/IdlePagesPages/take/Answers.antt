use Rattle.std.proofs.Common.{refl}
use Rattle.gaz_pages.specs.Areas.{side_area}
use Rattle.gaz_pages.proofs.idle_pages.IdlePagesPages.take.Goals as goal

-- the station is only read
pub returns-clause-keeps : goal.returns-clause-keeps
returns-clause-keeps g c =
    let file = (g.T.Station.view c.args.self.now.station.now).bytes (side_area c.args.self.now.side) in
    (refl, refl, refl, λ told. c.take.ensures.still 1 file, c.take.ensures.reads)
