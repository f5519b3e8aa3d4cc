use Rattle.std.proofs.Common.{refl}
use Rattle.gaz_pages.specs.Reads.{only_reads_start}
use Rattle.gaz_pages.proofs.live_pages.LivePagesPages.take.Goals as goal

-- the station is left as it was
pub returns-clause-keeps : goal.returns-clause-keeps
returns-clause-keeps g c =
    let station = c.args.self.now.station.now in
    (refl, refl, only_reads_start (g.T.Station.view station) (λ told o left. g.met.T.Station.only_now station o told left))
