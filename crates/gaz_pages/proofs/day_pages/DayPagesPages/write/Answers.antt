use Rattle.std.proofs.Common.{refl, subst}
use Rattle.gaz_outside.specs.declared.station.Area.{Area}
use Rattle.gaz_pages.specs.Areas.{side_area}
use Rattle.gaz_pages.specs.Views.{StillChanged}
use Rattle.gaz_pages.specs.Reads.{only_reads_start}
use Rattle.gaz_pages.proofs.day_pages.DayPagesPages.write.Goals as goal

-- the station is left as it was
pub returns-clause-keeps : goal.returns-clause-keeps
returns-clause-keeps g c =
    let view = g.T.Station.view in
    let station = c.args.self.now.station.now in
    let file = (view station).bytes (side_area c.args.self.now.extent.side) in (
      refl,
      refl,
      refl,
      λ told. subst (λ (a : Area). StillChanged a c.args.self.now.extent.fresh c.args.self.now.changed.now c.put.new.self file) c.area_of-area.ensures (c.put.ensures.still c.args.self.now.extent.fresh file),
      only_reads_start (view station) (λ told o left. g.met.T.Station.only_now station o told left),
    )
