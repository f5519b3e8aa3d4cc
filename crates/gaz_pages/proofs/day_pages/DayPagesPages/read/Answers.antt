use Rattle.std.proofs.Common.{◌≡◌, refl, subst}
use Rattle.gaz_outside.specs.declared.station.Area.{Area}
use Rattle.gaz_pages.specs.Areas.{side_area}
use Rattle.gaz_pages.specs.Laid.{imaged}
use Rattle.gaz_pages.specs.Views.{all_images}
use Rattle.gaz_pages.specs.Reads.{only_reads_start}
use Rattle.gaz_pages.proofs.Reading.{reads_none}
use Rattle.gaz_pages.proofs.day_pages.DayPagesPages.read.Goals as goal

-- a page that was changed is in memory, and nothing is read
pub returns-then-has : goal.returns-then-has
returns-then-has g c =
    let view = g.T.Station.view in
    let station = c.args.self.now.station.now in
    let changed = c.args.self.now.changed.now in
    let file = (view station).bytes (side_area c.args.self.now.extent.side) in (
      (refl, λ _. tt, ((refl, refl, refl, λ told are. are, only_reads_start (view station) (λ told o left. g.met.T.Station.only_now station o told left)), reads_none _ _)),
      record {
        size = c.image.ensures.size;
        bytes = λ told. subst (λ (a : Area). c.image.result.now ≡ imaged a (all_images changed) file c.args.page) c.area_of.ensures (c.image.ensures.page file);
        failed = tt;
        after_borrow = tt;
      },
    )
