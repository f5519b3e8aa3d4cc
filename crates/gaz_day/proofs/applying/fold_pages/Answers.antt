use Rattle.std.proofs.Common.{ap, subst}
use Rattle.gaz_outside.specs.Outside.{files_of}
use Rattle.gaz_page.specs.declared.page.Side.{Side}
use Rattle.gaz_pages.specs.Areas.{side_area}
use Rattle.gaz_pages.specs.declared.extent.Extent.{Extent}
use Rattle.gaz_pages.specs.Views.{held_view}
use Rattle.gaz_change.specs.Change.{fold_named, Folds}
use Rattle.gaz_day.proofs.applying.fold_pages.Goals as goal

-- the pages have the root that they had
pub returns-clause-folds : goal.returns-clause-folds
returns-clause-folds g c told gaz is =
    let new = c.fold_files.new.store in
    subst (λ (s : Side). Folds (files_of (g.F.Shelf.view c.fold_files.new.shelf)) (λ files. fold_named files c.args.names.now gaz) gaz (held_view (side_area s) new.pages.changed.now (g.T.Station.view new.pages.station.now)) new.root c.fold_files.result)
    (ap (λ (e : Extent). e.side) c.fold_files.ensures.keeps.1) (c.fold_files.ensures.folds told gaz is)
