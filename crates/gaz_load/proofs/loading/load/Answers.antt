use Rattle.std.proofs.Common.{refl}
use Rattle.gaz_plain.specs.Gazetteer.{Gazetteer}
use Rattle.gaz_plain.specs.Load.{Files, load}
use Rattle.gaz_install.proofs.Whole.{changes_as}
use Rattle.gaz_load.proofs.loading.load.Goals as goal

-- no file is found when all numbers are closed
pub returns-clause-changes : goal.returns-clause-changes
returns-clause-changes g c told first holds =
    let defined = λ (gaz : Gazetteer) (files : Files). load files c.args.date in
    changes_as defined defined first (g.F.Shelf.view c.open_and_load-result.new.shelf) (g.F.Shelf.view c.close_all.new.self)
    (g.T.Station.view c.args.station.now) (g.T.Station.view c.open_and_load-result.new.station) c.open_and_load-result.result
    (λ files. refl) c.close_all.ensures.same.files (c.open_and_load-result.ensures.changes told first holds)
