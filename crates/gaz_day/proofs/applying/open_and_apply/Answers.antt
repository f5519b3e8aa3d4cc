use Rattle.std.proofs.Common.{◌≡◌, List, Err, subst}
use Rattle.std.specs.Prelude.{IfSome}
use Rattle.gaz_num.specs.declared.words.FileName.{FileName}
use Rattle.gaz_outside.specs.Outside.{files_of}
use Rattle.gaz_pages.specs.Held.{root_of}
use Rattle.gaz_plain.specs.Gazetteer.{dated}
use Rattle.gaz_plain.specs.Load.{day_files}
use Rattle.gaz_change.specs.Change.{fold_named, refusal_by, AreThere}
use Rattle.gaz_change.proofs.Changing.{weaker}
use Rattle.gaz_change.proofs.Named.{unfound_gives}
use Rattle.gaz_install.proofs.Whole.{unmoved}
use Rattle.gaz_day.proofs.applying.open_and_apply.Goals as goal

-- a file is absent, or the shelf failed
pub returns-in-Err-clause-changes : goal.returns-in-Err-clause-changes
returns-in-Err-clause-changes g c told first holds =
    let date = c.args.date in
    let names = c.files_of_day-names.result in
    let fault = c.in-Err.fault in
    unmoved (root_of c.args.mirror.now) (g.T.Station.view c.args.station.now) (c.requires.fits told) (λ o left. g.met.T.Station.only_now c.args.station.now o told left)
    (λ gaz files. fold_named files (day_files date) (dated gaz date)) (g.F.Shelf.view c.open_files.new.shelf) first holds fault
    (weaker (files_of (g.F.Shelf.view c.open_files.new.shelf))
    (λ files h. subst (λ (ns : List FileName). IfSome (refusal_by fault) (λ refusal. fold_named files ns (dated first date) ≡ Err refusal)) c.files_of_day-names.ensures (unfound_gives first names (dated first date) files fault h))
    c.in-Err.ensures.found)

pub apply_opened-requires-clause-there : goal.apply_opened-requires-clause-there
apply_opened-requires-clause-there g c =
    weaker (files_of (g.F.Shelf.view c.open_files.new.shelf)) (λ files there. subst (λ (names : List FileName). AreThere files names) c.files_of_day-names.ensures there) c.in-Ok.ensures.found
