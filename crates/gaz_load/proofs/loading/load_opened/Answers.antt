use Rattle.std.proofs.Common.{◌≡◌, inr, List, Ok, Err, IsTrue, sym, subst}
use Rattle.std.specs.Prelude.{IfSome}
use Rattle.gaz_num.specs.declared.words.FileName.{FileName}
use Rattle.gaz_outside.specs.Outside.{files_of}
use Rattle.gaz_page.specs.declared.page.Side.{Side}
use Rattle.gaz_pages.specs.Areas.{side_area}
use Rattle.gaz_pages.specs.Held.{root_of}
use Rattle.gaz_pages.specs.Views.{held_view}
use Rattle.gaz_plain.specs.Gazetteer.{Gazetteer, dated, empty}
use Rattle.gaz_plain.specs.Load.{Files, load_files}
use Rattle.gaz_rows.specs.Store.{IsStore}
use Rattle.gaz_change.specs.Change.{fold_named, Gives}
use Rattle.gaz_change.proofs.Changing.{weaker}
use Rattle.gaz_install.proofs.ByKind.{on_ok, if_err}
use Rattle.gaz_load.proofs.Stored.{fold_fits, fold_holds, load_ended, load_committed, of_err, ok_is}
use Rattle.gaz_load.proofs.loading.load_opened.Goals as goal

-- the lines weren't all stepped in
pub returns-in-Err-clause-changes : goal.returns-in-Err-clause-changes
returns-in-Err-clause-changes g c told first holds =
    let v0 = g.T.Station.view c.args.station.now in
    let v1 = g.T.Station.view c.fold_load.new.station in
    let shelf = g.F.Shelf.view c.fold_load.new.shelf in
    let date = c.args.date in
    let f = c.in-Err.ensures.folds told in
    load_ended (root_of c.args.mirror.now) v0 v1 (c.requires.fits told) (c.fold_load.ensures.reads.areas told) first holds (λ gaz files. fold_named files load_files (dated empty date)) shelf c.in-Err.fault
    (subst (λ (names : List FileName). IfSome (files_of shelf) (λ files. Gives f.next (fold_named files names (dated empty date)) (Err c.in-Err.fault))) c.files_of_load-names.ensures f.gives)

-- the mirror fits still
pub commit_load-requires-clause-fits : goal.commit_load-requires-clause-fits
commit_load-requires-clause-fits g c told_now =
    let v0 = g.T.Station.view c.args.station.now in
    let v1 = g.T.Station.view c.fold_load.new.station in
    let told = subst IsTrue c.fold_load.ensures.reads.counts.told told_now in
    fold_fits (root_of c.args.mirror.now) v0 v1 (c.requires.fits told) (c.fold_load.ensures.reads.areas told)

-- the commit was made, or it failed
pub returns-clause-changes : goal.returns-clause-changes
returns-clause-changes g c told first holds =
    let before = root_of c.args.mirror.now in
    let v0 = g.T.Station.view c.args.station.now in
    let v1 = g.T.Station.view c.fold_load.new.station in
    let v2 = g.T.Station.view c.commit_load.new.station in
    let shelf = g.F.Shelf.view c.fold_load.new.shelf in
    let date = c.args.date in
    let told_now = subst IsTrue (sym c.fold_load.ensures.reads.counts.told) told in
    let f = c.in-Ok.ensures.folds told in
    let result = c.commit_load.result in
    let reads = c.fold_load.ensures.reads.areas told in
    let store = subst (λ (s : Side). IsStore f.next (held_view (side_area s) c.fold_load.new.changed v1) c.in-Ok.root) (sym c.in-Ok.ensures.side) f.stands in
    let defined = λ (gaz : Gazetteer) (files : Files). fold_named files load_files (dated empty date) in
    let held = fold_holds before v0 v1 (c.requires.fits told) reads first holds defined shelf in
    load_committed before v0 v1 (c.requires.fits told) reads first holds defined shelf f.next v2 result
    (subst (λ (names : List FileName). IfSome (files_of shelf) (λ files. fold_named files names (dated empty date) ≡ Ok f.next)) c.files_of_load-names.ensures f.gives)
    (c.commit_load.ensures.moments told_now first f.next held store)
    (on_ok result _ _ (λ h. h told_now f.next store) c.commit_load.ensures.loaded)
    c.commit_load.ensures.of_pages
    (if_err result _ _ (λ fault h other. h other told_now first held) c.commit_load.ensures.still)

-- the station failed behind the fold
pub returns-clause-stopped : goal.returns-clause-stopped
returns-clause-stopped g c =
    let shelf = g.F.Shelf.view c.fold_load.new.shelf in
    of_err c.commit_load.result _ (λ fault is. inr (λ told.
    let f = c.in-Ok.ensures.folds told in
    weaker (files_of shelf) (λ files h. ok_is _ f.next h)
    (subst (λ (names : List FileName). IfSome (files_of shelf) (λ files. fold_named files names (dated empty c.args.date) ≡ Ok f.next)) c.files_of_load-names.ensures f.gives)))
