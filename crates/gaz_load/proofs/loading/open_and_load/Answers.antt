use Rattle.std.proofs.Common.{◌≡◌, inl, inr, ⊎_elim, List, Err, sym, subst, refl}
use Rattle.std.specs.Prelude.{IfSome, IsOk}
use Rattle.gaz_num.specs.declared.words.FileName.{FileName}
use Rattle.gaz_outside.specs.Outside.{files_of}
use Rattle.gaz_pages.specs.Held.{root_of}
use Rattle.gaz_plain.specs.Gazetteer.{dated, empty}
use Rattle.gaz_plain.specs.Load.{load, load_files}
use Rattle.gaz_change.specs.Change.{fold_named, refusal_by}
use Rattle.gaz_change.proofs.Changing.{weaker}
use Rattle.gaz_change.proofs.Named.{load_is, unfound_gives}
use Rattle.gaz_install.proofs.ByKind.{if_err}
use Rattle.gaz_install.proofs.Whole.{changes_as, unmoved}
use Rattle.gaz_load.proofs.loading.open_and_load.Goals as goal

-- a file is absent, or the shelf failed
pub returns-in-Err-clause-changes : goal.returns-in-Err-clause-changes
returns-in-Err-clause-changes g c told first holds =
    let date = c.args.date in
    let names = c.files_of_load-names.result in
    let fault = c.in-Err.fault in
    let v0 = g.T.Station.view c.args.station.now in
    let shelf = g.F.Shelf.view c.open_files.new.shelf in
    changes_as (λ gaz files. fold_named files load_files (dated empty date)) (λ gaz files. load files date) first shelf shelf v0 v0 (Err fault) (λ files. load_is files date) refl
    (unmoved (root_of c.args.mirror.now) v0 (c.requires.fits told) (λ o left. g.met.T.Station.only_now c.args.station.now o told left)
    (λ gaz files. fold_named files load_files (dated empty date)) shelf first holds fault
    (weaker (files_of shelf)
    (λ files h. subst (λ (ns : List FileName). IfSome (refusal_by fault) (λ refusal. fold_named files ns (dated empty date) ≡ Err refusal)) c.files_of_load-names.ensures (unfound_gives first names (dated empty date) files fault h))
    c.in-Err.ensures.found))

pub returns-clause-changes : goal.returns-clause-changes
returns-clause-changes g c told first holds =
    let date = c.args.date in
    let shelf = g.F.Shelf.view c.load_opened.new.shelf in
    changes_as (λ gaz files. fold_named files load_files (dated empty date)) (λ gaz files. load files date) first shelf shelf
    (g.T.Station.view c.args.station.now) (g.T.Station.view c.load_opened.new.station) c.load_opened.result (λ files. load_is files date) refl
    (c.load_opened.ensures.changes told first holds)

pub returns-clause-stopped : goal.returns-clause-stopped
returns-clause-stopped g c =
    let shelf = g.F.Shelf.view c.load_opened.new.shelf in
    if_err c.load_opened.result _ _
    (λ fault stops is. ⊎_elim (λ reads. inl reads) (λ well. inr (λ told. weaker (files_of shelf) (λ files h. subst (λ r. IsOk r) (sym (load_is files c.args.date)) h) (well told))) (stops is))
    c.load_opened.ensures.stopped
