use Rattle.std.proofs.Common.{inr, ◌≡◌, ◌≤◌, ◌*◌, ◌++◌, List, length, Ok, Option, IsTrue, sym, ap, subst, arith}
use Rattle.std.specs.Prelude.{IfSome, IfErr, Result, Err}
use Rattle.std.proofs.lemmas.List.{length-append}
use Rattle.gaz_num.specs.declared.words.FileName.{FileName}
use Rattle.gaz_outside.specs.Outside.{files_of}
use Rattle.gaz_page.specs.declared.tree_root.Root.{Root}
use Rattle.gaz_page.specs.TreeRoot.{FitsRoot}
use Rattle.gaz_redo.specs.Slots.{Slot}
use Rattle.gaz_pages.specs.Fits.{Fits}
use Rattle.gaz_plain.specs.Gazetteer.{Gazetteer}
use Rattle.gaz_rows.specs.declared.fault.ChangeFault.{ChangeFault}
use Rattle.gaz_change.specs.Change.{AreThere, lines_of}
use Rattle.gaz_change.proofs.Changing.{weaker}
use Rattle.gaz_install.specs.Next.{MayCommit, IsNext, IsInstallFault}
use Rattle.gaz_install.proofs.ByKind.{files_dateless, named_ends, after_outside, on_ok, if_err}
use Rattle.gaz_day.proofs.Day.{fits_now, may_commit, day_ended, day_installed, day_makes, installs_dateless, still_held, still_fits, fold_is_sound, install_is_sound}
use Rattle.gaz_day.proofs.applying.apply_opened.Goals as goal

-- the names are those of the files
pub fold_day-requires-clause-there : goal.fold_day-requires-clause-there
fold_day-requires-clause-there g c =
    subst (λ (names : List FileName). IfSome (files_of (g.F.Shelf.view c.args.shelf.now)) (λ files. AreThere files names)) (sym c.files_of_day-names.ensures) c.requires.there

-- the lines weren't all stepped in
pub returns-in-Err-clause-changes : goal.returns-in-Err-clause-changes
returns-in-Err-clause-changes g c told first holds =
    let v0 = g.T.Station.view c.args.station.now in
    let v1 = g.T.Station.view c.fold_day.new.station in
    let fits = subst (λ (o : Option Root). Fits o v0) c.requires.root (c.requires.fits told) in
    day_ended c.args.root c.args.date v0 v1 c.fold_day.new.changed c.fold_day.new.now fits (c.fold_day.ensures.reads.areas told) (c.fold_day.ensures.changed told) c.fold_day.ensures.root_now
    first holds (λ a. g.met.T.Station.may_stay c.args.station.now a told) (g.F.Shelf.view c.fold_day.new.shelf) c.files_of_day-names.result c.files_of_day-names.ensures c.in-Err.fault
    (λ gaz stands. c.in-Err.ensures.folds told gaz stands)

pub returns-in-Err-clause-fits : goal.returns-in-Err-clause-fits
returns-in-Err-clause-fits g c told outside =
    let v0 = g.T.Station.view c.args.station.now in
    let v1 = g.T.Station.view c.fold_day.new.station in
    let fits = subst (λ (o : Option Root). Fits o v0) c.requires.root (c.requires.fits told) in
    subst (λ (o : Option Root). Fits o v1) (sym c.requires.root)
    (fits_now c.args.root c.args.date v0 v1 c.fold_day.new.changed c.fold_day.new.now fits (c.fold_day.ensures.reads.areas told) (c.fold_day.ensures.changed told) c.fold_day.ensures.root_now)

pub returns-in-Err-clause-damaged : goal.returns-in-Err-clause-damaged
returns-in-Err-clause-damaged g c told gaz mirrors =
    let v0 = g.T.Station.view c.args.station.now in
    let v1 = g.T.Station.view c.fold_day.new.station in
    let fits = subst (λ (o : Option Root). Fits o v0) c.requires.root (c.requires.fits told) in
    fold_is_sound c.args.root c.args.date v0 v1 c.fold_day.new.changed c.fold_day.new.now fits (c.fold_day.ensures.reads.areas told) (c.fold_day.ensures.changed told) c.fold_day.ensures.root_now
    c.files_of_day-names.result (g.F.Shelf.view c.fold_day.new.shelf) _ (λ gaz stands. c.in-Err.ensures.folds told gaz stands) gaz mirrors

pub returns-in-Err-clause-dateless : goal.returns-in-Err-clause-dateless
returns-in-Err-clause-dateless g c = files_dateless c.files_of_day-names.result c.in-Err.fault c.in-Err.ensures.at

-- the changed pages may be committed with the root after the lines
pub install-requires-clause-fits : goal.install-requires-clause-fits
install-requires-clause-fits g c told_now =
    let v0 = g.T.Station.view c.args.station.now in
    let v1 = g.T.Station.view c.fold_day.new.station in
    let told = subst IsTrue c.fold_day.ensures.reads.counts.told told_now in
    let fits = subst (λ (o : Option Root). Fits o v0) c.requires.root (c.requires.fits told) in
    subst (λ (o : Option Root). Fits o v1) (sym c.requires.root)
    (fits_now c.args.root c.args.date v0 v1 c.fold_day.new.changed c.fold_day.new.now fits (c.fold_day.ensures.reads.areas told) (c.fold_day.ensures.changed told) c.fold_day.ensures.root_now)

pub install-requires-clause-pages : goal.install-requires-clause-pages
install-requires-clause-pages g c told_now =
    let v0 = g.T.Station.view c.args.station.now in
    let v1 = g.T.Station.view c.fold_day.new.station in
    let told = subst IsTrue c.fold_day.ensures.reads.counts.told told_now in
    let fits = subst (λ (o : Option Root). Fits o v0) c.requires.root (c.requires.fits told) in
    let now = c.fold_day.new.now in
    let changed = c.fold_day.new.changed in
    let root_is = named_ends now changed.fresh changed.free c.ends-fresh.result.0 c.ends-fresh.result.1 c.ends-fresh.ensures.fresh c.ends-fresh.ensures.free in
    subst (λ (r : Root). MayCommit r c.into_images-images.result v1) root_is
    (subst (λ (ss : List Slot). MayCommit (record now { fresh = changed.fresh; free = changed.free }) ss v1) (sym c.into_images-images.ensures.images)
    (may_commit c.args.root c.args.date v0 v1 changed now fits (c.fold_day.ensures.reads.areas told) (c.fold_day.ensures.changed told) c.fold_day.ensures.root_now))

-- the commit was made, or it failed
pub returns-clause-changes : goal.returns-clause-changes
returns-clause-changes g c told first holds =
    let v0 = g.T.Station.view c.args.station.now in
    let v1 = g.T.Station.view c.fold_day.new.station in
    let v2 = g.T.Station.view c.install.new.station in
    let told_now = subst IsTrue (sym c.fold_day.ensures.reads.counts.told) told in
    let fits = subst (λ (o : Option Root). Fits o v0) c.requires.root (c.requires.fits told) in
    let now = c.fold_day.new.now in
    let changed = c.fold_day.new.changed in
    let result = c.install.result in
    let root_is = named_ends now changed.fresh changed.free c.ends-fresh.result.0 c.ends-fresh.result.1 c.ends-fresh.ensures.fresh c.ends-fresh.ensures.free in
    let moved : (next : Gazetteer) → IsNext next (record now { fresh = changed.fresh; free = changed.free }) changed.images v1 → IsNext next (record now { fresh = c.ends-fresh.result.0; free = c.ends-fresh.result.1 }) c.into_images-images.result v1 = λ next is. subst (λ (r : Root). IsNext next r c.into_images-images.result v1) root_is
    (subst (λ (ss : List Slot). IsNext next (record now { fresh = changed.fresh; free = changed.free }) ss v1) (sym c.into_images-images.ensures.images) is) in
    day_installed c.args.root c.args.date v0 v1 changed now fits (c.fold_day.ensures.reads.areas told) (c.fold_day.ensures.changed told) c.fold_day.ensures.root_now
    first holds (λ a. g.met.T.Station.may_stay c.args.station.now a told) (g.F.Shelf.view c.fold_day.new.shelf) c.files_of_day-names.result c.files_of_day-names.ensures
    (λ gaz stands. c.in-Ok.ensures.folds told gaz stands) v2 result
    (λ old next h is. c.install.ensures.moments told_now old next h (moved next is))
    (on_ok result _ _ (λ f next is. f told_now next (moved next is)) c.install.ensures.installed)
    (still_held g.T.Station.view c.fold_day.new.station c.install.new.station first (record now { fresh = c.ends-fresh.result.0; free = c.ends-fresh.result.1 }) v1.faults v2.faults result c.install.ensures.untouched c.install.ensures.cause)

pub returns-clause-fits : goal.returns-clause-fits
returns-clause-fits g c told outside =
    let v0 = g.T.Station.view c.args.station.now in
    let v1 = g.T.Station.view c.fold_day.new.station in
    let told_now = subst IsTrue (sym c.fold_day.ensures.reads.counts.told) told in
    let fits = subst (λ (o : Option Root). Fits o v0) c.requires.root (c.requires.fits told) in
    let result = c.install.result in
    let before = subst (λ (o : Option Root). Fits o v1) (sym c.requires.root)
    (fits_now c.args.root c.args.date v0 v1 c.fold_day.new.changed c.fold_day.new.now fits (c.fold_day.ensures.reads.areas told) (c.fold_day.ensures.changed told) c.fold_day.ensures.root_now) in
    after_outside result _ outside (on_ok result _ _ (λ f. f told_now) c.install.ensures.fits)
    (still_fits g.T.Station.view c.fold_day.new.station c.install.new.station c.args.mirror.now c.install.new.mirror result c.install.ensures.untouched c.install.ensures.kept before)

pub returns-clause-damaged : goal.returns-clause-damaged
returns-clause-damaged g c =
    let v0 = g.T.Station.view c.args.station.now in
    let v1 = g.T.Station.view c.fold_day.new.station in
    let now = c.fold_day.new.now in
    let changed = c.fold_day.new.changed in
    if_err c.install.result (IsInstallFault (record now { fresh = c.ends-fresh.result.0; free = c.ends-fresh.result.1 }) v1.faults (g.T.Station.view c.install.new.station).faults) _
    (λ fault is told gaz mirrors.
    let fits = subst (λ (o : Option Root). Fits o v0) c.requires.root (c.requires.fits told) in
    let root_is = named_ends now changed.fresh changed.free c.ends-fresh.result.0 c.ends-fresh.result.1 c.ends-fresh.ensures.fresh c.ends-fresh.ensures.free in
    install_is_sound c.args.root c.args.date v0 v1 changed now fits (c.fold_day.ensures.reads.areas told) (c.fold_day.ensures.changed told) c.fold_day.ensures.root_now
    c.files_of_day-names.result (g.F.Shelf.view c.fold_day.new.shelf) (Ok tt) (λ gaz stands. c.in-Ok.ensures.folds told gaz stands) gaz mirrors v1.faults (g.T.Station.view c.install.new.station).faults fault
    (subst (λ (r : Root). IsInstallFault r v1.faults (g.T.Station.view c.install.new.station).faults fault) (sym root_is) is))
    c.install.ensures.cause

pub returns-clause-dateless : goal.returns-clause-dateless
returns-clause-dateless g c =
    installs_dateless (record c.fold_day.new.now { fresh = c.ends-fresh.result.0; free = c.ends-fresh.result.1 }) _ _ c.install.result c.install.ensures.cause

-- three writes for each changed page, and six more
pub returns-clause-writes : goal.returns-clause-writes
returns-clause-writes g c =
    let known = files_of (g.F.Shelf.view c.fold_day.new.shelf) in
    let changed = c.fold_day.new.changed in
    let root_fits = subst (λ (o : Option Root). IfSome o FitsRoot) c.requires.root c.args.mirror.now.root_fits in
    let images_are : length c.into_images-images.result ≡ length changed.images = ap length c.into_images-images.ensures.images in
    let all = length-append changed.images changed.past in
    let same = c.fold_day.ensures.reads.writes in
    let more = c.install.ensures.writes in
    weaker known (λ files few.
    let by_lines = subst (λ (names : List FileName). length (changed.images ++ changed.past) ≤ 320 * lines_of files names) c.files_of_day-names.ensures few in
    omega (arith, by_lines, all, images_are, same, more))
    (c.in-Ok.ensures.few root_fits.most)

-- of each fault
of_err : (r : Result Unit ChangeFault) (P : ChangeFault → Type 0) → ((fault : ChangeFault) → P fault) → IfErr r P
of_err (Ok done) P each = tt
of_err (Err fault) P each = each fault

-- the station failed behind the fold
pub returns-clause-stopped : goal.returns-clause-stopped
returns-clause-stopped g c =
    of_err c.install.result _ (λ fault is. inr (λ told first holds.
    let v0 = g.T.Station.view c.args.station.now in
    let v1 = g.T.Station.view c.fold_day.new.station in
    let fits = subst (λ (o : Option Root). Fits o v0) c.requires.root (c.requires.fits told) in
    day_makes c.args.root c.args.date v0 v1 c.fold_day.new.changed c.fold_day.new.now fits (c.fold_day.ensures.reads.areas told) (c.fold_day.ensures.changed told) c.fold_day.ensures.root_now
    first holds (λ a. g.met.T.Station.may_stay c.args.station.now a told) (g.F.Shelf.view c.fold_day.new.shelf) c.files_of_day-names.result c.files_of_day-names.ensures
    (λ gaz stands. c.in-Ok.ensures.folds told gaz stands)))
