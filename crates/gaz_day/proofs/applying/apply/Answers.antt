use Rattle.std.proofs.Common.{◌≡◌, inl, inr, ⊎_elim, ◌∙◌, Ok, sym, subst}
use Rattle.std.specs.Prelude.{IfSome, IsOk}
use Rattle.gaz_outside.specs.Outside.{files_of}
use Rattle.gaz_pages.specs.Held.{root_of}
use Rattle.gaz_plain.specs.Gazetteer.{dated}
use Rattle.gaz_plain.specs.Load.{day, day_files, in_sequence}
use Rattle.gaz_change.specs.Change.{fold_named}
use Rattle.gaz_change.proofs.Named.{day_is}
use Rattle.gaz_change.proofs.Changing.{weaker}
use Rattle.gaz_install.proofs.ByKind.{if_err}
use Rattle.gaz_install.proofs.Named.{as_it_reads, dated_by}
use Rattle.gaz_install.proofs.Whole.{unmoved, changes_as}
use Rattle.gaz_day.proofs.Day.{refused_by_date}
use Rattle.gaz_day.proofs.applying.apply.Goals as goal

-- the date isn't the next one
pub returns-in-Err-clause-changes : goal.returns-in-Err-clause-changes
returns-in-Err-clause-changes g c told first holds =
    let v0 = g.T.Station.view c.args.station.now in
    let fits = c.requires.fits told in
    let mirrors = as_it_reads v0 first (λ a. g.met.T.Station.may_stay c.args.station.now a told) holds in
    let same = dated_by v0 (root_of c.args.mirror.now) first fits mirrors ∙ sym c.date.ensures in
    unmoved (root_of c.args.mirror.now) v0 fits (λ o left. g.met.T.Station.only_now c.args.station.now o told left) (λ gaz files. day gaz files c.args.date) (g.F.Shelf.view c.args.shelf.now) first holds c.in-Err.fault
    (refused_by_date first c.date.result c.args.date (files_of (g.F.Shelf.view c.args.shelf.now)) c.in-Err.fault same c.in-Err.ensures.err)

-- it is
pub returns-clause-changes : goal.returns-clause-changes
returns-clause-changes g c told first holds =
    let v0 = g.T.Station.view c.args.station.now in
    let fits = c.requires.fits told in
    let mirrors = as_it_reads v0 first (λ a. g.met.T.Station.may_stay c.args.station.now a told) holds in
    let same = dated_by v0 (root_of c.args.mirror.now) first fits mirrors ∙ sym c.date.ensures in
    changes_as (λ gaz files. fold_named files (day_files c.args.date) (dated gaz c.args.date)) (λ gaz files. day gaz files c.args.date) first (g.F.Shelf.view c.open_and_apply-result.new.shelf) (g.F.Shelf.view c.close_all.new.self)
    v0 (g.T.Station.view c.open_and_apply-result.new.station) c.open_and_apply-result.result
    (λ files. day_is first files c.args.date (subst (λ d. in_sequence d c.args.date ≡ Ok c.args.date) (sym same) c.in-Ok.ensures.ok)) c.close_all.ensures.same.files (c.open_and_apply-result.ensures.changes told first holds)

pub returns-clause-stopped : goal.returns-clause-stopped
returns-clause-stopped g c =
    let v0 = g.T.Station.view c.args.station.now in
    let mid = g.F.Shelf.view c.open_and_apply-result.new.shelf in
    if_err c.open_and_apply-result.result _ _
    (λ fault stops is. ⊎_elim (λ reads. inl reads)
    (λ well. inr (λ told first holds.
    let mirrors = as_it_reads v0 first (λ a. g.met.T.Station.may_stay c.args.station.now a told) holds in
    let same = dated_by v0 (root_of c.args.mirror.now) first (c.requires.fits told) mirrors ∙ sym c.date.ensures in
    subst (λ known. IfSome known (λ files. IsOk (day first files c.args.date))) (sym c.close_all.ensures.same.files)
    (weaker (files_of mid) (λ files h. subst (λ r. IsOk r) (sym (day_is first files c.args.date (subst (λ d. in_sequence d c.args.date ≡ Ok c.args.date) (sym same) c.in-Ok.ensures.ok))) h) (well told first holds))))
    (stops is))
    c.open_and_apply-result.ensures.stopped
