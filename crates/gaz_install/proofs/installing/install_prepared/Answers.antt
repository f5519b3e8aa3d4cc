use Rattle.std.proofs.Common.{◌≡◌, List, length, sym, ap, subst, arith}
use Rattle.gaz_outside.specs.Station.{LeavesOnly}
use Rattle.gaz_redo.specs.Slots.{Slot, LeaveNoGap}
use Rattle.gaz_redo.specs.Content.{IsReady, IsOldOrNew, IsCommitted}
use Rattle.gaz_pages.specs.Fits.{Fits}
use Rattle.gaz_pages.specs.Held.{root_of}
use Rattle.gaz_install.proofs.Moments.{is_ready, moments, holds_next, fits_then}
use Rattle.gaz_install.proofs.installing.install_prepared.Goals as goal

-- the images are those that were changed, with the root page
pub commit-requires : goal.commit-requires
commit-requires g c told =
    let v0 = g.T.Station.view c.args.station.now in
    let p = c.requires.pages told in
    subst (λ (ss : List Slot). IsReady ss v0) (sym p.all_are)
    (is_ready c.args.root p.changed c.requires.sayable (root_of c.args.mirror.now) v0 (c.requires.fits told) p.may)

pub returns-in-Ok-clause-moments : goal.returns-in-Ok-clause-moments
returns-in-Ok-clause-moments g c told first next holds is =
    let v0 = g.T.Station.view c.args.station.now in
    let v1 = g.T.Station.view c.commit.new.station in
    let p = is.prepared in
    moments c.args.root p.changed c.requires.sayable (root_of c.args.mirror.now) v0 (c.requires.fits told) p.may v1
    (λ no_gap. subst (λ (ss : List Slot). LeavesOnly v0 v1 (IsOldOrNew ss v0)) p.all_are
    (c.commit.ensures.any_moment told (subst (λ (ss : List Slot). LeaveNoGap ss v0.bytes) (sym p.all_are) no_gap))) first next holds is.stands

pub returns-in-Err-Failed-clause-moments : goal.returns-in-Err-Failed-clause-moments
returns-in-Err-Failed-clause-moments g c told first next holds is =
    let v0 = g.T.Station.view c.args.station.now in
    let v1 = g.T.Station.view c.commit.new.station in
    let p = is.prepared in
    moments c.args.root p.changed c.requires.sayable (root_of c.args.mirror.now) v0 (c.requires.fits told) p.may v1
    (λ no_gap. subst (λ (ss : List Slot). LeavesOnly v0 v1 (IsOldOrNew ss v0)) p.all_are
    (c.commit.ensures.any_moment told (subst (λ (ss : List Slot). LeaveNoGap ss v0.bytes) (sym p.all_are) no_gap))) first next holds is.stands

pub returns-in-Ok-clause-installed : goal.returns-in-Ok-clause-installed
returns-in-Ok-clause-installed g c told next is =
    let v0 = g.T.Station.view c.args.station.now in
    let v1 = g.T.Station.view c.commit.new.station in
    let p = is.prepared in
    holds_next c.args.root p.changed c.requires.sayable (root_of c.args.mirror.now) v0 (c.requires.fits told) p.may v1
    (subst (λ (ss : List Slot). IsCommitted ss v0 v1) p.all_are (c.in-Ok.ensures.committed told)) next is.stands

pub returns-in-Ok-clause-fits : goal.returns-in-Ok-clause-fits
returns-in-Ok-clause-fits g c told =
    let v0 = g.T.Station.view c.args.station.now in
    let v1 = g.T.Station.view c.commit.new.station in
    let p = c.requires.pages told in
    subst (λ o. Fits o v1) (sym c.adopt.ensures)
    (fits_then c.args.root p.changed c.requires.sayable (root_of c.args.mirror.now) v0 (c.requires.fits told) p.may v1
    (subst (λ (ss : List Slot). IsCommitted ss v0 v1) p.all_are (c.in-Ok.ensures.committed told)))
