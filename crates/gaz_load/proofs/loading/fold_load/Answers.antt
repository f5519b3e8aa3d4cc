use Rattle.std.proofs.Common.{◌≡◌, ◌∙◌, IsTrue, sym, ap, subst, rules}
use Rattle.gaz_outside.specs.Outside.{files_of}
use Rattle.gaz_pages.specs.Areas.{side_area}
use Rattle.gaz_pages.specs.Keeps.{OnlyReads}
use Rattle.gaz_pages.specs.Reads.{only_reads_on}
use Rattle.gaz_plain.specs.Gazetteer.{dated, empty}
use Rattle.gaz_plain.specs.Load.{Files}
use Rattle.gaz_change.specs.Change.{fold_named}
use Rattle.gaz_load.proofs.Stored.{pages_refused}
use Rattle.gaz_load.proofs.Moved.{folds_ok, folds_err, view_as, store_as, laid_through}
use Rattle.gaz_load.proofs.loading.fold_load.Goals as goal

-- the store wasn't begun
pub returns-in-Err-clause-folds : goal.returns-in-Err-clause-folds
returns-in-Err-clause-folds g c told =
    let view = g.T.Station.view in
    pages_refused _ _ (dated empty c.args.date) _ c.in-Err.fault c.in-Err.ensures.of_pages
    (c.in-Err.ensures.sound (subst (λ s. IsTrue (view s).is_told) (sym c.new-pages.ensures.station_now) told))

-- the lines were stepped in
pub returns-in-Ok-fold_pages-clause-reads : goal.returns-in-Ok-fold_pages-clause-reads
returns-in-Ok-fold_pages-clause-reads g c =
    let view = g.T.Station.view in
    let old = c.new-pages.result in
    let mid = c.empty_pages.new.pages in
    let over = c.over-store.result in
    let new = c.fold_pages.new.store in
    let pages_are = c.over-store.ensures.pages in
    let first : OnlyReads (view c.args.station.now) (view mid.station.now) = subst (λ s. OnlyReads (view s) (view mid.station.now)) c.new-pages.ensures.station_now c.empty_pages.ensures.reads in
    let second : OnlyReads (view mid.station.now) (view new.pages.station.now) = subst (λ p. OnlyReads (view p.station.now) (view new.pages.station.now)) pages_are c.fold_pages.ensures.reads in
    let station_end : c.station-in-Ok-fold_pages-1.given.0 ≡ new.pages.station.now = search rules in
    subst (λ s. OnlyReads (view c.args.station.now) (view s)) (sym station_end) (only_reads_on _ _ _ first second)

pub returns-in-Ok-fold_pages-clause-changed : goal.returns-in-Ok-fold_pages-clause-changed
returns-in-Ok-fold_pages-clause-changed g c told =
    let view = g.T.Station.view in
    let old = c.new-pages.result in
    let mid = c.empty_pages.new.pages in
    let over = c.over-store.result in
    let new = c.fold_pages.new.store in
    let pages_are = c.over-store.ensures.pages in
    let first : OnlyReads (view c.args.station.now) (view mid.station.now) = subst (λ s. OnlyReads (view s) (view mid.station.now)) c.new-pages.ensures.station_now c.empty_pages.ensures.reads in
    let told_old = subst (λ s. IsTrue (view s).is_told) (sym c.new-pages.ensures.station_now) told in
    let told_over = subst IsTrue (sym (ap (λ p. (view p.station.now).is_told) pages_are ∙ first.counts.told)) told in
    let changed_end : c.changed-in-Ok-fold_pages-1.given.0 ≡ new.pages.changed.now = search rules in
    laid_through c.args.side old.side over.pages.side (view c.args.station.now) (view old.station.now) (view over.pages.station.now) c.args.changed.now old.changed.now mid.changed.now over.pages.changed.now new.pages.changed.now c.changed-in-Ok-fold_pages-1.given.0
    c.new-pages.ensures.side (ap (λ p. p.side) pages_are ∙ c.empty_pages.ensures.same_side ∙ c.new-pages.ensures.side)
    (λ a. ap (λ s. (view s).bytes a) c.new-pages.ensures.station_now) (λ a. ap (λ p. (view p.station.now).bytes a) pages_are ∙ (first.areas told).bytes a)
    c.new-pages.ensures.changed_now (ap (λ p. p.changed.now) pages_are) changed_end (c.requires.laid _ _)
    (c.empty_pages.ensures.still told_old) (c.fold_pages.ensures.still told_over)

pub returns-in-Ok-fold_pages-clause-folds : goal.returns-in-Ok-fold_pages-clause-folds
returns-in-Ok-fold_pages-clause-folds g c told =
    let view = g.T.Station.view in
    let old = c.new-pages.result in
    let mid = c.empty_pages.new.pages in
    let over = c.over-store.result in
    let new = c.fold_pages.new.store in
    let pages_are = c.over-store.ensures.pages in
    let first : OnlyReads (view c.args.station.now) (view mid.station.now) = subst (λ s. OnlyReads (view s) (view mid.station.now)) c.new-pages.ensures.station_now c.empty_pages.ensures.reads in
    let told_old = subst (λ s. IsTrue (view s).is_told) (sym c.new-pages.ensures.station_now) told in
    let told_over = subst IsTrue (sym (ap (λ p. (view p.station.now).is_told) pages_are ∙ first.counts.told)) told in
    let gaz = dated empty c.args.date in
    let known = files_of (g.F.Shelf.view c.fold_pages.new.shelf) in
    let defined = λ (files : Files). fold_named files c.args.names.now gaz in
    let begun = view_as (side_area old.side) (side_area over.pages.side) mid.changed.now over.pages.changed.now (view mid.station.now) (view over.pages.station.now)
    (ap (λ p. side_area p.side) pages_are ∙ ap side_area c.empty_pages.ensures.same_side) (ap (λ p. p.changed.now) pages_are) (ap (λ p. view p.station.now) pages_are) in
    let store = store_as gaz _ _ c.in-Ok.root over.root begun c.over-store.ensures.root (c.in-Ok.ensures.store told_old) in
    let changed_end : c.changed-in-Ok-fold_pages-1.given.0 ≡ new.pages.changed.now = search rules in
    let station_end : c.station-in-Ok-fold_pages-1.given.0 ≡ new.pages.station.now = search rules in
    let ended = view_as (side_area over.pages.side) (side_area c.args.side) new.pages.changed.now c.changed-in-Ok-fold_pages-1.given.0 (view new.pages.station.now) (view c.station-in-Ok-fold_pages-1.given.0)
    (sym (ap (λ p. side_area p.side) pages_are ∙ ap side_area c.empty_pages.ensures.same_side ∙ ap side_area c.new-pages.ensures.side)) changed_end (ap view station_end) in
    folds_ok known defined gaz _ _ new.root c.root.result.now ended c.root.ensures (c.in-Ok-fold_pages.ensures.folds told_over gaz store)

-- they weren't all
pub returns-in-Err-fold_pages-clause-reads : goal.returns-in-Err-fold_pages-clause-reads
returns-in-Err-fold_pages-clause-reads g c =
    let view = g.T.Station.view in
    let old = c.new-pages.result in
    let mid = c.empty_pages.new.pages in
    let over = c.over-store.result in
    let new = c.fold_pages.new.store in
    let pages_are = c.over-store.ensures.pages in
    let first : OnlyReads (view c.args.station.now) (view mid.station.now) = subst (λ s. OnlyReads (view s) (view mid.station.now)) c.new-pages.ensures.station_now c.empty_pages.ensures.reads in
    let second : OnlyReads (view mid.station.now) (view new.pages.station.now) = subst (λ p. OnlyReads (view p.station.now) (view new.pages.station.now)) pages_are c.fold_pages.ensures.reads in
    let station_end : c.in-Err-fold_pages.station-in-Err-fold_pages-1-own.given.0 ≡ new.pages.station.now = search rules in
    subst (λ s. OnlyReads (view c.args.station.now) (view s)) (sym station_end) (only_reads_on _ _ _ first second)

pub returns-in-Err-fold_pages-clause-changed : goal.returns-in-Err-fold_pages-clause-changed
returns-in-Err-fold_pages-clause-changed g c told =
    let view = g.T.Station.view in
    let old = c.new-pages.result in
    let mid = c.empty_pages.new.pages in
    let over = c.over-store.result in
    let new = c.fold_pages.new.store in
    let pages_are = c.over-store.ensures.pages in
    let first : OnlyReads (view c.args.station.now) (view mid.station.now) = subst (λ s. OnlyReads (view s) (view mid.station.now)) c.new-pages.ensures.station_now c.empty_pages.ensures.reads in
    let told_old = subst (λ s. IsTrue (view s).is_told) (sym c.new-pages.ensures.station_now) told in
    let told_over = subst IsTrue (sym (ap (λ p. (view p.station.now).is_told) pages_are ∙ first.counts.told)) told in
    let changed_end : c.in-Err-fold_pages.changed-in-Err-fold_pages-1-own.given.0 ≡ new.pages.changed.now = search rules in
    laid_through c.args.side old.side over.pages.side (view c.args.station.now) (view old.station.now) (view over.pages.station.now) c.args.changed.now old.changed.now mid.changed.now over.pages.changed.now new.pages.changed.now c.in-Err-fold_pages.changed-in-Err-fold_pages-1-own.given.0
    c.new-pages.ensures.side (ap (λ p. p.side) pages_are ∙ c.empty_pages.ensures.same_side ∙ c.new-pages.ensures.side)
    (λ a. ap (λ s. (view s).bytes a) c.new-pages.ensures.station_now) (λ a. ap (λ p. (view p.station.now).bytes a) pages_are ∙ (first.areas told).bytes a)
    c.new-pages.ensures.changed_now (ap (λ p. p.changed.now) pages_are) changed_end (c.requires.laid _ _)
    (c.empty_pages.ensures.still told_old) (c.fold_pages.ensures.still told_over)

pub returns-in-Err-fold_pages-clause-folds : goal.returns-in-Err-fold_pages-clause-folds
returns-in-Err-fold_pages-clause-folds g c told =
    let view = g.T.Station.view in
    let old = c.new-pages.result in
    let mid = c.empty_pages.new.pages in
    let over = c.over-store.result in
    let new = c.fold_pages.new.store in
    let pages_are = c.over-store.ensures.pages in
    let first : OnlyReads (view c.args.station.now) (view mid.station.now) = subst (λ s. OnlyReads (view s) (view mid.station.now)) c.new-pages.ensures.station_now c.empty_pages.ensures.reads in
    let told_old = subst (λ s. IsTrue (view s).is_told) (sym c.new-pages.ensures.station_now) told in
    let told_over = subst IsTrue (sym (ap (λ p. (view p.station.now).is_told) pages_are ∙ first.counts.told)) told in
    let gaz = dated empty c.args.date in
    let known = files_of (g.F.Shelf.view c.fold_pages.new.shelf) in
    let defined = λ (files : Files). fold_named files c.args.names.now gaz in
    let begun = view_as (side_area old.side) (side_area over.pages.side) mid.changed.now over.pages.changed.now (view mid.station.now) (view over.pages.station.now)
    (ap (λ p. side_area p.side) pages_are ∙ ap side_area c.empty_pages.ensures.same_side) (ap (λ p. p.changed.now) pages_are) (ap (λ p. view p.station.now) pages_are) in
    let store = store_as gaz _ _ c.in-Ok.root over.root begun c.over-store.ensures.root (c.in-Ok.ensures.store told_old) in
    folds_err known defined gaz _ _ new.root c.in-Err-fold_pages.fault (c.in-Err-fold_pages.ensures.folds told_over gaz store)
