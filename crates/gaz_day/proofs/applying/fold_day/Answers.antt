use Rattle.std.proofs.Common.{◌∙◌, IsTrue, sym, ap, subst, rules}
use Rattle.gaz_outside.specs.Outside.{files_of}
use Rattle.gaz_change.specs.Change.{fold_named}
use Rattle.gaz_pages.specs.Areas.{side_area}
use Rattle.gaz_day.proofs.Begun.{begun_store, store_as, folds_as}
use Rattle.gaz_day.proofs.applying.fold_day.Goals as goal

-- the store began over the pages that the root names
pub returns-clause-folds : goal.returns-clause-folds
returns-clause-folds g c told gaz stands =
    let view = g.T.Station.view in
    let over = c.over-store.result in
    let pages_are = c.over-store.ensures.pages in
    let side_is = ap (λ p. side_area p.extent.side) pages_are ∙ ap (λ e. side_area e.side) c.new-pages.ensures.extent in
    let changed_is = ap (λ p. p.changed.now) pages_are ∙ c.new-pages.ensures.changed_now in
    let station_is = ap (λ p. p.station.now) pages_are ∙ c.new-pages.ensures.station_now in
    let store = store_as gaz _ _ _ _ _ _ _ _ side_is changed_is (ap view station_is) c.over-store.ensures.root
    (begun_store c.args.root c.args.now.now c.args.changed.now (view c.args.station.now) gaz c.requires.none.0 c.requires.none.1 c.requires.ends.0 c.requires.ends.1 c.requires.same.0 c.requires.same.1 stands) in
    let new = c.fold_pages-result.new.store in
    folds_as (files_of (g.F.Shelf.view c.fold_pages-result.new.shelf)) (λ files. fold_named files c.args.names.now gaz) gaz (side_area over.pages.extent.side) (side_area c.args.root.side) new.pages.changed.now c.changed-1.given.0
    (view new.pages.station.now) (view c.station-1.given.0) new.root c.root.result.now c.fold_pages-result.result (sym side_is) (search rules) (ap view (search rules)) c.root.ensures
    (c.fold_pages-result.ensures.folds (subst (λ s. IsTrue (view s).is_told) (sym station_is) told) gaz store)
