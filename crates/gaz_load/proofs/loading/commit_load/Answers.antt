use Rattle.std.proofs.Common.{◌∙◌, [], IsTrue, sym, ap, subst}
use Rattle.gaz_page.specs.declared.tree_root.Root.{Root}
use Rattle.gaz_pages.specs.Held.{root_of}
use Rattle.gaz_install.specs.Next.{MayCommit, IsNext, with_root}
use Rattle.gaz_install.proofs.ByKind.{named_ends}
use Rattle.gaz_install.proofs.Moments.{none_moves}
use Rattle.gaz_load.proofs.Stored.{finish_run, finish_fits, finish_holds, finish_moments, commit_moments, finish_may_commit, finish_is_next}
use Rattle.gaz_load.proofs.loading.commit_load.Goals as goal

-- nothing was called
pub returns-in-Err-clause-moments : goal.returns-in-Err-clause-moments
returns-in-Err-clause-moments g c told first next holds store =
    none_moves (g.T.Station.view c.args.station.now) first next (λ o left. g.met.T.Station.only_now c.args.station.now o told left) holds

-- the pages weren't all written
pub returns-in-Err-finish-clause-moments : goal.returns-in-Err-finish-clause-moments
returns-in-Err-finish-clause-moments g c told first next holds store =
    let v0 = g.T.Station.view c.args.station.now in
    let v1 = g.T.Station.view c.finish.new.station in
    finish_moments c.args.root (root_of c.args.mirror.now) c.requires.side v0 v1 c.args.changed.now (c.requires.fits told) (c.requires.changed told) (c.finish.ensures.confined told) first next holds

pub returns-in-Err-finish-clause-printed : goal.returns-in-Err-finish-clause-printed
returns-in-Err-finish-clause-printed g c told =
    let v0 = g.T.Station.view c.args.station.now in
    let v1 = g.T.Station.view c.finish.new.station in
    (finish_run c.args.root (root_of c.args.mirror.now) c.requires.side v0 v1 c.args.changed.now (c.requires.fits told) (c.requires.changed told) (c.finish.ensures.confined told)).printed

-- the root may be installed
pub install_prepared-requires-clause-fits : goal.install_prepared-requires-clause-fits
install_prepared-requires-clause-fits g c told_now =
    let v0 = g.T.Station.view c.args.station.now in
    let v1 = g.T.Station.view c.finish.new.station in
    let told = subst IsTrue c.finish.ensures.counts.told told_now in
    finish_fits c.args.root (root_of c.args.mirror.now) c.requires.side v0 v1 c.args.changed.now (c.requires.fits told) (c.requires.changed told) (c.finish.ensures.confined told)

pub install_prepared-requires-clause-pages : goal.install_prepared-requires-clause-pages
install_prepared-requires-clause-pages g c told_now =
    let v0 = g.T.Station.view c.args.station.now in
    let v1 = g.T.Station.view c.finish.new.station in
    let told = subst IsTrue c.finish.ensures.counts.told told_now in
    let changed = c.args.changed.now in
    let store = c.requires.store told in
    let root_is = named_ends c.args.root changed.fresh changed.free c.ends-fresh.result.0 c.ends-fresh.result.1 c.ends-fresh.ensures.fresh c.ends-fresh.ensures.free in
    record {
      changed = [];
      all_are = c.in-Ok.ensures.set ∙ ap (with_root _) c.new-images.ensures;
      may = subst (λ (r : Root). MayCommit r [] v1) root_is
          (finish_may_commit c.args.root (root_of c.args.mirror.now) c.requires.side v0 v1 changed (c.requires.fits told) (c.requires.changed told) (c.finish.ensures.confined told)
          (c.in-Ok-finish.ensures.placed told) (c.in-Ok-finish.ensures.stable told) store.0 store.1);
    }

-- it was installed, or not
pub returns-in-Ok-install_prepared-clause-moments : goal.returns-in-Ok-install_prepared-clause-moments
returns-in-Ok-install_prepared-clause-moments g c told first next holds store =
    let v0 = g.T.Station.view c.args.station.now in
    let v1 = g.T.Station.view c.finish.new.station in
    let told_now = subst IsTrue (sym c.finish.ensures.counts.told) told in
    let before = root_of c.args.mirror.now in
    let changed = c.args.changed.now in
    let fits = c.requires.fits told in
    let are = c.requires.changed told in
    let confined = c.finish.ensures.confined told in
    let root_is = named_ends c.args.root changed.fresh changed.free c.ends-fresh.result.0 c.ends-fresh.result.1 c.ends-fresh.ensures.fresh c.ends-fresh.ensures.free in
    let may = finish_may_commit c.args.root before c.requires.side v0 v1 changed fits are confined (c.in-Ok-finish.ensures.placed told) (c.in-Ok-finish.ensures.stable told) next store in
    let is_next = finish_is_next c.args.root before c.requires.side v0 v1 changed fits are confined (c.in-Ok-finish.ensures.placed told) (c.in-Ok-finish.ensures.stable told) next store in
    commit_moments c.args.root before c.requires.side v0 v1 changed fits are confined (g.T.Station.view c.install_prepared.new.station) first next holds
    (c.install_prepared.ensures.moments told_now first next (finish_holds c.args.root before c.requires.side v0 v1 changed fits are confined first holds)
    (record {
      prepared = record { changed = []; all_are = c.in-Ok.ensures.set ∙ ap (with_root _) c.new-images.ensures; may = subst (λ (r : Root). MayCommit r [] v1) root_is may };
      stands = subst (λ (r : Root). IsNext next r [] v1) root_is is_next;
    }))

pub returns-clause-moments : goal.returns-clause-moments
returns-clause-moments g c told first next holds store =
    let v0 = g.T.Station.view c.args.station.now in
    let v1 = g.T.Station.view c.finish.new.station in
    let told_now = subst IsTrue (sym c.finish.ensures.counts.told) told in
    let before = root_of c.args.mirror.now in
    let changed = c.args.changed.now in
    let fits = c.requires.fits told in
    let are = c.requires.changed told in
    let confined = c.finish.ensures.confined told in
    let root_is = named_ends c.args.root changed.fresh changed.free c.ends-fresh.result.0 c.ends-fresh.result.1 c.ends-fresh.ensures.fresh c.ends-fresh.ensures.free in
    let may = finish_may_commit c.args.root before c.requires.side v0 v1 changed fits are confined (c.in-Ok-finish.ensures.placed told) (c.in-Ok-finish.ensures.stable told) next store in
    let is_next = finish_is_next c.args.root before c.requires.side v0 v1 changed fits are confined (c.in-Ok-finish.ensures.placed told) (c.in-Ok-finish.ensures.stable told) next store in
    commit_moments c.args.root before c.requires.side v0 v1 changed fits are confined (g.T.Station.view c.install_prepared.new.station) first next holds
    (c.install_prepared.ensures.moments told_now first next (finish_holds c.args.root before c.requires.side v0 v1 changed fits are confined first holds)
    (record {
      prepared = record { changed = []; all_are = c.in-Ok.ensures.set ∙ ap (with_root _) c.new-images.ensures; may = subst (λ (r : Root). MayCommit r [] v1) root_is may };
      stands = subst (λ (r : Root). IsNext next r [] v1) root_is is_next;
    }))

pub returns-in-Ok-install_prepared-clause-loaded : goal.returns-in-Ok-install_prepared-clause-loaded
returns-in-Ok-install_prepared-clause-loaded g c told next store =
    let v0 = g.T.Station.view c.args.station.now in
    let v1 = g.T.Station.view c.finish.new.station in
    let before = root_of c.args.mirror.now in
    let changed = c.args.changed.now in
    let fits = c.requires.fits told in
    let are = c.requires.changed told in
    let confined = c.finish.ensures.confined told in
    let root_is = named_ends c.args.root changed.fresh changed.free c.ends-fresh.result.0 c.ends-fresh.result.1 c.ends-fresh.ensures.fresh c.ends-fresh.ensures.free in
    let may = finish_may_commit c.args.root before c.requires.side v0 v1 changed fits are confined (c.in-Ok-finish.ensures.placed told) (c.in-Ok-finish.ensures.stable told) next store in
    let is_next = finish_is_next c.args.root before c.requires.side v0 v1 changed fits are confined (c.in-Ok-finish.ensures.placed told) (c.in-Ok-finish.ensures.stable told) next store in
    c.in-Ok-install_prepared.ensures.installed (subst IsTrue (sym c.finish.ensures.counts.told) told) next
    (record {
      prepared = record { changed = []; all_are = c.in-Ok.ensures.set ∙ ap (with_root _) c.new-images.ensures; may = subst (λ (r : Root). MayCommit r [] v1) root_is may };
      stands = subst (λ (r : Root). IsNext next r [] v1) root_is is_next;
    })

pub returns-in-Ok-install_prepared-clause-printed : goal.returns-in-Ok-install_prepared-clause-printed
returns-in-Ok-install_prepared-clause-printed g c told =
    let v0 = g.T.Station.view c.args.station.now in
    let v1 = g.T.Station.view c.finish.new.station in
    c.install_prepared.ensures.printed (subst IsTrue (sym c.finish.ensures.counts.told) told)
    ∙ (finish_run c.args.root (root_of c.args.mirror.now) c.requires.side v0 v1 c.args.changed.now (c.requires.fits told) (c.requires.changed told) (c.finish.ensures.confined told)).printed

pub returns-clause-printed : goal.returns-clause-printed
returns-clause-printed g c told =
    let v0 = g.T.Station.view c.args.station.now in
    let v1 = g.T.Station.view c.finish.new.station in
    c.install_prepared.ensures.printed (subst IsTrue (sym c.finish.ensures.counts.told) told)
    ∙ (finish_run c.args.root (root_of c.args.mirror.now) c.requires.side v0 v1 c.args.changed.now (c.requires.fits told) (c.requires.changed told) (c.finish.ensures.confined told)).printed
