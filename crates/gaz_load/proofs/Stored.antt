-- A load from its files to its commit: what the lines made of the idle area is the next gazetteer, and its root may be installed.
use Rattle.std.proofs.Common.{◌≡◌, ◌≢◌, ◌≤◌, ◌<◌, ◌-◌, ◌*◌, ℕ, zero, suc, List, [], length, refl, sym, ◌∙◌, subst, arith, inl, None, Option, Ok, Err, Result}
use Rattle.std.specs.Prelude.{IsOk, IfSome, IfErr, OnOk}
use Rattle.gaz_num.specs.Refusal.{Refusal}
use Rattle.gaz_outside.specs.declared.station.Area.{Area}
use Rattle.gaz_outside.specs.Outside.{ShelfView, files_of}
use Rattle.gaz_outside.specs.Station.{StationView, LeavesOnly, Confined, AnyIn, IsStable}
use Rattle.gaz_outside.proofs.Runs.{goes_far}
use Rattle.gaz_page.specs.declared.tree_root.Root.{Root}
use Rattle.gaz_page.specs.Area.{page_at}
use Rattle.gaz_page.specs.Pages.{PagesView}
use Rattle.gaz_tree.specs.Tree.{Reaches}
use Rattle.gaz_redo.specs.Slots.{SameBytes, Touches, laid_in}
use Rattle.gaz_redo.specs.Recovered.{OnlyRise}
use Rattle.gaz_pages.specs.declared.changed.Changed.{Changed}
use Rattle.gaz_pages.specs.Areas.{side_area, idle_area}
use Rattle.gaz_pages.specs.Fits.{Fits}
use Rattle.gaz_pages.specs.Laid.{AreOnlyIn}
use Rattle.gaz_pages.specs.Views.{held_view, AreChanged}
use Rattle.gaz_plain.specs.Gazetteer.{Gazetteer}
use Rattle.gaz_plain.specs.Load.{Files}
use Rattle.gaz_rows.specs.declared.fault.ChangeFault.{ChangeFault}
use Rattle.gaz_rows.specs.declared.fault.ChangeFault.TheVariants.{NotLoaded, Sequence, Absent, Shelf, TooLong, Malformed, Full, Station, Damaged, Memory}
use Rattle.gaz_rows.specs.Holds.{AllHold, IsOldOrNext}
use Rattle.gaz_rows.specs.Stands.{StandsFor, tree}
use Rattle.gaz_rows.specs.Store.{IsStore}
use Rattle.gaz_change.specs.Change.{refusal_by, Changes, FailsOnce, Gives, IsSound}
use Rattle.gaz_change.proofs.Changing.{always}
use Rattle.gaz_install.specs.Next.{MayCommit, IsNext, IsInstallFault}
use Rattle.gaz_install.proofs.Idle.{fits_still, holds_still, moments_still}
use Rattle.gaz_install.proofs.Named.{reads_idle}
use Rattle.gaz_install.proofs.Over.{stands_over}
use Rattle.gaz_install.proofs.Whole.{ended, committed, failed}
use Rattle.gaz_load.specs.Root.{FoldsToRoot, IsOfPages}

-- what each fault of the pages has, a fault has that is one of them
pub by_pages : (P : ChangeFault → Type 0) → P Station → ((page : ℕ) → P (Damaged page)) → P Memory → (fault : ChangeFault) → IsOfPages fault → P fault
by_pages P station damaged memory NotLoaded is = absurd is
by_pages P station damaged memory (Sequence have) is = absurd is
by_pages P station damaged memory (Absent file) is = absurd is
by_pages P station damaged memory (Shelf file) is = absurd is
by_pages P station damaged memory (TooLong file) is = absurd is
by_pages P station damaged memory (Malformed file line reason) is = absurd is
by_pages P station damaged memory (Full file line table) is = absurd is
by_pages P station damaged memory Station is = station
by_pages P station damaged memory (Damaged page) is = damaged page
by_pages P station damaged memory Memory is = memory

-- a fault of an install is one of the pages
pub install_of_pages : (root : Root) (before now : ℕ) (fault : ChangeFault) → IsInstallFault root before now fault → IsOfPages fault
install_of_pages root before now NotLoaded is = is
install_of_pages root before now (Sequence have) is = is
install_of_pages root before now (Absent file) is = is
install_of_pages root before now (Shelf file) is = is
install_of_pages root before now (TooLong file) is = is
install_of_pages root before now (Malformed file line reason) is = is
install_of_pages root before now (Full file line table) is = is
install_of_pages root before now Station is = tt
install_of_pages root before now (Damaged page) is = tt
install_of_pages root before now Memory is = tt

-- the station's count of faults after an install
pub install_fails : (root : Root) (before now : ℕ) (result : Result Unit ChangeFault) → OnOk result (now ≡ before) → IfErr result (IsInstallFault root before now) → FailsOnce before now result
install_fails root before now (Ok done) same is = same
install_fails root before now (Err NotLoaded) same is = absurd is
install_fails root before now (Err (Sequence have)) same is = absurd is
install_fails root before now (Err (Absent file)) same is = absurd is
install_fails root before now (Err (Shelf file)) same is = absurd is
install_fails root before now (Err (TooLong file)) same is = absurd is
install_fails root before now (Err (Malformed file line reason)) same is = absurd is
install_fails root before now (Err (Full file line table)) same is = absurd is
install_fails root before now (Err Station) same is = is
install_fails root before now (Err (Damaged page)) same is = is.0
install_fails root before now (Err Memory) same is = is

pub rises_on : (old mid new : StationView) → OnlyRise old mid → OnlyRise mid new → OnlyRise old new
rises_on old mid new first second =
    let f1 = first.faults in let f2 = second.faults in
    let r1 = first.reads in let r2 = second.reads in
    let w1 = first.writes in let w2 = second.writes in
    record { told = second.told ∙ first.told; faults = omega (arith, f1, f2); reads = omega (arith, r1, r2); writes = omega (arith, w1, w2) }

-- a refusal of the pages refuses no line
pub pages_refused : {X : Type 0} (known : Option X) (defined : X → Result Gazetteer Refusal) (first : Gazetteer) (new : PagesView) (fault : ChangeFault) → IsOfPages fault → IsSound fault → FoldsToRoot known defined new (Err fault)
pages_refused known defined first new fault is sound = record {
  next = first;
  stands = tt;
  gives = always known (λ x. by_pages (λ f. Gives first (defined x) (Err f)) tt (λ page. tt) tt fault is);
  sound = sound;
}

-- the top of a tree is a page of it
top_is_in : (pages : ℕ → List ℕ) (level top : ℕ) → Reaches pages level top top
top_is_in pages zero top = refl
top_is_in pages (suc level) top = inl refl

module _ (root : Root) (before : Option Root) (side_is : side_area root.side ≡ idle_area before) (v0 v1 : StationView) (changed : Changed) (fits : Fits before v0)
    (are : AreChanged (side_area root.side) 1 changed (v0.bytes (side_area root.side))) (confined : (area : Area) → AreOnlyIn area changed.images → Confined (AnyIn area) v0 v1) where
  abbrev area : Area
  area = side_area root.side

  abbrev pub final : Root
  final = record root { fresh = changed.fresh; free = changed.free }

  pub finish_run : Confined (AnyIn (idle_area before)) v0 v1
  finish_run = subst (λ (a : Area). Confined (AnyIn a) v0 v1) side_is (confined area are.only)

  pub finish_fits : Fits before v1
  finish_fits = fits_still before v0 fits v1 finish_run

  pub finish_holds : (gaz : Gazetteer) → AllHold v0 gaz → AllHold v1 gaz
  finish_holds gaz holds = holds_still before v0 fits v1 finish_run gaz holds

  pub finish_moments : (gaz next : Gazetteer) → AllHold v0 gaz → LeavesOnly v0 v1 (IsOldOrNext gaz next v0)
  finish_moments gaz next holds = moments_still before v0 fits v1 finish_run gaz next holds

  pub commit_moments : (v2 : StationView) (gaz next : Gazetteer) → AllHold v0 gaz → LeavesOnly v1 v2 (IsOldOrNext gaz next v1) → LeavesOnly v0 v2 (IsOldOrNext gaz next v0)
  commit_moments v2 gaz next holds commits = goes_far v0 v1 v2 _ _ (finish_moments gaz next holds) commits (λ c either. (either.0, subst (λ t. c.text ≡ t) finish_run.printed either.1))

  -- the store took a page for its tree
  taken : (gaz : Gazetteer) → IsStore gaz (held_view area changed v0) root → 1 < changed.fresh
  taken gaz store =
      let low = store.used_once.in_range root.top tree (top_is_in (held_view area changed v0).page (root.height - 1) root.top) in
      omega (arith, low.0, low.1)

  module _ (placed : (a : Area) → v1.bytes a ≡ laid_in a changed.images (v0.bytes a)) (stable : (a : Area) → Touches a changed.images → IsStable v1 a) where
    pub finish_may_commit : (gaz : Gazetteer) → IsStore gaz (held_view area changed v0) root → MayCommit final [] v1
    finish_may_commit gaz store = record { only = λ a touches. absurd touches; stable = stable area (are.touched (taken gaz store)) }

    -- what the pages stand for in memory they stand for in the area
    pub finish_is_next : (next : Gazetteer) → IsStore next (held_view area changed v0) root → IsNext next final [] v1
    finish_is_next next store = record {
      no_gap = λ i from to. absurd (omega (arith, to));
      within = subst (λ (l : List ℕ). 4096 * changed.fresh ≤ length l) (sym (placed area)) (are.within (inl (taken next store)));
      stands = subst (λ (l : List ℕ). StandsFor next (page_at l) final) (sym (placed area)) (stands_over area 1 changed v0 next root are store);
    }

module _ (before : Option Root) (v0 v1 : StationView) (fits : Fits before v0) (reads : Confined SameBytes v0 v1) where
  run : Confined (AnyIn (idle_area before)) v0 v1
  run = reads_idle v0 v1 before reads

  pub fold_fits : Fits before v1
  fold_fits = fits_still before v0 fits v1 run

  module _ (first : Gazetteer) (holds : AllHold v0 first) (defined : Gazetteer → Files → Result Gazetteer Refusal) (shelf : ShelfView) where
    pub fold_holds : AllHold v1 first
    fold_holds = holds_still before v0 fits v1 run first holds

    -- the lines weren't all stepped in
    pub load_ended : (fault : ChangeFault) → IfSome (files_of shelf) (λ files. IfSome (refusal_by fault) (λ refusal. defined first files ≡ Err refusal)) → Changes defined first shelf v0 v1 (Err fault)
    load_ended fault gives = ended before v0 v1 fits run defined shelf first holds fault gives

    -- they were stepped in, and the new store was committed or not
    pub load_committed : (next : Gazetteer) (v2 : StationView) (result : Result Unit ChangeFault) → IfSome (files_of shelf) (λ files. defined first files ≡ Ok next)
        → LeavesOnly v1 v2 (IsOldOrNext first next v1)
        → OnOk result (AllHold v2 next)
        → IfErr result IsOfPages
        → IfErr result (λ fault. fault ≢ Station → AllHold v2 first)
        → Changes defined first shelf v0 v2 result
    load_committed next v2 (Ok done) known commits after of_pages still = committed before v0 v1 fits run defined shelf first holds next v2 known commits after
    load_committed next v2 (Err fault) known commits after of_pages still =
        failed before v0 v1 fits run defined shelf first holds next v2 known commits fault (by_pages (λ f. refusal_by f ≡ None) refl (λ page. refl) refl fault of_pages) still

-- what holds of each fault
pub of_err : (r : Result Unit ChangeFault) (P : ChangeFault → Type 0) → ((fault : ChangeFault) → P fault) → IfErr r P
of_err (Ok done) P each = tt
of_err (Err fault) P each = each fault

-- a known answer is one
pub ok_is : (r : Result Gazetteer Refusal) (gaz : Gazetteer) → r ≡ Ok gaz → IsOk r
ok_is r gaz is = subst (λ (x : Result Gazetteer Refusal). IsOk x) (sym is) refl
