-- A day from its files to its commit: what the lines made of the changed pages is the next gazetteer, and its root may be installed.
use Rattle.std.proofs.Common.{◌≡◌, ◌≢◌, ◌≤◌, ◌*◌, ℕ, List, length, refl, sym, ap, subst, inr, Some, None, Option, Ok, Err, Result}
use Rattle.std.specs.Prelude.{IfSome, IfErr, IsOk, OnOk, OnErr}
use Rattle.gaz_num.specs.declared.words.FileName.{FileName}
use Rattle.gaz_num.specs.Refusal.{Refusal, ◌>>=◌}
use Rattle.gaz_outside.specs.declared.station.Area.{Area}
use Rattle.gaz_outside.specs.Outside.{ShelfView, files_of}
use Rattle.gaz_outside.specs.Station.{StationView, LeavesOnly, Confined, AnyIn, IsStable}
use Rattle.gaz_page.specs.declared.tree_root.Root.{Root}
use Rattle.gaz_page.specs.Area.{page_at}
use Rattle.gaz_redo.specs.Slots.{SameBytes, HasNoGap, laid_in}
use Rattle.gaz_pages.specs.declared.changed.Changed.{Changed}
use Rattle.gaz_pages.specs.Areas.{side_area, idle_area}
use Rattle.gaz_pages.specs.Fits.{Fits}
use Rattle.gaz_pages.specs.Laid.{AreOnlyIn}
use Rattle.gaz_pages.specs.Views.{held_view, AreChanged}
use Rattle.gaz_plain.specs.Gazetteer.{Gazetteer, dated}
use Rattle.gaz_plain.specs.Fold.{fold}
use Rattle.gaz_plain.specs.Load.{Files, files_of as files_named, day, day_files, in_sequence}
use Rattle.gaz_pages.specs.declared.mirror.Mirror.{Mirror}
use Rattle.gaz_pages.specs.Held.{root_of}
use Rattle.gaz_change.proofs.Changing.{weaker}
use Rattle.gaz_rows.specs.declared.fault.ChangeFault.{ChangeFault}
use Rattle.gaz_rows.specs.declared.fault.ChangeFault.TheVariants.{Station}
use Rattle.gaz_rows.specs.Content.{Mirrors}
use Rattle.gaz_rows.specs.Holds.{AllHold, IsOldOrNext}
use Rattle.gaz_rows.specs.Stands.{StandsFor}
use Rattle.gaz_rows.specs.Store.{IsStore}
use Rattle.gaz_rows.specs.Stepping.{HasNewCounts}
use Rattle.gaz_change.specs.Change.{fold_named, refusal_by, Changes, Folds, IsSound, IsOfDate}
use Rattle.gaz_install.specs.Next.{MayCommit, IsNext, IsInstallFault}
use Rattle.gaz_install.proofs.Idle.{fits_still, holds_still}
use Rattle.gaz_install.proofs.Named.{StandsThere, reads_idle, mirrored, as_it_reads}
use Rattle.gaz_install.proofs.Over.{stands_over}
use Rattle.gaz_install.proofs.Whole.{ended, committed, failed}
use Rattle.gaz_day.proofs.Dated.{at_date, dated_stands}
use Rattle.gaz_install.proofs.ByKind.{install_dateless, install_outside, install_sound, on_ok}

pub installs_dateless : (root : Root) (before now : ℕ) (r : Result Unit ChangeFault) → IfErr r (IsInstallFault root before now) → IfErr r (λ fault. IsOfDate fault → ⊥)
installs_dateless root before now (Ok done) is = tt
installs_dateless root before now (Err fault) is = install_dateless root before now fault is

-- what an install leaves that failed before it called anything
pub still_held : {S : Type 0} (view : S → StationView) (old new : S) (first : Gazetteer) (root : Root) (before now : ℕ) (r : Result Unit ChangeFault) → IfErr r (λ fault. fault ≢ Station → new ≡ old) → IfErr r (IsInstallFault root before now)
    → IfErr r (λ fault. (fault ≢ Station → AllHold (view old) first → AllHold (view new) first) × (refusal_by fault ≡ None))
still_held view old new first root before now (Ok done) same is = tt
still_held {S} view old new first root before now (Err fault) same is =
    (λ other h. subst (λ (s : S). AllHold (view s) first) (sym (same other)) h, install_outside root before now fault is)

pub still_fits : {S : Type 0} (view : S → StationView) (old new : S) (mirror later : Mirror) (r : Result Unit ChangeFault) → IfErr r (λ fault. fault ≢ Station → new ≡ old) → OnErr r (later ≡ mirror) → Fits (root_of mirror) (view old)
    → IfErr r (λ fault. fault ≢ Station → Fits (root_of later) (view new))
still_fits view old new mirror later (Ok done) same kept fits = tt
still_fits {S} view old new mirror later (Err fault) same kept fits = λ other.
    subst (λ (s : S). Fits (root_of later) (view s)) (sym (same other)) (subst (λ (m : Mirror). Fits (root_of m) (view old)) (sym kept) fits)

-- The date is refused, so the day is.
pub day_refused : (gaz : Gazetteer) (files : Files) (date : ℕ) (refusal : Refusal) → in_sequence gaz.date date ≡ Err refusal → day gaz files date ≡ Err refusal
unfolding day
day_refused gaz files date refusal is = ap (λ r. r >>= λ next. files_named files (day_files next) >>= λ found. fold (dated gaz next) found) is

-- what is so of all files is so of those that are told
pub for_all : (known : Option Files) (P : Files → Type 0) → ((files : Files) → P files) → IfSome known P
for_all None P all = tt
for_all (Some files) P all = all files

pub refused_by_date : (gaz : Gazetteer) (have : Option ℕ) (date : ℕ) (known : Option Files) (fault : ChangeFault) → gaz.date ≡ have → IfSome (refusal_by fault) (λ refusal. in_sequence have date ≡ Err refusal)
    → IfSome known (λ files. IfSome (refusal_by fault) (λ refusal. day gaz files date ≡ Err refusal))
refused_by_date gaz have date known fault same refused =
    for_all known _ (λ files. weaker (refusal_by fault) (λ refusal is. day_refused gaz files date refusal (subst (λ d. in_sequence d date ≡ Err refusal) (sym same) is)) refused)

module _ (root : Root) (date : ℕ) (v0 v1 : StationView) (changed : Changed) (now : Root) (fits : Fits (Some root) v0) (reads : Confined SameBytes v0 v1)
    (are : AreChanged (side_area root.side) root.fresh changed (v0.bytes (side_area root.side))) (counts : HasNewCounts (at_date date root) now) where
  abbrev area : Area
  area = side_area root.side

  abbrev pub final : Root
  final = record now { fresh = changed.fresh; free = changed.free }

  run : Confined (AnyIn (idle_area (Some root))) v0 v1
  run = reads_idle v0 v1 (Some root) reads

  pub fits_now : Fits (Some root) v1
  fits_now = fits_still (Some root) v0 fits v1 run

  side_now : now.side ≡ root.side
  side_now = ap (λ (r : Root). r.side) counts

  area_now : side_area now.side ≡ area
  area_now = ap side_area side_now

  are_now : AreChanged area root.fresh changed (v1.bytes area)
  are_now = subst (λ (l : List ℕ). AreChanged area root.fresh changed l) (sym (reads.bytes area)) are

  pub may_commit : MayCommit final changed.images v1
  may_commit = record {
    only = subst (λ (a : Area). AreOnlyIn a changed.images) (sym area_now) are.only;
    stable = subst (λ (a : Area). IsStable v1 a) (sym area_now) fits_now.pages;
  }

  -- what the pages stand for in memory they stand for once they are laid over their area
  pub is_next : (gaz next : Gazetteer) → StandsThere gaz root v0 → IsStore next (held_view area changed v1) now → IsNext next final changed.images v1
  is_next gaz next there store =
      let within : 4096 * root.fresh ≤ length (v1.bytes area) = subst (λ (l : List ℕ). 4096 * root.fresh ≤ length l) (sym (reads.bytes area)) there.within in
      record {
        no_gap = subst (λ (a : Area). HasNoGap a changed.images (v1.bytes a)) (sym area_now) (are_now.no_gap within);
        within = subst (λ (a : Area). 4096 * changed.fresh ≤ length (laid_in a changed.images (v1.bytes a))) (sym area_now) (are_now.within (inr within));
        stands = subst (λ (a : Area). StandsFor next (page_at (laid_in a changed.images (v1.bytes a))) final) (sym area_now) (stands_over area root.fresh changed v1 next now are_now store);
      }

  -- Over pages that stand for a gazetteer no fault is damage.
  module _ (names : List FileName) (shelf : ShelfView) (result : Result Unit ChangeFault) (folds : (gaz : Gazetteer) → StandsFor gaz (page_at (v0.bytes area)) (at_date date root) → Folds (files_of shelf) (λ files. fold_named files names gaz) gaz (held_view area changed v1) now result)
      (gaz : Gazetteer) (mirrors : Mirrors v0.bytes gaz) where
    folded_sound : Folds (files_of shelf) (λ files. fold_named files names (dated gaz date)) (dated gaz date) (held_view area changed v1) now result
    folded_sound = folds (dated gaz date) (dated_stands gaz date (page_at (v0.bytes area)) root (mirrored v0 root gaz fits mirrors).stands)

    pub fold_is_sound : IfErr result IsSound
    fold_is_sound = folded_sound.sound

    pub install_is_sound : OnOk result ((before after : ℕ) (fault : ChangeFault) → IsInstallFault final before after fault → IsSound fault)
    install_is_sound = on_ok result _ _ (λ (store : IsStore folded_sound.next (held_view area changed v1) now) before after fault is.
        install_sound final before after _ folded_sound.next _ refl store fault is) folded_sound.stands

  module _ (first : Gazetteer) (holds : AllHold v0 first) (stay : (a : Area) → v0.may_leave a (v0.bytes a)) (shelf : ShelfView) (names : List FileName) (names_are : names ≡ day_files date) where
    abbrev defined : Gazetteer → Files → Result Gazetteer Refusal
    defined gaz files = fold_named files (day_files date) (dated gaz date)

    there : StandsThere first root v0
    there = mirrored v0 root first fits (as_it_reads v0 first stay holds)

    module _ (result : Result Unit ChangeFault) (folds : (gaz : Gazetteer) → StandsFor gaz (page_at (v0.bytes area)) (at_date date root) → Folds (files_of shelf) (λ files. fold_named files names gaz) gaz (held_view area changed v1) now result) where
      folded : Folds (files_of shelf) (defined first) (dated first date) (held_view area changed v1) now result
      folded = subst (λ (ns : List FileName). Folds (files_of shelf) (λ files. fold_named files ns (dated first date)) (dated first date) (held_view area changed v1) now result) names_are
          (folds (dated first date) (dated_stands first date (page_at (v0.bytes area)) root there.stands))

    -- the files were refused, or what holds them failed
    pub day_ended : (fault : ChangeFault) → ((gaz : Gazetteer) → StandsFor gaz (page_at (v0.bytes area)) (at_date date root) → Folds (files_of shelf) (λ files. fold_named files names gaz) gaz (held_view area changed v1) now (Err fault))
        → Changes defined first shelf v0 v1 (Err fault)
    day_ended fault folds = ended (Some root) v0 v1 fits run defined shelf first holds fault (folded (Err fault) folds).gives

    -- they were stepped in, so they make a gazetteer
    pub day_makes : ((gaz : Gazetteer) → StandsFor gaz (page_at (v0.bytes area)) (at_date date root) → Folds (files_of shelf) (λ files. fold_named files names gaz) gaz (held_view area changed v1) now (Ok tt))
        → IfSome (files_of shelf) (λ files. IsOk (defined first files))
    day_makes folds = weaker (files_of shelf) (λ files is. subst (λ (r : Result Gazetteer Refusal). IsOk r) (sym is) refl) (folded (Ok tt) folds).gives

    -- they were stepped in, and the changed pages were committed or not
    pub day_installed : ((gaz : Gazetteer) → StandsFor gaz (page_at (v0.bytes area)) (at_date date root) → Folds (files_of shelf) (λ files. fold_named files names gaz) gaz (held_view area changed v1) now (Ok tt))
        → (v2 : StationView) (result : Result Unit ChangeFault)
        → ((old next : Gazetteer) → AllHold v1 old → IsNext next final changed.images v1 → LeavesOnly v1 v2 (IsOldOrNext old next v1))
        → OnOk result ((next : Gazetteer) → IsNext next final changed.images v1 → AllHold v2 next)
        → IfErr result (λ fault. (fault ≢ Station → AllHold v1 first → AllHold v2 first) × (refusal_by fault ≡ None))
        → Changes defined first shelf v0 v2 result
    day_installed folds v2 result moments after fails =
        by result after fails
      where
        f : Folds (files_of shelf) (defined first) (dated first date) (held_view area changed v1) now (Ok tt)
        f = folded (Ok tt) folds

        held : AllHold v1 first
        held = holds_still (Some root) v0 fits v1 run first holds

        next : IsNext f.next final changed.images v1
        next = is_next first f.next there f.stands

        commits : LeavesOnly v1 v2 (IsOldOrNext first f.next v1)
        commits = moments first f.next held next

        by : (r : Result Unit ChangeFault) → OnOk r ((next : Gazetteer) → IsNext next final changed.images v1 → AllHold v2 next)
            → IfErr r (λ fault. (fault ≢ Station → AllHold v1 first → AllHold v2 first) × (refusal_by fault ≡ None)) → Changes defined first shelf v0 v2 r
        by (Ok done) done_so none = committed (Some root) v0 v1 fits run defined shelf first holds f.next v2 f.gives commits (done_so f.next next)
        by (Err fault) none failed_so = failed (Some root) v0 v1 fits run defined shelf first holds f.next v2 f.gives commits fault failed_so.1 (λ other. failed_so.0 other held)
