-- Which pages a root may be installed over, and what they stand for then.
use Rattle.std.specs.Prelude.{⊤, ◌≡◌, ◌≤◌, ◌*◌, ℕ, List, length}
use Rattle.gaz_num.specs.Counts.{RisesOnce}
use Rattle.gaz_outside.specs.declared.station.Area.TheVariants.{Root}
use Rattle.gaz_outside.specs.Station.{StationView, IsStable}
use Rattle.gaz_page.specs.declared.tree_root.Root.{Root as PageRoot}
use Rattle.gaz_page.specs.TreeRoot.{tree_root_bytes}
use Rattle.gaz_page.specs.Area.{page_at}
use Rattle.gaz_redo.specs.declared.home.Home.{Home}
use Rattle.gaz_redo.specs.Images.{slot_for, with_image}
use Rattle.gaz_redo.specs.Slots.{Slot, laid_in, HasNoGap}
use Rattle.gaz_pages.specs.Areas.{side_area}
use Rattle.gaz_pages.specs.Laid.{AreOnlyIn}
use Rattle.gaz_plain.specs.Gazetteer.{Gazetteer}
use Rattle.gaz_rows.specs.Stands.{StandsFor}
use Rattle.gaz_rows.specs.declared.fault.ChangeFault.{ChangeFault}
use Rattle.gaz_rows.specs.declared.fault.ChangeFault.TheVariants.{Station, Damaged, Memory}

-- where a root page stands
abbrev pub root_home : Home
root_home = record { area = Root; page = 0 }

-- changed pages with the page of a root
abbrev pub with_root : PageRoot → List Slot → List Slot
with_root root images = with_image (slot_for root_home (tree_root_bytes root)) images

-- Changed pages can be committed with the root that names them: all are of the root's area, of which nothing is pending.
pub record MayCommit (root : PageRoot) (images : List Slot) (v : StationView) : Type 0 where
  pub only : AreOnlyIn (side_area root.side) images
  pub stable : IsStable v (side_area root.side)

-- the bytes of the root's area with the changed pages laid over
abbrev pub pages_with : PageRoot → List Slot → StationView → List ℕ
pages_with root images v = laid_in (side_area root.side) images (v.bytes (side_area root.side))

-- Laid over the root's area, the changed pages leave no gap and lie within it, and stand with the root for the gazetteer.
pub record IsNext (next : Gazetteer) (root : PageRoot) (images : List Slot) (v : StationView) : Type 0 where
  pub no_gap : HasNoGap (side_area root.side) images (v.bytes (side_area root.side))
  pub within : 4096 * root.fresh ≤ length (pages_with root images v)
  pub stands : StandsFor next (page_at (pages_with root images v)) root

-- These are changed pages with the page of the root, and they can be committed.
pub record IsPrepared (root : PageRoot) (all : List Slot) (v : StationView) : Type 0 where
  pub changed : List Slot
  pub all_are : all ≡ with_root root changed
  pub may : MayCommit root changed v

-- They are so, and laid over the root's area they stand with the root for the gazetteer.
pub record IsPreparedFor (next : Gazetteer) (root : PageRoot) (all : List Slot) (v : StationView) : Type 0 where
  pub prepared : IsPrepared root all v
  pub stands : IsNext next root prepared.changed v

-- No root page says a height of 0, or above 6.
abbrev pub IsTooHigh : PageRoot → Type 0
IsTooHigh root = 1 ≤ root.height → root.height ≤ 6 → ⊥

-- The station failed once; or nothing outside was called, and memory was wanting or the root's height can't be said.
abbrev pub IsInstallFault : PageRoot → ℕ → ℕ → ChangeFault → Type 0
IsInstallFault root before now Station = RisesOnce before now
IsInstallFault root before now Memory = now ≡ before
IsInstallFault root before now (Damaged page) = (now ≡ before) × IsTooHigh root
IsInstallFault root before now other = ⊥

-- Memory was wanting, or the root's height can't be said.
abbrev pub IsPrepareFault : PageRoot → ChangeFault → Type 0
IsPrepareFault root Memory = ⊤
IsPrepareFault root (Damaged page) = IsTooHigh root
IsPrepareFault root other = ⊥
