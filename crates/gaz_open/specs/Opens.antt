-- What an opening finds, and what it leaves.
use Rattle.std.specs.Prelude.{⊤, ◌≡◌, ◌⊎◌, ◌<◌, ◌≤◌, ◌+◌, ℕ, true, false, IsTrue, List, length, Option, Some, None, Result, Err}
use Rattle.gaz_outside.specs.declared.station.Area.{Area}
use Rattle.gaz_outside.specs.declared.station.Area.TheVariants as area
use Rattle.gaz_outside.specs.Outside.{RisesOnce}
use Rattle.gaz_outside.specs.Station.{StationView, Confined, LeavesOnly}
use Rattle.gaz_redo.specs.Content.{content, is_log, is_open}
use Rattle.gaz_redo.specs.Form.{IsInForm}
use Rattle.gaz_redo.specs.Slots.{SameBytes}
use Rattle.gaz_redo.specs.Recovered.{AllStable, OnlyRise, SlotsToRedo}
use Rattle.gaz_plain.specs.Gazetteer.{Gazetteer}
use Rattle.gaz_page.specs.declared.tree_root.Root.{Root as PageRoot}
use Rattle.gaz_page.specs.TreeRoot.{FitsRoot, tree_root_at}
use Rattle.gaz_pages.specs.Fits.{Fits}
use Rattle.gaz_rows.specs.Content.{Mirrors}
use Rattle.gaz_rows.specs.Holds.{AllHold, HasNone, IsFound}
use Rattle.gaz_open.specs.declared.find.Found.{Found}
use Rattle.gaz_open.specs.declared.find.Found.TheVariants.{Empty, Named, NotARoot}
use Rattle.gaz_open.specs.declared.fault.Place.{Place}
use Rattle.gaz_open.specs.declared.fault.Place.TheVariants.{Log, Root}
use Rattle.gaz_open.specs.declared.fault.OpenFault.{OpenFault}
use Rattle.gaz_open.specs.declared.fault.OpenFault.TheVariants.{Station}

-- The gate is open over a log that isn't in form.
abbrev pub HasNoLog : (Area → List ℕ) → Type 0
HasNoLog areas = (is_open (areas area.Mark) ≡ true) × (IsInForm areas → ⊥)

-- The gate is closed, or the log is in form.
abbrev pub HasLog : (Area → List ℕ) → Type 0
HasLog areas = (is_open (areas area.Mark) ≡ false) ⊎ IsInForm areas

-- The gate is closed, nothing is pending, and Root, Left and Right have the content of before.
pub record IsSettled (old new : StationView) : Type 0 where
  pub closed : is_open (new.bytes area.Mark) ≡ false
  pub stable : AllStable new
  pub content : content new.bytes ≡ content old.bytes

-- Nothing is to be redone: the gate is closed, or the log isn't in form.
abbrev pub NothingToRedo : (Area → List ℕ) → Type 0
NothingToRedo areas = (is_open (areas area.Mark) ≡ false) ⊎ (is_log areas ≡ false)

-- what Root says
abbrev pub Finds : Found → List ℕ → Type 0
Finds Empty bytes = length bytes < 4096
Finds (Named root) bytes = (4096 ≤ length bytes) × (tree_root_at bytes ≡ Some root)
Finds NotARoot bytes = (4096 ≤ length bytes) × (tree_root_at bytes ≡ None)

-- The fields of a root that was found fit into their places.
abbrev pub FitsFound : Found → Type 0
FitsFound Empty = ⊤
FitsFound (Named root) = FitsRoot root
FitsFound NotARoot = ⊤

-- The count of faults rises by one where the station failed, and else stands.
abbrev pub FailsOnce : {A : Type 0} → ℕ → ℕ → Result A OpenFault → Type 0
FailsOnce before now (Err Station) = RisesOnce before now
FailsOnce before now other = now ≡ before

-- An opening, or the first part of one: at every moment some outcome of its beginning stands, and nothing is printed. It writes at
-- most the slots to redo and the gate. Where nothing is to be redone it writes nothing: no byte and no outcome changes, at no moment.
pub record IsOpening (old new : StationView) : Type 0 where
  pub counts : OnlyRise old new
  pub moments : IsTrue old.is_told → LeavesOnly old new (IsFound old)
  pub printed : IsTrue old.is_told → new.printed ≡ old.printed
  pub writes : IsTrue old.is_told → (slots : ℕ) → SlotsToRedo old slots → new.writes ≤ old.writes + slots + 1
  pub untouched : IsTrue old.is_told → NothingToRedo old.bytes → Confined SameBytes old new
  pub unwritten : IsTrue old.is_told → NothingToRedo old.bytes → new.writes ≡ old.writes

-- A mirror with this root opened: it fits the device, of which nothing is pending, and all outcomes have what the areas mirrored.
pub record HasOpened (root : Option PageRoot) (old new : StationView) : Type 0 where
  pub fits : Fits root new
  pub stable : AllStable new
  pub holds : (gaz : Gazetteer) → Mirrors old.bytes gaz → AllHold new gaz

-- The log is to blame where the gate is open over a log that isn't in form, and Root only where it isn't so.
abbrev pub IsToBlame : Place → (Area → List ℕ) → Type 0
IsToBlame Log areas = HasNoLog areas
IsToBlame Root areas = HasLog areas

-- The areas mirror no gazetteer, nor do all outcomes have one, and this place is to blame.
pub record IsNoMirror (place : Place) (v : StationView) : Type 0 where
  pub none : (gaz : Gazetteer) → Mirrors v.bytes gaz → ⊥
  pub nowhere : HasNone v
  pub blamed : IsToBlame place v.bytes
