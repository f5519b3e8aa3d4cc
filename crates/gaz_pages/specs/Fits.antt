-- What holds of a mirror and a device between two requests.
use Rattle.std.specs.Prelude.{⊤, ◌≡◌, ◌<◌, ◌≤◌, ℕ, false, List, length, Option, Some, None}
use Rattle.gaz_outside.specs.declared.station.Area.TheVariants as area
use Rattle.gaz_outside.specs.Station.{StationView, IsStable}
use Rattle.gaz_page.specs.declared.tree_root.Root.{Root}
use Rattle.gaz_page.specs.TreeRoot.{tree_root_at}
use Rattle.gaz_redo.specs.Content.{is_open}
use Rattle.gaz_pages.specs.Areas.{side_area}

-- Root begins with this root page, or has fewer bytes than a page.
abbrev pub Names : Option Root → List ℕ → Type 0
Names None bytes = length bytes < 4096
Names (Some root) bytes = (4096 ≤ length bytes) × (tree_root_at bytes ≡ Some root)

-- Nothing is pending on the area of the pages.
abbrev pub HasStable : Option Root → StationView → Type 0
HasStable None v = ⊤
HasStable (Some root) v = IsStable v (side_area root.side)

-- The gate is closed, nothing is pending on Mark, on Root and on the area of the pages, and Root has the mirror's root.
pub record Fits (root : Option Root) (v : StationView) : Type 0 where
  pub closed : is_open (v.bytes area.Mark) ≡ false
  pub mark : IsStable v area.Mark
  pub on_root : IsStable v area.Root
  pub pages : HasStable root v
  pub names : Names root (v.bytes area.Root)
