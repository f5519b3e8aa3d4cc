-- The areas that hold pages of a gazetteer.
use Rattle.std.specs.Prelude.{Option, Some, None}
use Rattle.gaz_outside.specs.declared.station.Area.{Area}
use Rattle.gaz_outside.specs.declared.station.Area.TheVariants as area
use Rattle.gaz_page.specs.declared.page.Side.{Side}
use Rattle.gaz_page.specs.declared.page.Side.TheVariants.{Left, Right}
use Rattle.gaz_page.specs.declared.tree_root.Root.{Root}

-- the area of a side
abbrev pub side_area : Side → Area
side_area Left = area.Left
side_area Right = area.Right

-- the area of the other side
abbrev pub other_area : Side → Area
other_area Left = area.Right
other_area Right = area.Left

-- the area that isn't in use, and Left where none is
abbrev pub idle_area : Option Root → Area
idle_area None = area.Left
idle_area (Some root) = other_area root.side
