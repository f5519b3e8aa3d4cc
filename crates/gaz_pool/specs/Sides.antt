-- The areas that hold pages of a gazetteer.
use Rattle.gaz_outside.specs.declared.station.Area.{Area}
use Rattle.gaz_outside.specs.declared.station.Area.TheVariants as area
use Rattle.gaz_page.specs.declared.page.Side.{Side}
use Rattle.gaz_page.specs.declared.page.Side.TheVariants.{Left, Right}

-- the area of a side
abbrev pub side_area : Side → Area
side_area Left = area.Left
side_area Right = area.Right
