-- What becomes of frames where their areas are written.
use Rattle.std.specs.Prelude.{◌≡◌, ◌≢◌, ℕ, ◌==◌, if◌then◌else◌, List, Option, Some, None}
use Rattle.gaz_outside.specs.declared.station.Area.{Area}
use Rattle.gaz_outside.specs.declared.station.Area.TheVariants as area
use Rattle.gaz_outside.specs.Station.{overlaid, area_place}
use Rattle.gaz_page.specs.declared.page.Side.{Side}
use Rattle.gaz_page.specs.declared.page.Side.TheVariants.{Left, Right}
use Rattle.gaz_pool.specs.declared.frame.Frame.{Frame}
use Rattle.gaz_pool.specs.Frames.{Agrees}

-- the side of an area that has pages
abbrev pub side_in : Area → Option Side
side_in area.Mark = None
side_in area.Log = None
side_in area.Root = None
side_in area.Left = Some Left
side_in area.Right = Some Right

-- the areas after bytes were written at a place of one of them
abbrev pub wrote : Area → ℕ → List ℕ → (Area → List ℕ) → Area → List ℕ
wrote area at bytes areas a = if area_place area == area_place a then overlaid (areas a) at bytes else areas a

-- Frames that agreed with areas before bytes were written agree with them afterwards.
abbrev pub Follows : Area → ℕ → List ℕ → List Frame → List Frame → Type 0
Follows area at bytes old new = (areas : Area → List ℕ) → Agrees old areas → Agrees new (wrote area at bytes areas)

-- Frames that agreed with areas agree with them whatever became of one of them.
abbrev pub FollowsAny : Area → List Frame → List Frame → Type 0
FollowsAny area old new = (areas other : Area → List ℕ) → ((a : Area) → a ≢ area → other a ≡ areas a) → Agrees old areas → Agrees new other
