-- What a session has open.
use Rattle.std.specs.Prelude.{Option, option_map, IsTrue}
use Rattle.gaz_outside.specs.Station.{StationView}
use Rattle.gaz_plain.specs.Gazetteer.{Gazetteer, empty}
use Rattle.gaz_page.specs.declared.tree_root.Root.{Root}
use Rattle.gaz_pages.specs.Fits.{Fits}
use Rattle.gaz_turns.specs.Turns.{State}

-- what a session keeps between two requests: the root of its mirror, or none before the first load
pub record SessionView : Type 0 where
  pub root : Option Root

-- the state of a gazetteer
abbrev pub state_of : Gazetteer → State
state_of gaz = record { gaz = gaz }

-- a state with the date of the session's root: by the date alone a request opens files or doesn't
abbrev pub dated_state : SessionView → State
dated_state session = record { gaz = record empty { date = option_map (λ root. root.day) session.root } }

-- The device fits the session's mirror. What that stands for is what the areas mirror: of the gazetteer a session holds nothing.
pub record IsOpen (session : SessionView) (station : StationView) : Type 0 where
  pub fits : IsTrue station.is_told → Fits session.root station
