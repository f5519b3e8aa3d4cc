-- What a station with frames is made of.
use Rattle.gaz_outside.specs.declared.station.Station.{Ghosts}
use Rattle.gaz_framed.specs.declared.framed.Framed.{Framed}

-- the station under the frames
abbrev pub under : {A : Type 0} {S : Ghosts A} → Framed A S → A
under framed = framed.station
