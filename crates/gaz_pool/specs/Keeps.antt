-- What calls that only read keep of a device.
use Rattle.std.specs.Prelude.{◌≡◌, IsTrue}
use Rattle.gaz_outside.specs.Station.{StationView, Confined}
use Rattle.gaz_redo.specs.Slots.{SameBytes}
use Rattle.gaz_redo.specs.Recovered.{OnlyRise}

-- Nothing is written: no byte and no outcome changes, at no moment.
pub record OnlyReads (old new : StationView) : Type 0 where
  pub areas : IsTrue old.is_told → Confined SameBytes old new
  pub counts : OnlyRise old new
  pub writes : new.writes ≡ old.writes
