-- What an object tells that tells no bytes.
use Rattle.std.specs.Prelude.{ℕ, false, [], IsTrue}
use Rattle.gaz_outside.specs.Station.{StationView}

-- It isn't told, so nothing need be shown.
pub not_told : IsTrue false → ⊥
not_told told = cc

-- a station that tells nothing but its faults
abbrev pub untold_station : ℕ → StationView
untold_station faults = record {
  is_told = false;
  bytes = λ _. [];
  may_leave = λ _ _. ⊥;
  printed = [];
  moment = 0;
  left_since = λ _ _. ⊥;
  faults = faults;
  reads = 0;
  writes = 0;
}
