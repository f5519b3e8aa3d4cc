-- How a run of `make` may end.
use Rattle.std.specs.Prelude.{◌≡◌, ◌≢◌, ◌⊎◌, ℕ}
use Rattle.gaz_outside.specs.Outside.{StationView, HasRisen, RisesOnce, printed_of}
use Rattle.gaz_outside.specs.Station.{AreasStay}
use Rattle.gaz_make.specs.Made.{made_table}
use Rattle.gaz_serve.specs.Serve.{Ends, HasPrinted}

-- A run of `make` over a station: what it did to it, as its view tells, and its status.
pub record MakeRan {T : Type 0} (station : T → StationView) (start rows : ℕ) (old_station new_station : T) (status : ℕ) : Type 0 where
  -- The table was printed with status 0, or a front of it with status 3.
  pub ends : HasPrinted (printed_of (station old_station)) (printed_of (station new_station)) (Ends (record { status = 0; text = made_table start rows }) status)
  -- A call that failed was the only one, and ended the run with status 3.
  pub station_failed : status ≡ 3 → RisesOnce (station old_station).faults (station new_station).faults
  pub station_kept : status ≢ 3 → (station new_station).faults ≡ (station old_station).faults
  pub told : (station new_station).is_told ≡ (station old_station).is_told
  -- Each area stays as it was, with what a stop may leave of it.
  pub areas : AreasStay (station old_station) (station new_station)
  pub others : (status ≡ 0) ⊎ (status ≡ 3)
  -- Without a fault the whole table is printed.
  pub complete : (HasRisen (station old_station).faults (station new_station).faults → ⊥) → status ≡ 0
