use Rattle.std.proofs.Common.{◌≡◌, ◌≤◌, take, drop, reverse}
use Rattle.gaz_outside.specs.declared.station.Area.{Area}
use Rattle.gaz_outside.specs.Events.{area_bytes}
use Rattle.gaz_outside.specs.Stopped.{stopped, unsynced}
use Rattle.gaz_outside.proofs.stopped.stopped_areas.Given as goal

abbrev pub invariant-loop-place : goal.invariant-loop-place
invariant-loop-place l = record {
  areas : (a : Area) → area_bytes l.areas a ≡ stopped l.keep l.fill (reverse (take l.place l.events)) (drop l.place l.events) a;
  count : l.count ≡ unsynced (reverse (take l.place l.events)) (drop l.place l.events);
  small : l.count ≤ l.place;
}
