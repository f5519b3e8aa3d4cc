use Rattle.std.proofs.Common.{◌≡◌, ◌+◌, ◌*◌, ◌≤◌, IsTrue, take, ◌++◌, length, replicate}
use Rattle.std.specs.List.{flat_map}
use Rattle.std.specs.Int.{w64, to_be_bytes}
use Rattle.gaz_outside.specs.declared.station.Area.TheVariants.{Log}
use Rattle.gaz_outside.specs.Station.{Counts, Confined, AnyIn}
use Rattle.gaz_redo.specs.Batch.{once_out, writes_with}
use Rattle.gaz_redo.specs.Slots.{slots_in, StartsWith}
use Rattle.gaz_redo.specs.Content.{spelled_slot}
use Rattle.gaz_redo.proofs.place.write_log.Given as goal

abbrev pub invariant-loop-image : goal.invariant-loop-image
invariant-loop-image g l =
    let view = g.T.Station.view in
    record {
      place : l.at ≡ 16 + 4112 * l.image-index;
      area : l.batch.area ≡ Log;
      logged : IsTrue (view l.fn.station).is_told → StartsWith ((to_be_bytes w64 (length (slots_in l.images)) ++ replicate 8 0) ++ flat_map spelled_slot (take l.image-index (slots_in l.images))) (once_out l.batch (view l.station).bytes Log);
      confined : IsTrue (view l.fn.station).is_told → Confined (AnyIn Log) (view l.fn.station) (view l.station);
      counts : Counts 0 (2 * l.image-index + 1) (view l.fn.station) (view l.station);
      writes : writes_with l.batch (view l.station) ≤ (view l.fn.station).writes + (2 * l.image-index + 1);
      faults : (view l.station).faults ≡ (view l.fn.station).faults;
    }
