use Rattle.std.proofs.Common.{◌≡◌, ◌≤◌, ◌-◌}
use Rattle.std.specs.Io.KnownBytes.{append_known}
use Rattle.gaz_outside.specs.Outside.{printed_of}
use Rattle.gaz_outside.specs.Station.{AreasStay}
use Rattle.gaz_make.specs.Made.{made_table}
use Rattle.gaz_make.proofs.print.make.Given as goal

abbrev pub invariant-loop-chunk : goal.invariant-loop-chunk
invariant-loop-chunk g l =
    let old = g.T.Station.view l.fn.station in
    let now = g.T.Station.view l.station in
    record {
      printed : printed_of now ≡ append_known (printed_of old) (made_table l.start l.made.done);
      start : l.made.start ≡ l.start;
      done : l.made.done ≤ l.rows;
      told : now.is_told ≡ old.is_told;
      areas : AreasStay old now;
      faults : now.faults ≡ old.faults;
    }

abbrev pub decreases-loop-chunk : goal.decreases-loop-chunk
decreases-loop-chunk g l = l.rows - l.made.done
