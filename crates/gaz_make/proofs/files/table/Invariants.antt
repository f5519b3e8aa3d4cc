use Rattle.std.proofs.Common.{◌≡◌, ◌≤◌, ◌-◌}
use Rattle.gaz_make.specs.Made.{made_table}
use Rattle.gaz_make.proofs.files.table.Given as goal

abbrev pub invariant-loop-chunk : goal.invariant-loop-chunk
invariant-loop-chunk l = record {
  bytes : l.bytes.items ≡ made_table l.start l.made.done;
  start : l.made.start ≡ l.start;
  done : l.made.done ≤ l.rows;
}

abbrev pub decreases-loop-chunk : goal.decreases-loop-chunk
decreases-loop-chunk l = l.rows - l.made.done
