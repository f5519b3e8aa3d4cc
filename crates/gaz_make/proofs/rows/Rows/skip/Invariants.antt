use Rattle.std.proofs.Common.{◌≡◌, ◌+◌}
use Rattle.gaz_make.proofs.rows.Rows.skip.Given as goal

abbrev pub invariant-loop-row : goal.invariant-loop-row
invariant-loop-row l = record {
  start : l.self.start ≡ l.fn.self.start;
  done : l.self.done ≡ l.fn.self.done + l._row;
}
