use Rattle.std.proofs.Common.{◌≡◌, ◌≤◌, ◌+◌, ◌*◌, ◌++◌, length}
use Rattle.gaz_make.specs.Chunk.{text_of}
use Rattle.gaz_make.specs.Made.{made_table}
use Rattle.gaz_make.proofs.rows.Rows.fill.Given as goal

abbrev pub invariant-loop-row : goal.invariant-loop-row
invariant-loop-row l = record {
  text : made_table l.fn.self.start l.fn.self.done ++ text_of l.chunk ≡ made_table l.fn.self.start l.self.done;
  start : l.self.start ≡ l.fn.self.start;
  done : l.self.done ≡ l.fn.self.done + l._row;
  size : length (text_of l.chunk) ≤ 256 * l._row;
}
