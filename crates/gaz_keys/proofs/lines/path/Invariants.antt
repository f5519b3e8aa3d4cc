use Rattle.std.specs.Prelude.{◌≤◌}
use Rattle.gaz_keys.specs.Front.{IsFront}
use Rattle.gaz_keys.specs.Lines.{path_to}
use Rattle.gaz_keys.proofs.lines.path.Given as goal

-- what stands there is the front of the path so far
abbrev pub invariant-loop-above : goal.invariant-loop-above
invariant-loop-above g l =
    record {
      front : IsFront g.row.SIZE (path_to l.above l.row) l.bytes l.len;
      bound : l.len ≤ g.row.SIZE;
    }
