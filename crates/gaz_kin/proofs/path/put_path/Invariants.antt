use Rattle.std.specs.Prelude.{◌≡◌, ◌≤◌, length}
use Rattle.gaz_keys.specs.Front.{IsFront}
use Rattle.gaz_kin.specs.Kept.{path_with}
use Rattle.gaz_kin.proofs.path.put_path.Given as goal

-- what stands there is the front of the path so far
abbrev pub invariant-loop-above : goal.invariant-loop-above
invariant-loop-above l =
    record {
      front : IsFront (length l.fn.bytes) (path_with l.byte l.above l.row) l.bytes l.len;
      bound : l.len ≤ length l.fn.bytes;
      size : length l.bytes ≡ length l.fn.bytes;
    }
