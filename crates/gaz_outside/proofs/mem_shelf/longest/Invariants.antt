use Rattle.std.proofs.Common.{◌≤◌, vec_len, take}
use Rattle.std.specs.Prelude.{All}
use Rattle.gaz_outside.proofs.mem_shelf.longest.Given as goal

abbrev pub invariant-loop-other : goal.invariant-loop-other
invariant-loop-other l = record {
  first : vec_len l.files ≤ l.most;
  each : All (λ other. vec_len other ≤ l.most) (take l.other-index l.later);
}
