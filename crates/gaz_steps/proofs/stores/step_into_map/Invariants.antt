use Rattle.std.proofs.Common.{◌≤◌}
use Rattle.gaz_steps.proofs.stores.step_into_map.Given as goal

abbrev pub invariant-loop-id : goal.invariant-loop-id
invariant-loop-id l = l.taken ≤ l.id
