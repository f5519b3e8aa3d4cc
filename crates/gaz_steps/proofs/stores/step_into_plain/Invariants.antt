use Rattle.std.proofs.Common.{◌≤◌, IsSome}
use Rattle.gaz_steps.proofs.stores.step_into_plain.Given as goal

abbrev pub invariant-loop-id : goal.invariant-loop-id
invariant-loop-id l = record { dated : IsSome l.gaz.date; counted : l.taken ≤ l.id }
