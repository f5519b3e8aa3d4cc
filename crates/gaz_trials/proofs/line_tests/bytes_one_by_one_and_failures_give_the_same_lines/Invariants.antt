use Rattle.gaz_lines.specs.Cutter.{IsFresh}
use Rattle.gaz_trials.proofs.line_tests.bytes_one_by_one_and_failures_give_the_same_lines.Given as goal

abbrev pub invariant-loop-call : goal.invariant-loop-call
invariant-loop-call g l = IsFresh l.cutter

abbrev pub invariant-loop-call-2 : goal.invariant-loop-call-2
invariant-loop-call-2 g l = IsFresh l.cutter
