use Rattle.gaz_lines.specs.Cutter.{IsFresh}
use Rattle.gaz_trials.proofs.line_tests.lines_that_fill_the_buffer.Given as goal

abbrev pub invariant-loop-count : goal.invariant-loop-count
invariant-loop-count g l = IsFresh l.cutter
