use Rattle.std.proofs.Common.{◌≡◌, []}
use Rattle.std.specs.Prelude.{IfSome}
use Rattle.gaz_outside.specs.Outside.{left_of}
use Rattle.gaz_lines.specs.Cutter.{HasEnded, MayReadSource}
use Rattle.gaz_trials.proofs.line_tests.lines_of.Given as goal

abbrev pub invariant-loop : goal.invariant-loop
invariant-loop g l = record {
  reads : MayReadSource l.cutter;
  ended : HasEnded l.cutter → IfSome (left_of (g.S.Source.view l.source)) (λ bytes. bytes ≡ []);
}
