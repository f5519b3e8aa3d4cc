use Rattle.std.proofs.Common.{IsSome}
use Rattle.gaz_trials.proofs.shelf_tests.read_parts.Given as goal

abbrev pub invariant-loop-at : goal.invariant-loop-at
invariant-loop-at g l = IsSome ((g.S.Shelf.view l.shelf).opened l.file)
