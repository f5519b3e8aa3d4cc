use Rattle.std.proofs.Common.{◌≡◌, []}
use Rattle.std.specs.Prelude.{IfSome, IsSome}
use Rattle.gaz_lines.specs.Files.{left_at}
use Rattle.gaz_lines.specs.Cutter.{HasEnded, MayReadFile, place_of}
use Rattle.gaz_trials.proofs.line_tests.lines_of_file.Given as goal

abbrev pub invariant-loop : goal.invariant-loop
invariant-loop g l = record {
  reads : MayReadFile l.cutter l.file;
  opened : IsSome ((g.F.Shelf.view l.shelf).opened l.file);
  ended : HasEnded l.cutter → IfSome (left_at (g.F.Shelf.view l.shelf) l.file (place_of l.cutter)) (λ bytes. bytes ≡ []);
}
