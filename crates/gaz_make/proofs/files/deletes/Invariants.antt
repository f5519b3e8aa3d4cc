use Rattle.std.proofs.Common.{◌≡◌, ◌*◌, ◌-◌}
use Rattle.gaz_make.specs.Files.{delete_line}
use Rattle.gaz_make.proofs.Lines.{lines_by}
use Rattle.gaz_make.proofs.files.deletes.Given as goal

abbrev pub invariant-loop-thousand : goal.invariant-loop-thousand
invariant-loop-thousand l = l.bytes.items ≡ lines_by (λ k. delete_line (1000 * k - 1)) l.thousand
