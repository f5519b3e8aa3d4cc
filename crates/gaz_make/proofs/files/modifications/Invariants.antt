use Rattle.std.proofs.Common.{◌≡◌, ◌*◌}
use Rattle.gaz_make.specs.Files.{changed_line}
use Rattle.gaz_make.proofs.Lines.{lines_by}
use Rattle.gaz_make.proofs.files.modifications.Given as goal

abbrev pub invariant-loop-changed : goal.invariant-loop-changed
invariant-loop-changed l = record {
  bytes : l.bytes.items ≡ lines_by (λ k. changed_line l.start (100 * k)) l._changed;
  start : l.made.start ≡ l.start;
  done : l.made.done ≡ 100 * l._changed;
}
