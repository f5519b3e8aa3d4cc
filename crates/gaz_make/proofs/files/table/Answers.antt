use Rattle.std.proofs.Common.{◌∙◌, ap, sym, arith}
use Rattle.gaz_make.specs.Made.{made_line, made_table}
use Rattle.gaz_make.proofs.Lines.{none_by}
use Rattle.gaz_make.proofs.files.table.Goals as goal

pub loop-chunk-init : goal.loop-chunk-init
loop-chunk-init c = record {
  bytes = c.new-bytes.ensures.items ∙ sym (none_by (made_line c.args.start)) ∙ ap (made_table c.args.start) (sym c.new-made.ensures.done);
  start = c.new-made.ensures.start;
  done = let done = c.new-made.ensures.done in omega (arith, done);
}
