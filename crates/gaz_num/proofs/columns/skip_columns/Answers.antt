use Rattle.std.proofs.Common.{◌∙◌}
use Rattle.gaz_num.specs.Pieces.{fields}
use Rattle.gaz_num.proofs.PiecesLemmas.{next_fields, no_more_fields}
use Rattle.gaz_num.proofs.columns.skip_columns.Goals as goal

pub returns-in-None : goal.returns-in-None
returns-in-None c = no_more_fields c.loop.counter c.args.n (fields c.args.line.now) c.loop.rest.now (c.loop.invariant ∙ c.in-None.ensures) c.loop-test.true

pub loop-preserved : goal.loop-preserved
loop-preserved c = next_fields c.loop.counter (fields c.args.line.now) (fields c.in-Some.behind.now) c.in-Some.field-0-0.now (c.loop.invariant ∙ c.in-Some.ensures)
