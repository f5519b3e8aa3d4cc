use Rattle.std.proofs.Common.{arith}
use Rattle.gaz_row.proofs.WalkLemmas.{text_is_column}
use Rattle.gaz_row.proofs.columns.Columns.text.Goals as goal

pub returns : goal.returns
returns c = text_is_column c.args.self.now.texts c.args.number _ c.args.self.now.line.now (let size = c.type_inv.self in omega (arith, size)) c.args.self.now.cut
