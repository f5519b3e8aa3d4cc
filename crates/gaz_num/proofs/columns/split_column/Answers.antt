use Rattle.std.proofs.Common.{ℕ, ◌≤◌, length, subst}
use Rattle.gaz_num.proofs.PiecesLemmas.{fields_at, fields_whole}
use Rattle.gaz_num.proofs.columns.split_column.Goals as goal

pub returns-then-place-line : goal.returns-then-place-line
returns-then-place-line c = fields_at c.args.line.now c.first_tab-place.result c.first_tab-place.ensures c.if-place-line.true

pub returns-else-place-line : goal.returns-else-place-line
returns-else-place-line c = fields_whole c.args.line.now (subst (λ (k : ℕ). length c.args.line.now ≤ k) c.first_tab-place.ensures c.if-place-line.false)
