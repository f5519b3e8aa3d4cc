use Rattle.gaz_plain.proofs.Selected.{answers_have_rows}
use Rattle.gaz_plain.proofs.laws.answers_have_rows.Goals as goal

pub returns : goal.returns
returns c = answers_have_rows
