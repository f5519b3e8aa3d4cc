use Rattle.gaz_plain.proofs.Steps.{step_leaves_others, step_puts, step_takes_out}
use Rattle.gaz_plain.proofs.laws.steps_by_key.Goals as goal

pub returns : goal.returns
returns c = record { others = step_leaves_others; puts = step_puts; takes_out = step_takes_out }
