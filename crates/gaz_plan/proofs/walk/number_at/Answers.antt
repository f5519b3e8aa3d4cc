use Rattle.std.proofs.Common.{ap, sym, ◌∙◌}
use Rattle.gaz_keys.specs.Parts.{four_at}
use Rattle.gaz_plan.proofs.Numbers.{number_bytes}
use Rattle.gaz_plan.proofs.walk.number_at.Goals as goal

pub returns : goal.returns
returns c = c.four_at.ensures ∙ ap (four_at c.args.at) (sym (number_bytes c.args.key.now c.told-key (λ i. c.fits-key i)))
