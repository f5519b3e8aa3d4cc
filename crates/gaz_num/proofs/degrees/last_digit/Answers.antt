use Rattle.std.proofs.Common.{◌*◌, ◌^◌, ℕ, ap, ◌∙◌}
use Rattle.gaz_num.proofs.DigitsLemmas.{powers}
use Rattle.gaz_num.proofs.degrees.last_digit.Goals as goal

pub returns-clause-bound : goal.returns-clause-bound
returns-clause-bound c = ap (λ (n : ℕ). n * 10 ^ c.args.digits) c.pow.ensures ∙ powers c.args.digits c.requires
