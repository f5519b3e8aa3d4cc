use Rattle.std.proofs.Common.{◌∙◌}
use Rattle.gaz_alt.proofs.AcceptedLemmas.{accepted}
use Rattle.gaz_alt.proofs.alt.Alt.of.Goals as goal

pub unwrap-requires : goal.unwrap-requires
unwrap-requires c = c.of.ensures.some ∙ (accepted c.args.line.now c.requires).columns
