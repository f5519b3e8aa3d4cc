use Rattle.std.proofs.Common.{sym, ap, ◌∙◌}
use Rattle.std.specs.Prelude.{nat_eq}
use Rattle.std.specs.List.{starts_with}
use Rattle.gaz_plain.proofs.Wanting.{starts_same}
use Rattle.gaz_plan.specs.Wanted.{fits}
use Rattle.gaz_plan.proofs.wanted.Wanted.fits.Goals as goal

pub returns-in_ok-name_key-in-Starts : goal.returns-in_ok-name_key-in-Starts
returns-in_ok-name_key-in-Starts c =
    starts_same _ _ _ c.starts-in-Starts.ensures
    ∙ ap (λ key. starts_with nat_eq key c.in-Starts.key) c.in_ok-name_key-in-Starts.ensures.key
    ∙ ap (λ wanted. fits wanted c.args.name.now) (sym c.in-Starts.is)
