use Rattle.std.proofs.Common.{subst}
use Rattle.std.specs.Prelude.{Some}
use Rattle.gaz_rows.specs.Target.{IsTargetOf}
use Rattle.gaz_rows.proofs.SteppedOver.{map_value}
use Rattle.gaz_rows.proofs.store.RowStore.key_of.Goals as goal

pub returns-in-Code-clause-key : goal.returns-in-Code-clause-key
returns-in-Code-clause-key g c =
    map_value c.key_of_code.result
    (λ key over told gaz stands kind line target.
    let by_code = subst (λ t. IsTargetOf kind line (Some t)) c.in-Code.is target in
    over told gaz stands kind line by_code.0 by_code.1)
    c.key_of_code.ensures.key
