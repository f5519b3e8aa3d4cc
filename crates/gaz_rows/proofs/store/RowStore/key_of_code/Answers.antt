use Rattle.std.proofs.Common.{[]}
use Rattle.gaz_rows.proofs.SteppedOver.{code_over}
use Rattle.gaz_rows.proofs.store.RowStore.key_of_code.Goals as goal

pub returns-in-Ok-clause-key : goal.returns-in-Ok-clause-key
returns-in-Ok-clause-key g c told gaz stands kind line table keyed =
    code_over gaz stands.slots stands.is_gazetteer stands.indexed.slots_differ c.args.code.now c.in-Ok.slot (c.in-Ok.ensures.slot told [] gaz stands) kind line table keyed c.code_key_of.result c.code_key_of.ensures
