use Rattle.std.proofs.Common.{ap, ◌∙◌}
use Rattle.std.specs.Prelude.{option_and_then}
use Rattle.gaz_heap.specs.Place.{record_at}
use Rattle.gaz_rows.proofs.store.RowStore.get.Goals as goal

pub returns-in-Ok-Some-clause-line : goal.returns-in-Ok-Some-clause-line
returns-in-Ok-Some-clause-line g c told pairs top there =
    let found = rw c.in-Ok-Some.field-0-is at c.in-Ok-Some.ensures.found told pairs top there in
    ap (option_and_then (record_at (g.P.Pages.view c.args.self.now.pages).page)) found.at ∙ found.record_is

pub returns-in-Ok-None-clause-line : goal.returns-in-Ok-None-clause-line
returns-in-Ok-None-clause-line g c told pairs top there =
    ap (option_and_then (record_at (g.P.Pages.view c.args.self.now.pages).page)) (rw c.in-Ok-None.field-0-is at c.in-Ok-None.ensures.found told pairs top there)
