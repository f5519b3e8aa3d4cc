use Rattle.gaz_rows.proofs.Asked.{next_failed}
use Rattle.gaz_rows.proofs.store.RowStore.next.Goals as goal

pub returns-in-Err-clause-gives : goal.returns-in-Err-clause-gives
returns-in-Err-clause-gives g c told left comes =
    let view = g.P.Pages.view in
    next_failed (view c.args.self.now.pages).page (view c.next.new.pages).page c.next.new.self left c.in-Err.fault c.from.result (c.in-Err.ensures.gives told left comes) c.from.ensures
