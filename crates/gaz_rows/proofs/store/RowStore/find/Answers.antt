use Rattle.gaz_rows.proofs.store.RowStore.find.Goals as goal

pub returns-in-Err-clause-damaged : goal.returns-in-Err-clause-damaged
returns-in-Err-clause-damaged g c = λ told pairs top there. c.in-Err.ensures.damaged told pairs top
