use Rattle.gaz_rows.proofs.SteppedRoots.{change_fault}
use Rattle.gaz_rows.proofs.store.RowStore.replace.Goals as goal

pub returns-in-Err-replace_line-clause-fault : goal.returns-in-Err-replace_line-clause-fault
returns-in-Err-replace_line-clause-fault g c =
    change_fault c.args.table c.args.self.now.root (g.P.Pages.view c.args.self.now.pages) c.args.place c.args.was.now c.in-Err-replace_line.fault c.from.result
    (λ told pairs places laid there left. c.in-Err-replace_line.ensures.damaged told pairs places laid there left) c.from.ensures
