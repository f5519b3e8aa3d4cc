use Rattle.gaz_rows.proofs.Records.{is_heap, has_added, sound_add}
use Rattle.gaz_rows.proofs.store.RowStore.add_record.Goals as goal

pub returns-in-Ok-clause-added : goal.returns-in-Ok-clause-added
returns-in-Ok-clause-added g c told pairs places laid =
    let v = g.P.Pages.view in
    let root = c.args.self.now.root in
    has_added (v c.args.self.now.pages) (v c.put.new.pages) root c.put.new.current pairs places laid c.args.bytes.now c.in-Ok.place (c.in-Ok.ensures.behind told)
    (c.in-Ok.ensures.puts told laid.tree.chain.frees (is_heap (v c.args.self.now.pages) root pairs places laid))

pub returns-in-Err-clause-damaged : goal.returns-in-Err-clause-damaged
returns-in-Err-clause-damaged g c told pairs places laid room =
    let v = g.P.Pages.view in
    let root = c.args.self.now.root in
    sound_add (v c.args.self.now.pages) root pairs places laid c.in-Err.fault (c.in-Err.ensures.damaged told laid.tree.chain.frees (is_heap (v c.args.self.now.pages) root pairs places laid)) room
