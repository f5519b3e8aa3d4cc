use Rattle.gaz_rows.proofs.Working.{map_ok}
use Rattle.gaz_rows.proofs.Records.{is_heap, has_dropped, sound_drop_all}
use Rattle.gaz_rows.proofs.store.RowStore.drop_record.Goals as goal

pub returns-clause-dropped : goal.returns-clause-dropped
returns-clause-dropped g c =
    let v = g.P.Pages.view in
    let root = c.args.self.now.root in
    map_ok c.drop_record.result
    (λ drops told pairs places laid there.
    let heap = is_heap (v c.args.self.now.pages) root pairs places laid in
    let held = laid.held c.args.place there in
    has_dropped (v c.args.self.now.pages) (v c.drop_record.new.pages) root pairs places laid c.args.place there (drops told laid.tree.chain.frees held.0 heap held.1))
    c.drop_record.ensures.drops

pub returns-clause-damaged : goal.returns-clause-damaged
returns-clause-damaged g c told pairs places laid there =
    let v = g.P.Pages.view in
    let held = laid.held c.args.place there in
    sound_drop_all (v c.args.self.now.pages) c.args.place held.0 held.1.at c.drop_record.result (c.drop_record.ensures.damaged told)
