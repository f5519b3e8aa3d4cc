use Rattle.gaz_leaf.specs.Node.{key_of}
use Rattle.gaz_rows.proofs.Working.{tree_is, has_tree, turned_by_put, sound_put}
use Rattle.gaz_rows.proofs.store.RowStore.put_key.Goals as goal

pub returns-in-Err-clause-damaged : goal.returns-in-Err-clause-damaged
returns-in-Err-clause-damaged g c told pairs kept places laid room few =
    let v = g.P.Pages.view c.args.self.now.pages in
    let root = c.args.self.now.root in
    let same = tree_is c.tree-tree.result root c.tree-tree.ensures.top c.tree-tree.ensures.height in
    let tree = has_tree v root c.tree-tree.result same pairs kept places laid in
    sound_put v root c.tree-tree.result same pairs kept places laid c.in-Err.fault (c.in-Err.ensures.damaged told pairs tree) room few

pub returns-clause-turns : goal.returns-clause-turns
returns-clause-turns g c told pairs kept places laid =
    let v = g.P.Pages.view c.args.self.now.pages in
    let root = c.args.self.now.root in
    let same = tree_is c.tree-tree.result root c.tree-tree.ensures.top c.tree-tree.ensures.height in
    let tree = has_tree v root c.tree-tree.result same pairs kept places laid in
    turned_by_put v root c.tree-tree.result same pairs kept places laid (g.P.Pages.view c.put.new.pages) (record root { top = c.put.new.self.top; height = c.put.new.self.height })
    (record { key = key_of c.args.key.now; value = c.args.value })
    (c.in-Ok.ensures.put told pairs tree)
