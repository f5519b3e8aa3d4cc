use Rattle.gaz_leaf.specs.Node.{key_of}
use Rattle.gaz_rows.proofs.Working.{tree_is, has_tree, turned_by_remove}
use Rattle.gaz_rows.proofs.store.RowStore.remove_key.Goals as goal

pub returns-in-Err-clause-damaged : goal.returns-in-Err-clause-damaged
returns-in-Err-clause-damaged g c told pairs kept places laid room few =
    let v = g.P.Pages.view c.args.self.now.pages in
    let root = c.args.self.now.root in
    let same = tree_is c.tree-tree.result root c.tree-tree.ensures.top c.tree-tree.ensures.height in
    c.in-Err.ensures.damaged told pairs (has_tree v root c.tree-tree.result same pairs kept places laid)

pub returns-clause-turns : goal.returns-clause-turns
returns-clause-turns g c told pairs kept places laid =
    let v = g.P.Pages.view c.args.self.now.pages in
    let root = c.args.self.now.root in
    let same = tree_is c.tree-tree.result root c.tree-tree.ensures.top c.tree-tree.ensures.height in
    let tree = has_tree v root c.tree-tree.result same pairs kept places laid in
    turned_by_remove v root c.tree-tree.result same pairs kept places laid (g.P.Pages.view c.remove.new.pages) (record root { top = c.remove.new.self.top; height = c.remove.new.self.height })
    (key_of c.args.key.now) c.in-Ok.field-0 (c.in-Ok.ensures.removed told pairs tree)
