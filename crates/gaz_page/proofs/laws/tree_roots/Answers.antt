use Rattle.gaz_page.proofs.TreeRoot.{tree_root_first, tree_root_forth, tree_root_fits}
use Rattle.gaz_page.proofs.laws.tree_roots.Goals as goal

pub returns : goal.returns
returns c = record { written = tree_root_first; read = tree_root_forth; fits = tree_root_fits }
