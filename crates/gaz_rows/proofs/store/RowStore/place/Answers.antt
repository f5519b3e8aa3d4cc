use Rattle.std.proofs.Common.{Option, ℕ}
use Rattle.gaz_leaf.specs.Node.{key_of}
use Rattle.gaz_tree.specs.Pairs.{lookup}
use Rattle.gaz_rows.proofs.Asked.{got_sound}
use Rattle.gaz_rows.proofs.store.RowStore.place.Goals as goal

pub returns-in-Err-clause-damaged : goal.returns-in-Err-clause-damaged
returns-in-Err-clause-damaged g c = λ told pairs top. got_sound (Option ℕ) (lookup (key_of c.args.key.now) pairs) c.in-Err.fault c.from.result (c.in-Err.ensures.got told pairs (rw (c.tree-tree.ensures.height, c.tree-tree.ensures.top) top)) c.from.ensures
