use Rattle.gaz_together.proofs.Keeps.{tree_after_put, tree_after_drop, tree_after_replace, record_after_key, heap_after_key}
use Rattle.gaz_together.proofs.laws.side_by_side.Goals as goal

pub returns : goal.returns
returns c = record { put = tree_after_put; dropped = tree_after_drop; replaced = tree_after_replace; records = record_after_key; heap = heap_after_key }
