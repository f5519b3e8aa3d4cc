use Rattle.std.proofs.Common.{length}
use Rattle.gaz_rows.proofs.store.RowStore.+remove_missing.Given as goal

abbrev pub decreases-remove_missing : goal.decreases-remove_missing
decreases-remove_missing g l = length l.keys.now
