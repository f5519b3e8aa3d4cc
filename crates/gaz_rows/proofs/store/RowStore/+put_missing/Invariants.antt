use Rattle.std.proofs.Common.{length}
use Rattle.gaz_rows.proofs.store.RowStore.+put_missing.Given as goal

abbrev pub decreases-put_missing : goal.decreases-put_missing
decreases-put_missing g l = length l.keys.now
