use Rattle.std.proofs.Common.{length}
use Rattle.gaz_serve.proofs.tell.+tell_rows.Given as goal

abbrev pub decreases-tell_rows : goal.decreases-tell_rows
decreases-tell_rows g l = length l.rows.now
