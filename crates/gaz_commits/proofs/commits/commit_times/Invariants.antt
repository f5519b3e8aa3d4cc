use Rattle.std.specs.Prelude.{IsFalse}
use Rattle.gaz_commits.proofs.commits.commit_times.Given as goal

abbrev pub invariant-loop-time : goal.invariant-loop-time
invariant-loop-time g l = IsFalse (g.T.Station.view l.station).is_told
