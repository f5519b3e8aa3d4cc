use Rattle.std.proofs.Common.{length, ◌∙◌}
use Rattle.gaz_redo.specs.Batch.{GoesOn}
use Rattle.gaz_redo.proofs.Batches.{put_behind, batch_waits}
use Rattle.gaz_redo.proofs.batch.Batch.put.Goals as goal

pub returns-then-goes_on-clause-placed : goal.returns-then-goes_on-clause-placed
returns-then-goes_on-clause-placed g c told a =
    let old = c.args.self.now in
    let behind : GoesOn old c.args.area c.args.at (length c.args.bytes.now) = c.goes_on.ensures.0 c.if-goes_on.true in
    put_behind old c.push.new.self c.args.area c.args.at c.args.bytes.now (g.T.Station.view c.args.station.now).bytes a
    behind.0 (c.push.ensures.area ∙ behind.0) behind.1 c.push.ensures.at c.push.ensures.held

pub returns-then-goes_on-clause-confined : goal.returns-then-goes_on-clause-confined
returns-then-goes_on-clause-confined g c told =
    batch_waits c.args.self.now (g.T.Station.view c.args.station.now) (λ o left. g.met.T.Station.only_now c.args.station.now o told left)
