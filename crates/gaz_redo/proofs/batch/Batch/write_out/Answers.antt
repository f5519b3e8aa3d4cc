use Rattle.gaz_redo.proofs.Batches.{batch_waits, batch_goes}
use Rattle.gaz_redo.proofs.batch.Batch.write_out.Goals as goal

pub returns-then-self-eq0-clause-confined : goal.returns-then-self-eq0-clause-confined
returns-then-self-eq0-clause-confined g c told =
    batch_waits c.args.self.now (g.T.Station.view c.args.station.now) (λ o left. g.met.T.Station.only_now c.args.station.now o told left)

pub returns-clause-confined : goal.returns-clause-confined
returns-clause-confined g c told =
    batch_goes c.args.self.now (g.T.Station.view c.args.station.now) (g.T.Station.view c.write_at.new.self)
    (λ o left. g.met.T.Station.only_now c.args.station.now o told left) (c.write_at.ensures.changed told)
