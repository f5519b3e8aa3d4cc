use Rattle.gaz_redo.proofs.Steps.{bytes_stay}
use Rattle.gaz_redo.proofs.group.Group.hold.Goals as goal

pub returns-in_err-read_at-clause-stays : goal.returns-in_err-read_at-clause-stays
returns-in_err-read_at-clause-stays g c told =
    bytes_stay (g.T.Station.view c.args.station.now) (g.T.Station.view c.read_at.new.self) (λ o left. g.met.T.Station.only_now c.args.station.now o told left) (c.read_at.ensures.stays told)

pub returns-clause-stays : goal.returns-clause-stays
returns-clause-stays g c told =
    bytes_stay (g.T.Station.view c.args.station.now) (g.T.Station.view c.read_at.new.self) (λ o left. g.met.T.Station.only_now c.args.station.now o told left) (c.read_at.ensures.stays told)
