use Rattle.gaz_redo.proofs.Steps.{still, both_stay}
use Rattle.gaz_open.proofs.opening.read_mirror.Goals as goal

-- frames that are reserved leave the device as it was
pub returns-in-Ok-clause-stays : goal.returns-in-Ok-clause-stays
returns-in-Ok-clause-stays g c told =
    let v0 = g.T.Station.view c.args.station.now in
    let v1 = g.T.Station.view c.find_root.new.station in
    both_stay v0 v1 (g.T.Station.view c.reserve.new.self) (c.find_root.ensures.stays told) (c.reserve.ensures.reads.areas (still v0.is_told v1.is_told c.find_root.ensures.counts.told told))

pub returns-in-Err-reserve-clause-stays : goal.returns-in-Err-reserve-clause-stays
returns-in-Err-reserve-clause-stays g c told =
    let v0 = g.T.Station.view c.args.station.now in
    let v1 = g.T.Station.view c.find_root.new.station in
    both_stay v0 v1 (g.T.Station.view c.reserve.new.self) (c.find_root.ensures.stays told) (c.reserve.ensures.reads.areas (still v0.is_told v1.is_told c.find_root.ensures.counts.told told))
