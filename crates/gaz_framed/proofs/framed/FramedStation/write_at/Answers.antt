use Rattle.std.proofs.Common.{IsTrue, subst}
use Rattle.gaz_framed.proofs.Kept.{agrees_written}
use Rattle.gaz_framed.proofs.framed.FramedStation.write_at.Goals as goal

-- the frames follow what was written
pub invariant_of-self-clause-written : goal.invariant_of-self-clause-written
invariant_of-self-clause-written g c = c.renew.ensures.none c.args.self.now.written

pub invariant_of-self-clause-current : goal.invariant_of-self-clause-current
invariant_of-self-clause-current g c told_now =
    let view = g.T.Station.view in
    let framed = c.args.self.now in
    let told = subst IsTrue c.write_at.ensures.counts.told told_now in
    agrees_written c.renew.new.pool.table.frames.items c.args.area c.args.at c.args.bytes.now (view framed.station) (view c.write_at.new.self) (c.in-Ok.ensures.written told) (c.write_at.ensures.changed told)
    (c.renew.ensures.follows (view framed.station).bytes (framed.current told))

-- what the device did to the area isn't known
pub invariant_of-self-in-Err-clause-written : goal.invariant_of-self-in-Err-clause-written
invariant_of-self-in-Err-clause-written g c = c.drop_of.ensures.none c.args.self.now.written

pub invariant_of-self-in-Err-clause-current : goal.invariant_of-self-in-Err-clause-current
invariant_of-self-in-Err-clause-current g c told_now =
    let view = g.T.Station.view in
    let framed = c.args.self.now in
    let told = subst IsTrue c.write_at.ensures.counts.told told_now in
    c.drop_of.ensures.follows (view framed.station).bytes (view c.write_at.new.self).bytes (λ a differs. ((c.write_at.ensures.changed told).others a differs).bytes) (framed.current told)
