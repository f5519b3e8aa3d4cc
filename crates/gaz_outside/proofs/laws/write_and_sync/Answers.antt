use Rattle.std.proofs.Common.{IsTrue, Bool, length, subst, sym}
use Rattle.gaz_outside.proofs.Runs.{area_stays_on, one_write, one_stays}
use Rattle.gaz_outside.proofs.laws.write_and_sync.Goals as goal

pub returns-in-Ok-clause-others : goal.returns-in-Ok-clause-others
returns-in-Ok-clause-others g c told a other =
    let mid = g.T.Station.view c.write_at.new.self in
    let told_mid : IsTrue mid.is_told = subst (λ (b : Bool). IsTrue b) (sym c.write_at.ensures.counts.told) told in
    area_stays_on (g.T.Station.view c.args.station.now) mid (g.T.Station.view c.sync.new.self) a ((c.write_at.ensures.changed told).others a other) ((c.sync.ensures.stays told_mid).areas a)

pub returns-in-Err-clause-others : goal.returns-in-Err-clause-others
returns-in-Err-clause-others g c told = (c.write_at.ensures.changed told).others

pub returns-in-Ok-clause-confined : goal.returns-in-Ok-clause-confined
returns-in-Ok-clause-confined g c told =
    let old = g.T.Station.view c.args.station.now in
    let mid = g.T.Station.view c.write_at.new.self in
    let n = length c.args.bytes.now in
    let told_mid : IsTrue mid.is_told = subst (λ (b : Bool). IsTrue b) (sym c.write_at.ensures.counts.told) told in
    let written = one_write c.args.area c.args.at n old mid (λ o left. g.met.T.Station.only_now c.args.station.now o told left) (c.write_at.ensures.changed told) in
    one_stays c.args.area c.args.at n old mid (g.T.Station.view c.sync.new.self) written (c.sync.ensures.stays told_mid)

pub returns-in-Err-clause-confined : goal.returns-in-Err-clause-confined
returns-in-Err-clause-confined g c told =
    one_write c.args.area c.args.at (length c.args.bytes.now) (g.T.Station.view c.args.station.now) (g.T.Station.view c.write_at.new.self)
    (λ o left. g.met.T.Station.only_now c.args.station.now o told left) (c.write_at.ensures.changed told)
