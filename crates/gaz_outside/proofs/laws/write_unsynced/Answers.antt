use Rattle.std.proofs.Common.{IsTrue, Bool, length, subst, sym}
use Rattle.gaz_outside.proofs.Runs.{one_write}
use Rattle.gaz_outside.proofs.laws.write_unsynced.Goals as goal

pub returns-clause-torn : goal.returns-clause-torn
returns-clause-torn g c told outcome left =
    let new = g.T.Station.view c.write_at.new.self in
    let told_new : IsTrue new.is_told = subst (λ (b : Bool). IsTrue b) (sym c.write_at.ensures.counts.told) told in
    (c.write_at.ensures.changed told).outcomes (outcome.areas c.args.area) ((g.met.T.Station.only_now c.write_at.new.self outcome told_new left).areas c.args.area)

pub returns-clause-others : goal.returns-clause-others
returns-clause-others g c told outcome left a other =
    let new = g.T.Station.view c.write_at.new.self in
    let told_new : IsTrue new.is_told = subst (λ (b : Bool). IsTrue b) (sym c.write_at.ensures.counts.told) told in
    ((c.write_at.ensures.changed told).others a other).outcomes (outcome.areas a) ((g.met.T.Station.only_now c.write_at.new.self outcome told_new left).areas a)

pub returns-clause-confined : goal.returns-clause-confined
returns-clause-confined g c told =
    one_write c.args.area c.args.at (length c.args.bytes.now) (g.T.Station.view c.args.station.now) (g.T.Station.view c.write_at.new.self)
    (λ o left. g.met.T.Station.only_now c.args.station.now o told left) (c.write_at.ensures.changed told)
