use Rattle.std.proofs.Common.{arith, inr, subst}
use Rattle.gaz_redo.specs.Recovered.{Tells, Means}
use Rattle.gaz_redo.proofs.Steps.{still}
use Rattle.gaz_open.specs.Opens.{HasNoLog}
use Rattle.gaz_open.proofs.Opened.{settled_redone, same_form, same_slots}
use Rattle.gaz_open.proofs.Settling.{opening_synced, opening_recovered}
use Rattle.gaz_open.proofs.settle.settle.Goals as goal

pub returns-in-Redone-clause-settled : goal.returns-in-Redone-clause-settled
returns-in-Redone-clause-settled g c told is_true =
    let v0 = g.T.Station.view c.args.station.now in
    let v1 = g.T.Station.view c.sync_all.new.station in
    let v2 = g.T.Station.view c.recover.new.station in
    let told1 = still v0.is_told v1.is_told c.sync_all.ensures.counts.told told in
    let told2 = still v1.is_told v2.is_told c.recover.ensures.counts.told told1 in
    let tells = subst (λ r. Tells v1 v2 r) c.in-Redone.is (c.in-Ok.ensures.tells told1) in
    let moments = c.recover.ensures.any_moment told1 in
    settled_redone v0 v1 (c.sync_all.ensures.stays told) v2 (λ a. g.met.T.Station.may_stay c.recover.new.station a told2)
    (λ o leaves. g.met.T.Station.counts_now c.recover.new.station v1.moment o told2 moments.later leaves) moments tells.1

pub returns-in-Redone-clause-log : goal.returns-in-Redone-clause-log
returns-in-Redone-clause-log g c told is_true =
    let v0 = g.T.Station.view c.args.station.now in
    let v1 = g.T.Station.view c.sync_all.new.station in
    let v2 = g.T.Station.view c.recover.new.station in
    let told1 = still v0.is_told v1.is_told c.sync_all.ensures.counts.told told in
    let means = subst (λ r. Means v1 r) c.in-Redone.is (c.in-Ok.ensures.means told1) in
    inr (same_form v0 v1 (c.sync_all.ensures.stays told) means.1)

pub returns-in-NotALog-clause-no_log : goal.returns-in-NotALog-clause-no_log
returns-in-NotALog-clause-no_log g c told is_false =
    let v0 = g.T.Station.view c.args.station.now in
    let v1 = g.T.Station.view c.sync_all.new.station in
    let told1 = still v0.is_told v1.is_told c.sync_all.ensures.counts.told told in
    let means = subst (λ r. Means v1 r) c.in-NotALog.is (c.in-Ok.ensures.means told1) in
    subst HasNoLog (λ i a. (c.sync_all.ensures.stays told).bytes a i) means

pub returns-in-Err-Failed-clause-reads : goal.returns-in-Err-Failed-clause-reads
returns-in-Err-Failed-clause-reads g c told slots redo =
    let v0 = g.T.Station.view c.args.station.now in
    let v1 = g.T.Station.view c.sync_all.new.station in
    let told1 = still v0.is_told v1.is_told c.sync_all.ensures.counts.told told in
    let synced = c.sync_all.ensures.counts.reads in
    let redone = c.recover.ensures.reads told1 slots (same_slots v0 v1 (c.sync_all.ensures.stays told) slots redo) in
    omega (arith, synced, redone)

pub returns-in-Clean-clause-reads : goal.returns-in-Clean-clause-reads
returns-in-Clean-clause-reads g c told slots redo =
    let v0 = g.T.Station.view c.args.station.now in
    let v1 = g.T.Station.view c.sync_all.new.station in
    let told1 = still v0.is_told v1.is_told c.sync_all.ensures.counts.told told in
    let synced = c.sync_all.ensures.counts.reads in
    let redone = c.recover.ensures.reads told1 slots (same_slots v0 v1 (c.sync_all.ensures.stays told) slots redo) in
    omega (arith, synced, redone)

pub returns-in-Redone-clause-reads : goal.returns-in-Redone-clause-reads
returns-in-Redone-clause-reads g c told slots redo =
    let v0 = g.T.Station.view c.args.station.now in
    let v1 = g.T.Station.view c.sync_all.new.station in
    let told1 = still v0.is_told v1.is_told c.sync_all.ensures.counts.told told in
    let synced = c.sync_all.ensures.counts.reads in
    let redone = c.recover.ensures.reads told1 slots (same_slots v0 v1 (c.sync_all.ensures.stays told) slots redo) in
    omega (arith, synced, redone)

pub returns-in_err-sync_all-clause-opening : goal.returns-in_err-sync_all-clause-opening
returns-in_err-sync_all-clause-opening g c =
    opening_synced (g.T.Station.view c.args.station.now) (g.T.Station.view c.sync_all.new.station) c.sync_all.ensures.stays c.sync_all.ensures.counts c.sync_all.ensures.cause.grows

pub returns-in-Err-Failed-clause-opening : goal.returns-in-Err-Failed-clause-opening
returns-in-Err-Failed-clause-opening g c =
    let e = c.recover.ensures in
    opening_recovered (g.T.Station.view c.args.station.now) (g.T.Station.view c.sync_all.new.station) (g.T.Station.view c.recover.new.station) c.sync_all.ensures.stays c.sync_all.ensures.counts c.sync_all.ensures.cause.grows
    (λ a told. g.met.T.Station.may_stay c.args.station.now a told) e.counts e.any_moment e.printed e.writes e.untouched e.unwritten

pub returns-in-Clean-clause-opening : goal.returns-in-Clean-clause-opening
returns-in-Clean-clause-opening g c =
    let e = c.recover.ensures in
    opening_recovered (g.T.Station.view c.args.station.now) (g.T.Station.view c.sync_all.new.station) (g.T.Station.view c.recover.new.station) c.sync_all.ensures.stays c.sync_all.ensures.counts c.sync_all.ensures.cause.grows
    (λ a told. g.met.T.Station.may_stay c.args.station.now a told) e.counts e.any_moment e.printed e.writes e.untouched e.unwritten

pub returns-in-Redone-clause-opening : goal.returns-in-Redone-clause-opening
returns-in-Redone-clause-opening g c =
    let e = c.recover.ensures in
    opening_recovered (g.T.Station.view c.args.station.now) (g.T.Station.view c.sync_all.new.station) (g.T.Station.view c.recover.new.station) c.sync_all.ensures.stays c.sync_all.ensures.counts c.sync_all.ensures.cause.grows
    (λ a told. g.met.T.Station.may_stay c.args.station.now a told) e.counts e.any_moment e.printed e.writes e.untouched e.unwritten

pub returns-in-NotALog-clause-opening : goal.returns-in-NotALog-clause-opening
returns-in-NotALog-clause-opening g c =
    let e = c.recover.ensures in
    opening_recovered (g.T.Station.view c.args.station.now) (g.T.Station.view c.sync_all.new.station) (g.T.Station.view c.recover.new.station) c.sync_all.ensures.stays c.sync_all.ensures.counts c.sync_all.ensures.cause.grows
    (λ a told. g.met.T.Station.may_stay c.args.station.now a told) e.counts e.any_moment e.printed e.writes e.untouched e.unwritten
