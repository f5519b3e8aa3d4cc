use Rattle.gaz_redo.proofs.Steps.{bytes_stay, still}
use Rattle.gaz_redo.proofs.SlotReads.{more_stays}
use Rattle.gaz_open.proofs.settle.sync_all.Goals as goal

pub returns-in_err-sync-clause-stays : goal.returns-in_err-sync-clause-stays
returns-in_err-sync-clause-stays g c told =
    let view = g.T.Station.view in
    let v0 = view c.args.station.now in
    let v1 = view c.sync.new.self in
    let run1 = bytes_stay v0 v1 (λ o left. g.met.T.Station.only_now c.args.station.now o told left) (c.sync.ensures.stays told) in
    run1

pub returns-in_err-sync-2-clause-stays : goal.returns-in_err-sync-2-clause-stays
returns-in_err-sync-2-clause-stays g c told =
    let view = g.T.Station.view in
    let v0 = view c.args.station.now in
    let v1 = view c.sync.new.self in
    let told1 = still v0.is_told v1.is_told c.sync.ensures.counts.told told in
    let run1 = bytes_stay v0 v1 (λ o left. g.met.T.Station.only_now c.args.station.now o told left) (c.sync.ensures.stays told) in
    let v2 = view c.sync-2.new.self in
    let run2 = more_stays v0 v1 v2 run1 (c.sync-2.ensures.stays told1) in
    run2

pub returns-in_err-sync-3-clause-stays : goal.returns-in_err-sync-3-clause-stays
returns-in_err-sync-3-clause-stays g c told =
    let view = g.T.Station.view in
    let v0 = view c.args.station.now in
    let v1 = view c.sync.new.self in
    let told1 = still v0.is_told v1.is_told c.sync.ensures.counts.told told in
    let run1 = bytes_stay v0 v1 (λ o left. g.met.T.Station.only_now c.args.station.now o told left) (c.sync.ensures.stays told) in
    let v2 = view c.sync-2.new.self in
    let told2 = still v1.is_told v2.is_told c.sync-2.ensures.counts.told told1 in
    let run2 = more_stays v0 v1 v2 run1 (c.sync-2.ensures.stays told1) in
    let v3 = view c.sync-3.new.self in
    let run3 = more_stays v0 v2 v3 run2 (c.sync-3.ensures.stays told2) in
    run3

pub returns-in_err-sync-4-clause-stays : goal.returns-in_err-sync-4-clause-stays
returns-in_err-sync-4-clause-stays g c told =
    let view = g.T.Station.view in
    let v0 = view c.args.station.now in
    let v1 = view c.sync.new.self in
    let told1 = still v0.is_told v1.is_told c.sync.ensures.counts.told told in
    let run1 = bytes_stay v0 v1 (λ o left. g.met.T.Station.only_now c.args.station.now o told left) (c.sync.ensures.stays told) in
    let v2 = view c.sync-2.new.self in
    let told2 = still v1.is_told v2.is_told c.sync-2.ensures.counts.told told1 in
    let run2 = more_stays v0 v1 v2 run1 (c.sync-2.ensures.stays told1) in
    let v3 = view c.sync-3.new.self in
    let told3 = still v2.is_told v3.is_told c.sync-3.ensures.counts.told told2 in
    let run3 = more_stays v0 v2 v3 run2 (c.sync-3.ensures.stays told2) in
    let v4 = view c.sync-4.new.self in
    let run4 = more_stays v0 v3 v4 run3 (c.sync-4.ensures.stays told3) in
    run4

pub returns-in_err-sync-5-clause-stays : goal.returns-in_err-sync-5-clause-stays
returns-in_err-sync-5-clause-stays g c told =
    let view = g.T.Station.view in
    let v0 = view c.args.station.now in
    let v1 = view c.sync.new.self in
    let told1 = still v0.is_told v1.is_told c.sync.ensures.counts.told told in
    let run1 = bytes_stay v0 v1 (λ o left. g.met.T.Station.only_now c.args.station.now o told left) (c.sync.ensures.stays told) in
    let v2 = view c.sync-2.new.self in
    let told2 = still v1.is_told v2.is_told c.sync-2.ensures.counts.told told1 in
    let run2 = more_stays v0 v1 v2 run1 (c.sync-2.ensures.stays told1) in
    let v3 = view c.sync-3.new.self in
    let told3 = still v2.is_told v3.is_told c.sync-3.ensures.counts.told told2 in
    let run3 = more_stays v0 v2 v3 run2 (c.sync-3.ensures.stays told2) in
    let v4 = view c.sync-4.new.self in
    let told4 = still v3.is_told v4.is_told c.sync-4.ensures.counts.told told3 in
    let run4 = more_stays v0 v3 v4 run3 (c.sync-4.ensures.stays told3) in
    let v5 = view c.sync-5.new.self in
    let run5 = more_stays v0 v4 v5 run4 (c.sync-5.ensures.stays told4) in
    run5

pub returns-clause-stays : goal.returns-clause-stays
returns-clause-stays g c told =
    let view = g.T.Station.view in
    let v0 = view c.args.station.now in
    let v1 = view c.sync.new.self in
    let told1 = still v0.is_told v1.is_told c.sync.ensures.counts.told told in
    let run1 = bytes_stay v0 v1 (λ o left. g.met.T.Station.only_now c.args.station.now o told left) (c.sync.ensures.stays told) in
    let v2 = view c.sync-2.new.self in
    let told2 = still v1.is_told v2.is_told c.sync-2.ensures.counts.told told1 in
    let run2 = more_stays v0 v1 v2 run1 (c.sync-2.ensures.stays told1) in
    let v3 = view c.sync-3.new.self in
    let told3 = still v2.is_told v3.is_told c.sync-3.ensures.counts.told told2 in
    let run3 = more_stays v0 v2 v3 run2 (c.sync-3.ensures.stays told2) in
    let v4 = view c.sync-4.new.self in
    let told4 = still v3.is_told v4.is_told c.sync-4.ensures.counts.told told3 in
    let run4 = more_stays v0 v3 v4 run3 (c.sync-4.ensures.stays told3) in
    let v5 = view c.sync-5.new.self in
    let run5 = more_stays v0 v4 v5 run4 (c.sync-5.ensures.stays told4) in
    run5
