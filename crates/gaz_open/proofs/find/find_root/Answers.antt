use Rattle.std.proofs.Common.{◌≡◌, ◌≤◌, ◌∙◌, sym, ap, arith, length, rules}
use Rattle.gaz_outside.specs.declared.station.Area.TheVariants.{Root}
use Rattle.gaz_redo.proofs.Steps.{bytes_stay, still}
use Rattle.gaz_redo.proofs.SlotReads.{more_stays}
use Rattle.gaz_page.specs.TreeRoot.{tree_root_at}
use Rattle.gaz_open.proofs.Opened.{root_read}
use Rattle.gaz_open.proofs.find.find_root.Goals as goal

pub returns-in_err-size-clause-stays : goal.returns-in_err-size-clause-stays
returns-in_err-size-clause-stays g c told =
    let v0 = g.T.Station.view c.args.station.now in
    let v1 = g.T.Station.view c.len.new.self in
    bytes_stay v0 v1 (λ o left. g.met.T.Station.only_now c.args.station.now o told left) (c.len.ensures.stays told)

pub returns-then-size-clause-stays : goal.returns-then-size-clause-stays
returns-then-size-clause-stays g c told =
    let v0 = g.T.Station.view c.args.station.now in
    let v1 = g.T.Station.view c.len.new.self in
    bytes_stay v0 v1 (λ o left. g.met.T.Station.only_now c.args.station.now o told left) (c.len.ensures.stays told)

pub returns-in_err-read_at-clause-stays : goal.returns-in_err-read_at-clause-stays
returns-in_err-read_at-clause-stays g c told =
    let v0 = g.T.Station.view c.args.station.now in
    let v1 = g.T.Station.view c.len.new.self in
    let told1 = still v0.is_told v1.is_told c.len.ensures.counts.told told in
    more_stays v0 v1 (g.T.Station.view c.read_at.new.self) (bytes_stay v0 v1 (λ o left. g.met.T.Station.only_now c.args.station.now o told left) (c.len.ensures.stays told)) (c.read_at.ensures.stays told1)

pub returns-in-Some-clause-stays : goal.returns-in-Some-clause-stays
returns-in-Some-clause-stays g c told =
    let v0 = g.T.Station.view c.args.station.now in
    let v1 = g.T.Station.view c.len.new.self in
    let told1 = still v0.is_told v1.is_told c.len.ensures.counts.told told in
    more_stays v0 v1 (g.T.Station.view c.read_at.new.self) (bytes_stay v0 v1 (λ o left. g.met.T.Station.only_now c.args.station.now o told left) (c.len.ensures.stays told)) (c.read_at.ensures.stays told1)

pub returns-in-None-clause-stays : goal.returns-in-None-clause-stays
returns-in-None-clause-stays g c told =
    let v0 = g.T.Station.view c.args.station.now in
    let v1 = g.T.Station.view c.len.new.self in
    let told1 = still v0.is_told v1.is_told c.len.ensures.counts.told told in
    more_stays v0 v1 (g.T.Station.view c.read_at.new.self) (bytes_stay v0 v1 (λ o left. g.met.T.Station.only_now c.args.station.now o told left) (c.len.ensures.stays told)) (c.read_at.ensures.stays told1)

pub returns-in-Some-clause-found : goal.returns-in-Some-clause-found
returns-in-Some-clause-found g c told =
    let v0 = g.T.Station.view c.args.station.now in
    let v1 = g.T.Station.view c.len.new.self in
    let told1 = still v0.is_told v1.is_told c.len.ensures.counts.told told in
    let same : v1.bytes Root ≡ v0.bytes Root = ((c.len.ensures.stays told).areas Root).bytes in
    let full : length c.read_at.new.buf ≡ 4096 = search rules in
    let size = c.in_ok-size.ensures.len told in
    let enough = c.if-size.false in
    let long : 4096 ≤ length (v0.bytes Root) = omega (arith, size, enough) in
    let there : 4096 ≤ length (v1.bytes Root) = omega (arith, long, ap length same) in
    (long, ap tree_root_at (sym same) ∙ root_read (v1.bytes Root) c.read_at.new.buf c.in_ok-read_at.field-0 full there (c.in_ok-read_at.ensures.count told1) (c.in_ok-read_at.ensures.read told1) ∙ sym c.read_root.ensures.root ∙ c.in-Some.is)

pub returns-in-None-clause-found : goal.returns-in-None-clause-found
returns-in-None-clause-found g c told =
    let v0 = g.T.Station.view c.args.station.now in
    let v1 = g.T.Station.view c.len.new.self in
    let told1 = still v0.is_told v1.is_told c.len.ensures.counts.told told in
    let same : v1.bytes Root ≡ v0.bytes Root = ((c.len.ensures.stays told).areas Root).bytes in
    let full : length c.read_at.new.buf ≡ 4096 = search rules in
    let size = c.in_ok-size.ensures.len told in
    let enough = c.if-size.false in
    let long : 4096 ≤ length (v0.bytes Root) = omega (arith, size, enough) in
    let there : 4096 ≤ length (v1.bytes Root) = omega (arith, long, ap length same) in
    (long, ap tree_root_at (sym same) ∙ root_read (v1.bytes Root) c.read_at.new.buf c.in_ok-read_at.field-0 full there (c.in_ok-read_at.ensures.count told1) (c.in_ok-read_at.ensures.read told1) ∙ sym c.read_root.ensures.root ∙ c.in-None.is)
