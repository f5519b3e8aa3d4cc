use Rattle.std.proofs.Common.{◌≡◌, ◌-◌, ◌++◌, ◌∙◌, ℕ, length, take, replicate, ap, arith}
use Rattle.gaz_outside.specs.declared.station.Area.{Area}
use Rattle.gaz_page.specs.Area.{page_at}
use Rattle.gaz_pool.proofs.Reading.{only_reads_call, padded_page}
use Rattle.gaz_pool.proofs.device.read_page.Goals as goal

-- what was read, and zeros behind it
pub returns-in-Ok-clause-bytes : goal.returns-in-Ok-clause-bytes
returns-in-Ok-clause-bytes g c told =
    let areas = (g.T.Station.view c.args.station.now).bytes in
    let bytes = areas c.area_of.result in
    let buf = c.read_at.new.buf in
    let long : length buf ≡ 4096 = c.read_at.auto.buf in
    let count = c.in-Ok.ensures.count told in
    let within = c.in-Ok.ensures.within in
    c.clear.ensures ∙ ap (λ (k : ℕ). take c.in-Ok.n buf ++ replicate (k - c.in-Ok.n) 0) long
    ∙ padded_page bytes buf c.args.page c.in-Ok.n (omega (arith, count)) (omega (arith, within, long)) (c.in-Ok.ensures.read told)
    ∙ ap (λ (a : Area). page_at (areas a) c.args.page) c.area_of.ensures

-- nothing was written
pub returns-in-Ok-clause-reads : goal.returns-in-Ok-clause-reads
returns-in-Ok-clause-reads g c =
    let view = g.T.Station.view in
    only_reads_call (view c.args.station.now) (view c.read_at.new.self) _ (λ told o left. g.met.T.Station.only_now c.args.station.now o told left)
    c.read_at.ensures.stays c.read_at.ensures.counts c.read_at.ensures.cause.grows

pub returns-in-Err-clause-reads : goal.returns-in-Err-clause-reads
returns-in-Err-clause-reads g c =
    let view = g.T.Station.view in
    only_reads_call (view c.args.station.now) (view c.read_at.new.self) _ (λ told o left. g.met.T.Station.only_now c.args.station.now o told left)
    c.read_at.ensures.stays c.read_at.ensures.counts c.read_at.ensures.cause.grows
