use Rattle.std.proofs.Common.{subst}
use Rattle.gaz_outside.specs.Station.{AnyIn, Confined}
use Rattle.gaz_outside.proofs.Runs.{any_start}
use Rattle.gaz_page.specs.declared.page.Side.{Side}
use Rattle.gaz_pool.specs.Sides.{side_area}
use Rattle.gaz_pool.proofs.pool.FramePool.clean_of.Goals as goal

-- the frame is of the side
pub returns-then-is_of-clause-confined : goal.returns-then-is_of-clause-confined
returns-then-is_of-clause-confined g c told =
    let view = g.T.Station.view in
    subst (λ (side : Side). Confined (AnyIn (side_area side)) (view c.args.station.now) (view c.clean.new.station)) (c.is_of.ensures.own c.if-is_of.true) (c.clean.ensures.only told)

pub returns-else-is_of-clause-confined : goal.returns-else-is_of-clause-confined
returns-else-is_of-clause-confined g c told =
    any_start (side_area c.args.side) (g.T.Station.view c.args.station.now) (λ o left. g.met.T.Station.only_now c.args.station.now o told left)
