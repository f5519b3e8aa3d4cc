use Rattle.std.proofs.Common.{subst, arith}
use Rattle.gaz_outside.specs.declared.station.Area.{Area}
use Rattle.gaz_pages.specs.Views.{StillChanged}
use Rattle.gaz_pages.proofs.held.take.Goals as goal

-- taking a fresh page reads nothing
pub returns-then-page-eq0-clause-cause : goal.returns-then-page-eq0-clause-cause
returns-then-page-eq0-clause-cause g c =
    record {
      grows = omega arith;
      counted = c.take_fresh.ensures.counted (g.T.Station.view c.args.station.now).faults;
      starved = c.take_fresh.ensures.starved;
    }

pub returns-then-page-eq0-clause-still : goal.returns-then-page-eq0-clause-still
returns-then-page-eq0-clause-still g c before file =
    subst (λ (a : Area). StillChanged a before c.args.changed.now c.take_fresh.new.self file) c.area_of.ensures (c.take_fresh.ensures.still before file)
