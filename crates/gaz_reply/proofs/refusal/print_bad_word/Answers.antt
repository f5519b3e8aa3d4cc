use Rattle.std.proofs.Common.{◌++◌, subst}
use Rattle.std.specs.Prelude.{codes}
use Rattle.gaz_outside.specs.Outside.{Prints, PrintsFront}
use Rattle.gaz_outside.proofs.Runs.{areas_stay_on, areas_stay_print}
use Rattle.gaz_reply.specs.Tells.{MayBeCut}
use Rattle.gaz_reply.proofs.Cuts.{cut_in_one, cut_in_first, cut_in_both}
use Rattle.gaz_reply.proofs.Pieces.{both, front}
use Rattle.gaz_reply.proofs.refusal.print_bad_word.Goals as goal

pub returns-in-Ok-clause-printed : goal.returns-in-Ok-clause-printed
returns-in-Ok-clause-printed g c =
    subst (λ word. Prints (codes "refused request " ++ word ++ codes "\n") (g.T.Station.view c.args.station.now) (g.T.Station.view c.print.new.self) c.print.result) c.as_bytes.ensures.value
    (both (codes "refused request " ++ c.as_bytes.result.now) (codes "\n") _ _ _ c.print.result c.in-Ok.ensures.printed c.print.ensures.printed)

pub returns-in-Err-clause-printed : goal.returns-in-Err-clause-printed
returns-in-Err-clause-printed g c =
    subst (λ word. PrintsFront (codes "refused request " ++ word ++ codes "\n") (g.T.Station.view c.args.station.now) (g.T.Station.view c.print_two.new.station)) c.as_bytes.ensures.value
    (front (codes "refused request " ++ c.as_bytes.result.now) (codes "\n") _ _ c.in-Err.ensures.printed)

pub returns-in-Ok-clause-areas : goal.returns-in-Ok-clause-areas
returns-in-Ok-clause-areas g c =
    areas_stay_on (g.T.Station.view c.args.station.now) (g.T.Station.view c.print_two.new.station) (g.T.Station.view c.print.new.self) c.in-Ok.ensures.told
    c.in-Ok.ensures.areas (areas_stay_print _ _ _ c.print.ensures.counts c.print.ensures.appends)

pub returns-in-Ok-clause-moments : goal.returns-in-Ok-clause-moments
returns-in-Ok-clause-moments g c =
    subst (λ word. MayBeCut (codes "refused request " ++ word ++ codes "\n") (g.T.Station.view c.args.station.now) (g.T.Station.view c.print.new.self)) c.as_bytes.ensures.value
    (cut_in_both (codes "refused request " ++ c.as_bytes.result.now) (codes "\n") _ _ _ c.in-Ok.ensures.told c.in-Ok.ensures.areas c.in-Ok.ensures.printed c.in-Ok.ensures.moments (cut_in_one _ _ _ c.print.ensures.appends))

pub returns-in-Err-clause-moments : goal.returns-in-Err-clause-moments
returns-in-Err-clause-moments g c =
    subst (λ word. MayBeCut (codes "refused request " ++ word ++ codes "\n") (g.T.Station.view c.args.station.now) (g.T.Station.view c.print_two.new.station)) c.as_bytes.ensures.value
    (cut_in_first (codes "refused request " ++ c.as_bytes.result.now) (codes "\n") _ _ c.in-Err.ensures.moments)
