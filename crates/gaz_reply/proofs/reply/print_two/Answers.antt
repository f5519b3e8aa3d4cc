use Rattle.gaz_outside.proofs.Runs.{areas_stay_on, areas_stay_print}
use Rattle.gaz_reply.proofs.Cuts.{cut_in_one, cut_in_first, cut_in_both}
use Rattle.gaz_reply.proofs.Pieces.{both, front}
use Rattle.gaz_reply.proofs.reply.print_two.Goals as goal

pub returns-in-Ok-clause-printed : goal.returns-in-Ok-clause-printed
returns-in-Ok-clause-printed g c = both c.args.first.now c.args.second.now _ _ _ c.print-in-Ok.result c.in-Ok.ensures.printed c.print-in-Ok.ensures.printed

pub returns-in-Err-clause-printed : goal.returns-in-Err-clause-printed
returns-in-Err-clause-printed g c = front c.args.first.now c.args.second.now _ _ c.in-Err.ensures.printed

pub returns-in-Ok-clause-areas : goal.returns-in-Ok-clause-areas
returns-in-Ok-clause-areas g c =
    areas_stay_on (g.T.Station.view c.args.station.now) (g.T.Station.view c.print.new.self) (g.T.Station.view c.print-in-Ok.new.self) c.in-Ok.ensures.counts.told
    (areas_stay_print c.args.first.now _ _ c.in-Ok.ensures.counts c.in-Ok.ensures.appends) (areas_stay_print c.args.second.now _ _ c.print-in-Ok.ensures.counts c.print-in-Ok.ensures.appends)

pub returns-in-Err-clause-areas : goal.returns-in-Err-clause-areas
returns-in-Err-clause-areas g c = areas_stay_print c.args.first.now _ _ c.in-Err.ensures.counts c.in-Err.ensures.appends

pub returns-in-Ok-clause-moments : goal.returns-in-Ok-clause-moments
returns-in-Ok-clause-moments g c =
    cut_in_both c.args.first.now c.args.second.now _ _ _ c.in-Ok.ensures.counts.told (areas_stay_print c.args.first.now _ _ c.in-Ok.ensures.counts c.in-Ok.ensures.appends) c.in-Ok.ensures.printed
    (cut_in_one c.args.first.now _ _ c.in-Ok.ensures.appends) (cut_in_one c.args.second.now _ _ c.print-in-Ok.ensures.appends)

pub returns-in-Err-clause-moments : goal.returns-in-Err-clause-moments
returns-in-Err-clause-moments g c = cut_in_first c.args.first.now c.args.second.now _ _ (cut_in_one c.args.first.now _ _ c.in-Err.ensures.appends)
