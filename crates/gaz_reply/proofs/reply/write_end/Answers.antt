use Rattle.std.proofs.Common.{◌∷◌, [], refl, append-nil}
use Rattle.gaz_outside.proofs.Runs.{areas_stay_print}
use Rattle.gaz_reply.specs.Reply.{with_ends, end_line}
use Rattle.gaz_reply.proofs.Cuts.{cut_in_one, same_cut}
use Rattle.gaz_reply.proofs.reply.write_end.Goals as goal

pub returns-clause-areas : goal.returns-clause-areas
returns-clause-areas g c = areas_stay_print _ _ _ c.print.ensures.counts c.print.ensures.appends

pub returns-clause-moments : goal.returns-clause-moments
returns-clause-moments g c =
    same_cut c.text.result.now (with_ends (end_line c.args.rows ∷ [])) _ _
    (simp (c.text.ensures, c.push-3.ensures.text, c.push-2.ensures.text, c.as_bytes.ensures.value, c.format.ensures.text, c.push.ensures.text, c.new-line.ensures, append-nil) refl)
    (cut_in_one _ _ _ c.print.ensures.appends)
