use Rattle.std.proofs.Common.{◌++◌, append_assoc, refl}
use Rattle.std.specs.Prelude.{codes}
use Rattle.gaz_num.specs.Dates.{date_text}
use Rattle.gaz_outside.proofs.Runs.{areas_stay_print}
use Rattle.gaz_reply.proofs.Cuts.{cut_in_one, same_cut}
use Rattle.gaz_reply.proofs.reply.print_dated.Goals as goal

pub returns-clause-areas : goal.returns-clause-areas
returns-clause-areas g c = areas_stay_print _ _ _ c.print.ensures.counts c.print.ensures.appends

pub returns-clause-moments : goal.returns-clause-moments
returns-clause-moments g c =
    same_cut c.text.result.now (c.args.front.now ++ date_text c.args.date ++ codes "\n") _ _ (simp (c.text.ensures, c.push-3.ensures.text, c.push-2.ensures.text, c.write_date.ensures.text, c.push.ensures.text, c.new-line.ensures, append_assoc) refl) (cut_in_one _ _ _ c.print.ensures.appends)
