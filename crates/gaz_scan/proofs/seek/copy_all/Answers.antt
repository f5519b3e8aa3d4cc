use Rattle.gaz_scan.proofs.Places.{under_next_leaf}
use Rattle.gaz_scan.proofs.seek.copy_all.Goals as goal

pub returns-in-Ok-clause-names : goal.returns-in-Ok-clause-names
returns-in-Ok-clause-names g c told most lt =
    under_next_leaf (g.P.Pages.view c.args.pages.now).page most c.args.page c.in-Ok.bytes.now c.copy_all_in.result lt (c.in-Ok.ensures.bytes told) c.copy_all_in.ensures.damaged c.copy_all_in.ensures.unfit
