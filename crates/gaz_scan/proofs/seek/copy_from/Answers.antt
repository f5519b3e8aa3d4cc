use Rattle.gaz_scan.proofs.Places.{under_leaf}
use Rattle.gaz_scan.proofs.seek.copy_from.Goals as goal

pub returns-in-Ok-clause-names : goal.returns-in-Ok-clause-names
returns-in-Ok-clause-names g c told most =
    under_leaf (g.P.Pages.view c.args.pages.now).page most c.args.page c.in-Ok.bytes.now c.copy_in.result (c.in-Ok.ensures.bytes told) c.copy_in.ensures.damaged c.copy_in.ensures.unfit
