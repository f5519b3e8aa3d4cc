use Rattle.gaz_tree.proofs.Named.{names_inner}
use Rattle.gaz_tree.proofs.get.read_way.Goals as goal

pub returns-in-Ok-clause-names : goal.returns-in-Ok-clause-names
returns-in-Ok-clause-names g c told below =
    names_inner (g.P.Pages.view c.args.pages.now).page below c.args.page c.in-Ok.bytes.now c.way_in.result (c.in-Ok.ensures.bytes told) c.way_in.ensures.damaged c.way_in.ensures.unfit
