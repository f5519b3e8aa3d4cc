use Rattle.gaz_tree.proofs.Named.{names_leaf}
use Rattle.gaz_tree.proofs.get.read_value.Goals as goal

pub returns-in-Ok-clause-names : goal.returns-in-Ok-clause-names
returns-in-Ok-clause-names g c told =
    names_leaf (g.P.Pages.view c.args.pages.now).page c.args.page c.in-Ok.bytes.now c.value_in.result (c.in-Ok.ensures.bytes told) c.value_in.ensures.damaged c.value_in.ensures.unfit
