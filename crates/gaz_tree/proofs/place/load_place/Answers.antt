use Rattle.gaz_tree.proofs.Named.{names_leaf}
use Rattle.gaz_tree.proofs.place.load_place.Goals as goal

pub returns-in-Ok-clause-names : goal.returns-in-Ok-clause-names
returns-in-Ok-clause-names g c told =
    names_leaf (g.P.Pages.view c.args.pages.now).page c.args.page c.load.new.buf c.place_in.result (c.in-Ok.ensures.bytes told) c.place_in.ensures.damaged c.place_in.ensures.unfit
