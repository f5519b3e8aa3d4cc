use Rattle.std.proofs.Common.{◌∙◌}
use Rattle.gaz_leaf.specs.declared.kind.Kind.TheVariants.{Leaf}
use Rattle.gaz_tree.proofs.Removes.{ok_map}
use Rattle.gaz_tree.proofs.Along.{along_page}
use Rattle.gaz_tree.proofs.place.put_over.Goals as goal

pub returns-clause-along : goal.returns-clause-along
returns-clause-along g c = ok_map _ _ c.write.result (λ written told is own.
    let v = g.P.Pages.view in
    along_page Leaf Leaf (v c.args.pages.now) (v c.write.new.self) c.args.page c.replace.new.page c.args.buf.now (written told) is own (c.replace.ensures.byte ∙ own))
    c.write.ensures.written
