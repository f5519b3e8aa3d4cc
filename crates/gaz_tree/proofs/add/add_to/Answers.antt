use Rattle.std.proofs.Common.{◌∙◌, arith}
use Rattle.gaz_page.proofs.Takes.{along_more}
use Rattle.gaz_tree.proofs.Along.{along_page}
use Rattle.gaz_tree.proofs.add.add_to.Goals as goal

pub returns-in-Ok-clause-along : goal.returns-in-Ok-clause-along
returns-in-Ok-clause-along g c told is own =
    let v = g.P.Pages.view in
    let old = v c.args.pages.now in
    let new = v c.write.new.self in
    along_more 0 1 old new (omega arith)
    (along_page c.args.kind c.args.kind old new c.args.page c.insert.new.page c.args.buf.now (c.in-Ok.ensures.written told) is own (c.insert.ensures.byte ∙ own))
