use Rattle.gaz_rows.proofs.Placed.{line_placed, line_sound}
use Rattle.gaz_rows.proofs.store.RowStore.line_at.Goals as goal

pub returns-clause-line : goal.returns-clause-line
returns-clause-line g c =
    line_placed (g.P.Pages.view c.args.self.now.pages) c.args.self.now.root c.args.place c.record.new.buf c.record.result c.record.ensures.record

pub returns-clause-damaged : goal.returns-clause-damaged
returns-clause-damaged g c =
    line_sound (g.P.Pages.view c.args.self.now.pages) c.args.self.now.root c.args.place c.record.result c.record.ensures.damaged
