use Rattle.gaz_lines.proofs.Lists.{range_drop}
use Rattle.gaz_lines.proofs.window.Window.consume.Goals as goal

pub returns-clause-items : goal.returns-clause-items
returns-clause-items c = let window = c.args.self.now in range_drop window.bytes.items window.start c.args.count window.end
