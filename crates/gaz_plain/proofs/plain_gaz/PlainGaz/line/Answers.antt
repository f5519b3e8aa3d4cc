use Rattle.std.proofs.lemmas.Iterator.Consumers.{nth_from_yields_List, YieldsList-from_rest}
use Rattle.std.specs.Map.Iter.{deref}
use Rattle.gaz_plain.specs.Gazetteer.{lines_in}
use Rattle.gaz_plain.proofs.plain_gaz.PlainGaz.line.Goals as goal

pub returns : goal.returns
returns c = nth_from_yields_List c.nth.result c.nth.new.self c.args.n c.nth.ensures.ran (YieldsList-from_rest {shows = deref} (lines_in c.args.self.now c.args.table) c.lines.ensures)
