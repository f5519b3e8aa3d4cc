use Rattle.std.proofs.Common.{rules}
use Rattle.gaz_num.proofs.DateTextLemmas.{text_of_read}
use Rattle.gaz_num.proofs.day.read_date.Goals as goal

pub returns-clause-text : goal.returns-clause-text
returns-clause-text c = text_of_read c.read_parts.result c.args.text.now (search rules)
