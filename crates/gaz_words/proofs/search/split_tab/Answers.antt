use Rattle.std.proofs.Common.{arith}
use Rattle.std.proofs.lemmas.Str.Pattern.{split_once_first}
use Rattle.gaz_words.proofs.Texts.{parts_of}
use Rattle.gaz_words.proofs.search.split_tab.Goals as goal

pub returns-clause-parts : goal.returns-clause-parts
returns-clause-parts c = parts_of c.args.text.now c.split_once.result (split_once_first 9 c.args.text.now c.split_once.result c.split_once.ensures.cases (omega arith))
