use Rattle.std.proofs.Common.{sym, arith}
use Rattle.gaz_num.proofs.AsciiLemmas.{ten_ascii}
use Rattle.gaz_num.proofs.DateDigitsLemmas.{civil_text-digits}
use Rattle.gaz_num.proofs.day.write_civil.Goals as goal

pub returns-clause-text : goal.returns-clause-text
returns-clause-text c = cc (sym (civil_text-digits c.args.year c.args.month c.args.day c.requires.year c.requires.month c.requires.day))

pub returns-clause-ascii : goal.returns-clause-ascii
returns-clause-ascii c = ten_ascii _ _ _ _ _ _ _ _ _ _ (omega arith) (omega arith) (omega arith) (omega arith) (omega arith) (omega arith) (omega arith) (omega arith) (omega arith) (omega arith)
