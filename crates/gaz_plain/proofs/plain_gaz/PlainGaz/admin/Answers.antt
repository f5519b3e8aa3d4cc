use Rattle.std.proofs.Common.{sym}
use Rattle.gaz_num.specs.declared.words.Table.TheVariants.{Codes}
use Rattle.gaz_plain.proofs.Absent.{no_code}
use Rattle.gaz_plain.proofs.plain_gaz.PlainGaz.admin.Goals as goal

-- no code is so long
pub returns-in-None : goal.returns-in-None
returns-in-None c = rw (← c.self.view_is) (sym (no_code c.args.code.now c.in-None.ensures c.self.inside.codes (c.self.invariant.tables Codes).each))
