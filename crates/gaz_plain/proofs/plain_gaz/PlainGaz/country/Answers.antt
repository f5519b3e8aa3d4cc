use Rattle.std.proofs.Common.{sym}
use Rattle.gaz_num.specs.declared.words.Table.TheVariants.{Countries}
use Rattle.gaz_plain.proofs.Absent.{no_country}
use Rattle.gaz_plain.proofs.plain_gaz.PlainGaz.country.Goals as goal

-- no code is so long
pub returns-in-None : goal.returns-in-None
returns-in-None c = rw (← c.self.view_is) (sym (no_country c.args.code.now c.in-None.ensures c.self.inside.countries (c.self.invariant.tables Countries).each))
