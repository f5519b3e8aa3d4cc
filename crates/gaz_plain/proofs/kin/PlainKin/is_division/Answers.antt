use Rattle.std.proofs.Common.{sym}
use Rattle.gaz_plain.proofs.Named.{row_accepted}
use Rattle.gaz_plain.proofs.kin.PlainKin.is_division.Goals as goal

-- each row was accepted
pub of-other-requires : goal.of-other-requires
of-other-requires c = row_accepted c.self.inside.gaz.now c.self.invariant c.args.id c.in-Some.line.now (sym c.in-Some.ensures)
