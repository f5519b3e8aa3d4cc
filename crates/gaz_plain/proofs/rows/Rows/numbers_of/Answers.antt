use Rattle.std.proofs.Common.{[], ◌∷◌, sym}
use Rattle.gaz_plain.proofs.Named.{found_line_is}
use Rattle.gaz_plain.proofs.rows.Rows.numbers_of.Goals as goal

-- each row was accepted
pub of-requires : goal.of-requires
of-requires c = (found_line_is (c.args.id ∷ []) c.in-Some.line.now c.self.inside.list c.self.invariant.each (sym c.in-Some.ensures)).accepted
