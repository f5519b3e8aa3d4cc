use Rattle.std.proofs.Common.{[], ◌∷◌, sym}
use Rattle.gaz_plain.proofs.PlacedNames.{found_is}
use Rattle.gaz_plain.proofs.alternates.Alternates.place_of.Goals as goal

-- each line was accepted
pub of-requires : goal.of-requires
of-requires c = (found_is (c.args.id ∷ []) c.in-Some.line.now c.self.inside.list c.self.invariant.each (sym c.in-Some.ensures)).accepted
