-- What a stop inside a reply leaves.
use Rattle.std.specs.Prelude.{ℕ, List, IsTrue}
use Rattle.gaz_outside.specs.Station.{StationView, Elapses, LeavesFront}

-- Where bytes are told, a stop at any moment of the call leaves of the areas what it might have left before, and behind the
-- text that was printed a front of this piece.
abbrev pub MayBeCut : List ℕ → StationView → StationView → Type 0
MayBeCut piece old new = IsTrue old.is_told → Elapses old new (LeavesFront piece old old)
