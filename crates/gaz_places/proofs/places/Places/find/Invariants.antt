use Rattle.gaz_places.proofs.Walk.{Walk}
use Rattle.gaz_places.proofs.places.Places.find.Given as goal

-- so many steps of the walk were made
abbrev pub invariant-loop-step : goal.invariant-loop-step
invariant-loop-step l = ∥ Walk l.self.heads.items l.self.links.items l.key l._step l.before l.place ∥₁
