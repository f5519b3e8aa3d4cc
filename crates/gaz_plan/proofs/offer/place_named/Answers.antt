use Rattle.gaz_plan.proofs.Going.{sound_undamaged}
use Rattle.gaz_plan.proofs.offer.place_named.Goals as goal

pub returns-in-Err-clause-damaged : goal.returns-in-Err-clause-damaged
returns-in-Err-clause-damaged g c told gaz stands = sound_undamaged c.in-Err.fault (c.in-Err.ensures.damaged told gaz stands)
