use Rattle.std.proofs.Common.{sym, subst}
use Rattle.gaz_rows.specs.Store.{IsSound}
use Rattle.gaz_ask.proofs.above.ask_chain.Goals as goal

pub returns-in-Err-clause-damaged : goal.returns-in-Err-clause-damaged
returns-in-Err-clause-damaged g c told gaz stands = subst IsSound (sym c.ask_fault.ensures) (c.in-Err.ensures.damaged told gaz stands)
