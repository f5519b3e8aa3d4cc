use Rattle.std.proofs.Common.{[], arith}
use Rattle.gaz_kin.proofs.Answered.{if_ok, if_err}
use Rattle.gaz_ask.proofs.lines.ask_row.Goals as goal

-- a store that waits for no key
pub returns-clause-line : goal.returns-clause-line
returns-clause-line g c = if_ok _ _ c.get_row.result (λ found answers told gaz stands. answers told [] gaz stands) c.get_row.ensures.line

pub returns-clause-damaged : goal.returns-clause-damaged
returns-clause-damaged g c = if_err _ _ c.get_row.result (λ fault sound told gaz stands. sound told [] gaz stands) c.get_row.ensures.damaged

pub returns-clause-reads : goal.returns-clause-reads
returns-clause-reads g c told gaz stands = let read = c.get_row.ensures.asked.counts.reads in let low = stands.tree.shallow in omega (arith, read, low)
