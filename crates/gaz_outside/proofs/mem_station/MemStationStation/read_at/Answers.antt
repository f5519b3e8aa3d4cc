use Rattle.std.proofs.Common.{reverse}
use Rattle.gaz_outside.proofs.Record.{stays_same}
use Rattle.gaz_outside.proofs.mem_station.MemStationStation.read_at.Goals as goal

pub returns-in_err-admit_call-clause-stays : goal.returns-in_err-admit_call-clause-stays
returns-in_err-admit_call-clause-stays c told = stays_same (reverse c.args.self.now.record_of_calls.items) _ _ _ _ _ _

pub returns-clause-stays : goal.returns-clause-stays
returns-clause-stays c told = stays_same (reverse c.args.self.now.record_of_calls.items) _ _ _ _ _ _
