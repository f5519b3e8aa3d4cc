use Rattle.std.proofs.Common.{reverse}
use Rattle.gaz_outside.proofs.Record.{stays_same}
use Rattle.gaz_outside.proofs.mem_station.MemStation.stop_after.Goals as goal

pub returns-clause-stays : goal.returns-clause-stays
returns-clause-stays c = stays_same (reverse c.args.self.now.record_of_calls.items) _ _ _ _ _ _
