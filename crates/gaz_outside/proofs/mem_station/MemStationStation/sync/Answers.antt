use Rattle.gaz_outside.specs.declared.event.Event.TheVariants.{Synced}
use Rattle.std.proofs.Common.{reverse, sym, ap, arith}
use Rattle.gaz_outside.proofs.Record.{newest, text_after_sync, ends_more, stays_same, stays_kept, synced_kept}
use Rattle.gaz_outside.proofs.mem_station.MemStationStation.sync.Goals as goal

pub returns-in_err-admit_call-clause-stays : goal.returns-in_err-admit_call-clause-stays
returns-in_err-admit_call-clause-stays c told = stays_same (reverse c.args.self.now.record_of_calls.items) _ _ _ _ _ _

pub returns-in-Err-clause-stays : goal.returns-in-Err-clause-stays
returns-in-Err-clause-stays c told = stays_kept c.args.self.now.record_of_calls.items c.keep_sync.new.calls.items _ _ _ _ _ _ c.in-Err.ensures.err

pub returns-clause-stays : goal.returns-clause-stays
returns-clause-stays c told = synced_kept c.args.self.now.record_of_calls.items c.keep_sync.new.calls.items _ _ _ _ _ _ c.args.area c.in_default.ensures.kept

pub returns-clause-kept : goal.returns-clause-kept
returns-clause-kept c = sym (newest c.args.self.now.record_of_calls.items c.keep_sync.new.calls.items (Synced c.args.area) c.in_default.ensures.kept)

pub returns-in-Err-clause-unkept : goal.returns-in-Err-clause-unkept
returns-in-Err-clause-unkept c = ap reverse c.in-Err.ensures.err

pub invariant_of-self-in_default-clause-ends_fit : goal.invariant_of-self-in_default-clause-ends_fit
invariant_of-self-in_default-clause-ends_fit c =
    ends_more c.args.self.now.record_of_calls.items c.keep_sync.new.calls.items (Synced c.args.area) c.in_default.ensures.kept (omega arith) c.args.self.now.ends_fit

pub invariant_of-self-in_default-clause-text_kept : goal.invariant_of-self-in_default-clause-text_kept
invariant_of-self-in_default-clause-text_kept c =
    text_after_sync c.args.self.now.record_of_calls.items c.keep_sync.new.calls.items c.args.area c.args.self.now.text.items c.in_default.ensures.kept c.args.self.now.text_kept
