use Rattle.gaz_outside.specs.declared.event.Event.TheVariants.{Wrote}
use Rattle.std.proofs.Common.{reverse, sym, arith, ap, length, ◌≡◌}
use Rattle.gaz_outside.proofs.Record.{newest, text_after_write, ends_more, writes_same, writes_kept, wrote_kept}
use Rattle.gaz_outside.proofs.mem_station.MemStationStation.write_at.Goals as goal

pub returns-in_err-admit_call-clause-changed : goal.returns-in_err-admit_call-clause-changed
returns-in_err-admit_call-clause-changed c told = writes_same (reverse c.args.self.now.record_of_calls.items) _ _ _ _ _ _ c.args.area c.args.at _

pub returns-in-Err-clause-changed : goal.returns-in-Err-clause-changed
returns-in-Err-clause-changed c told = writes_kept c.args.self.now.record_of_calls.items c.keep_write.new.calls.items _ _ _ _ _ _ c.args.area c.args.at _ c.in-Err.ensures.err.0

pub returns-clause-changed : goal.returns-clause-changed
returns-clause-changed c told =
    let kept = c.in_default.ensures.kept in
    wrote_kept c.args.self.now.record_of_calls.items c.keep_write.new.calls.items _ _ _ _ _ _ c.args.area c.args.at kept.0 c.args.bytes.now kept.1 kept.2

pub returns-clause-kept : goal.returns-clause-kept
returns-clause-kept c =
    let kept = c.in_default.ensures.kept in
    (kept.0, kept.1, sym (newest c.args.self.now.record_of_calls.items c.keep_write.new.calls.items (Wrote c.args.area c.args.at kept.0) kept.2))

pub returns-in-Err-clause-unkept : goal.returns-in-Err-clause-unkept
returns-in-Err-clause-unkept c = ap reverse c.in-Err.ensures.err.0

pub invariant_of-self-2-clause-ends_fit : goal.invariant_of-self-2-clause-ends_fit
invariant_of-self-2-clause-ends_fit c =
    let kept = c.in_default.ensures.kept in
    let size : length kept.0.items ≡ length c.args.bytes.now = ap length kept.1 in
    ends_more c.args.self.now.record_of_calls.items c.keep_write.new.calls.items (Wrote c.args.area c.args.at kept.0) kept.2 (omega arith) c.args.self.now.ends_fit

pub invariant_of-self-2-clause-text_kept : goal.invariant_of-self-2-clause-text_kept
invariant_of-self-2-clause-text_kept c =
    let kept = c.in_default.ensures.kept in
    text_after_write c.args.self.now.record_of_calls.items c.keep_write.new.calls.items c.args.area c.args.at kept.0 c.args.self.now.text.items kept.2 c.args.self.now.text_kept
