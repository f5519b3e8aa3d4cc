use Rattle.gaz_outside.specs.declared.event.Event.TheVariants.{Printed}
use Rattle.std.proofs.Common.{reverse, sym, ap, arith}
use Rattle.gaz_outside.proofs.Record.{newest, text_after_print, ends_more, prints_same, prints_kept, printed_kept}
use Rattle.gaz_outside.proofs.mem_station.MemStationStation.print.Goals as goal

pub returns-in_err-admit_call-clause-appends : goal.returns-in_err-admit_call-clause-appends
returns-in_err-admit_call-clause-appends c told = prints_same (reverse c.args.self.now.record_of_calls.items) _ _ _ _ _ _ _

pub returns-in-Err-clause-appends : goal.returns-in-Err-clause-appends
returns-in-Err-clause-appends c told = prints_kept c.args.self.now.record_of_calls.items c.keep_print.new.calls.items _ _ _ _ _ _ _ c.in-Err.ensures.err.0

pub returns-clause-appends : goal.returns-clause-appends
returns-clause-appends c told =
    let kept = c.in_default.ensures.kept in
    printed_kept c.args.self.now.record_of_calls.items c.keep_print.new.calls.items _ _ _ _ _ _ kept.0 c.args.piece.now kept.1 kept.2

pub returns-clause-kept : goal.returns-clause-kept
returns-clause-kept c =
    let kept = c.in_default.ensures.kept in
    (kept.0, kept.1, sym (newest c.args.self.now.record_of_calls.items c.keep_print.new.calls.items (Printed kept.0) kept.2))

pub returns-in-Err-clause-unkept : goal.returns-in-Err-clause-unkept
returns-in-Err-clause-unkept c = ap reverse c.in-Err.ensures.err.0

pub invariant_of-self-in_default-clause-ends_fit : goal.invariant_of-self-in_default-clause-ends_fit
invariant_of-self-in_default-clause-ends_fit c =
    let kept = c.in_default.ensures.kept in
    ends_more c.args.self.now.record_of_calls.items c.keep_print.new.calls.items (Printed kept.0) kept.2 (omega arith) c.args.self.now.ends_fit

pub invariant_of-self-in_default-clause-text_kept : goal.invariant_of-self-in_default-clause-text_kept
invariant_of-self-in_default-clause-text_kept c =
    let kept = c.in_default.ensures.kept in
    text_after_print c.args.self.now.record_of_calls.items c.keep_print.new.calls.items kept.0 c.args.self.now.text.items c.keep_print.new.text.items c.args.piece.now kept.2 kept.1 c.in_default.ensures.made c.args.self.now.text_kept
