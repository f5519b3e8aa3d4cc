use Rattle.std.proofs.Common.{ap, refl, sym}
use Rattle.gaz_outside.proofs.Runs.{areas_stay_print}
use Rattle.gaz_num.specs.Refusal.{not_loaded, sequence, absent, shelf, too_long, malformed, full, memory}
use Rattle.gaz_reply.specs.Reply.{refusal_of}
use Rattle.gaz_reply.proofs.Cuts.{cut_in_one}
use Rattle.gaz_reply.proofs.Texts.{sequence_text, absent_text, shelf_text, too_long_text, malformed_text, full_text, tells, tells_cut}
use Rattle.gaz_reply.proofs.refusal.write_refusal.Goals as goal

pub returns-in-NotLoaded-clause-printed : goal.returns-in-NotLoaded-clause-printed
returns-in-NotLoaded-clause-printed g c = tells _ not_loaded c.args.refusal.now _ _ c.print.result refl (ap refusal_of (sym c.in-NotLoaded.is)) c.print.ensures.printed

pub returns-in-Sequence-clause-printed : goal.returns-in-Sequence-clause-printed
returns-in-Sequence-clause-printed g c = tells _ (sequence c.in-Sequence.have) c.args.refusal.now _ _ c.print_dated.result (sequence_text c.in-Sequence.have) (ap refusal_of (sym c.in-Sequence.is)) c.print_dated.ensures.printed

pub returns-in-Absent-clause-printed : goal.returns-in-Absent-clause-printed
returns-in-Absent-clause-printed g c = tells _ (absent c.in-Absent.file) c.args.refusal.now _ _ c.print_file.result (absent_text c.in-Absent.file) (ap refusal_of (sym c.in-Absent.is)) c.print_file.ensures.printed

pub returns-in-Shelf-clause-printed : goal.returns-in-Shelf-clause-printed
returns-in-Shelf-clause-printed g c = tells _ (shelf c.in-Shelf.file) c.args.refusal.now _ _ c.print_file-in-Shelf.result (shelf_text c.in-Shelf.file) (ap refusal_of (sym c.in-Shelf.is)) c.print_file-in-Shelf.ensures.printed

pub returns-in-TooLong-clause-printed : goal.returns-in-TooLong-clause-printed
returns-in-TooLong-clause-printed g c = tells _ (too_long c.in-TooLong.file) c.args.refusal.now _ _ c.print_file-in-TooLong.result (too_long_text c.in-TooLong.file) (ap refusal_of (sym c.in-TooLong.is)) c.print_file-in-TooLong.ensures.printed

pub returns-in-Malformed-clause-printed : goal.returns-in-Malformed-clause-printed
returns-in-Malformed-clause-printed g c = tells _ (malformed c.in-Malformed.file c.in-Malformed.number c.in-Malformed.reason) c.args.refusal.now _ _ c.print_line.result (malformed_text c.in-Malformed.file c.in-Malformed.number c.in-Malformed.reason c.text.result.now c.text.ensures) (ap refusal_of (sym c.in-Malformed.is)) c.print_line.ensures.printed

pub returns-in-Full-clause-printed : goal.returns-in-Full-clause-printed
returns-in-Full-clause-printed g c = tells _ (full c.in-Full.file c.in-Full.number c.in-Full.table) c.args.refusal.now _ _ c.print_line-in-Full.result (full_text c.in-Full.file c.in-Full.number c.in-Full.table c.text-in-Full.result.now c.text-in-Full.ensures) (ap refusal_of (sym c.in-Full.is)) c.print_line-in-Full.ensures.printed

pub returns-in-Memory-clause-printed : goal.returns-in-Memory-clause-printed
returns-in-Memory-clause-printed g c = tells _ memory c.args.refusal.now _ _ c.print-in-Memory.result refl (ap refusal_of (sym c.in-Memory.is)) c.print-in-Memory.ensures.printed

pub returns-in-NotLoaded-clause-areas : goal.returns-in-NotLoaded-clause-areas
returns-in-NotLoaded-clause-areas g c = areas_stay_print _ _ _ c.print.ensures.counts c.print.ensures.appends

pub returns-in-Memory-clause-areas : goal.returns-in-Memory-clause-areas
returns-in-Memory-clause-areas g c = areas_stay_print _ _ _ c.print-in-Memory.ensures.counts c.print-in-Memory.ensures.appends

pub returns-in-NotLoaded-clause-moments : goal.returns-in-NotLoaded-clause-moments
returns-in-NotLoaded-clause-moments g c = tells_cut _ not_loaded c.args.refusal.now _ _ refl (ap refusal_of (sym c.in-NotLoaded.is)) (cut_in_one _ _ _ c.print.ensures.appends)

pub returns-in-Malformed-clause-moments : goal.returns-in-Malformed-clause-moments
returns-in-Malformed-clause-moments g c = tells_cut _ (malformed c.in-Malformed.file c.in-Malformed.number c.in-Malformed.reason) c.args.refusal.now _ _ (malformed_text c.in-Malformed.file c.in-Malformed.number c.in-Malformed.reason c.text.result.now c.text.ensures) (ap refusal_of (sym c.in-Malformed.is)) c.print_line.ensures.moments

pub returns-in-Full-clause-moments : goal.returns-in-Full-clause-moments
returns-in-Full-clause-moments g c = tells_cut _ (full c.in-Full.file c.in-Full.number c.in-Full.table) c.args.refusal.now _ _ (full_text c.in-Full.file c.in-Full.number c.in-Full.table c.text-in-Full.result.now c.text-in-Full.ensures) (ap refusal_of (sym c.in-Full.is)) c.print_line-in-Full.ensures.moments

pub returns-in-Memory-clause-moments : goal.returns-in-Memory-clause-moments
returns-in-Memory-clause-moments g c = tells_cut _ memory c.args.refusal.now _ _ refl (ap refusal_of (sym c.in-Memory.is)) (cut_in_one _ _ _ c.print-in-Memory.ensures.appends)
