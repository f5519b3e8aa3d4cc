use Rattle.std.proofs.Common.{sym, ◌∙◌, arith}
use Rattle.gaz_slots.specs.RecordPage.{count_in, is_within}
use Rattle.gaz_slots.proofs.Below.{all_more, not_all}
use Rattle.gaz_slots.proofs.record_page.are_within.Goals as goal

pub loop-slot-preserved : goal.loop-slot-preserved
loop-slot-preserved c = all_more c.loop-slot.slot (is_within c.args.page.now) c.loop-slot.invariant (sym c.is_within.ensures ∙ c.if-not-is_within.false)

pub returns-then-not-is_within : goal.returns-then-not-is_within
returns-then-not-is_within c = not_all (count_in c.args.page.now) (is_within c.args.page.now) c.loop-slot.slot (omega arith) (sym c.is_within.ensures ∙ c.if-not-is_within.true)
