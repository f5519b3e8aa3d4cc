use Rattle.std.proofs.Common.{sym, ◌∙◌, arith}
use Rattle.gaz_slots.specs.RecordPage.{all_below, count_in, is_apart}
use Rattle.gaz_slots.proofs.Below.{all_more, not_all}
use Rattle.gaz_slots.proofs.record_page.are_apart.Goals as goal

pub loop-slot-preserved : goal.loop-slot-preserved
loop-slot-preserved c = all_more c.loop-slot.slot (λ slot. all_below slot (is_apart c.args.page.now slot)) c.loop-slot.invariant (sym c.is_apart_from_earlier.ensures ∙ c.if-not-is_apart_from_earlier.false)

pub returns-then-not-is_apart_from_earlier : goal.returns-then-not-is_apart_from_earlier
returns-then-not-is_apart_from_earlier c = not_all (count_in c.args.page.now) (λ slot. all_below slot (is_apart c.args.page.now slot)) c.loop-slot.slot (omega arith) (sym c.is_apart_from_earlier.ensures ∙ c.if-not-is_apart_from_earlier.true)
