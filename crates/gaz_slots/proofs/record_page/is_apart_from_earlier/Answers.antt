use Rattle.std.proofs.Common.{sym, ◌∙◌, arith}
use Rattle.gaz_slots.specs.RecordPage.{is_apart}
use Rattle.gaz_slots.proofs.Below.{all_more, not_all}
use Rattle.gaz_slots.proofs.record_page.is_apart_from_earlier.Goals as goal

pub loop-earlier-preserved : goal.loop-earlier-preserved
loop-earlier-preserved c = all_more c.loop-earlier.earlier (is_apart c.args.page.now c.args.slot) c.loop-earlier.invariant (sym c.is_apart.ensures ∙ c.if-not-is_apart.false)

pub returns-then-not-is_apart : goal.returns-then-not-is_apart
returns-then-not-is_apart c = not_all c.args.slot (is_apart c.args.page.now c.args.slot) c.loop-earlier.earlier (omega arith) (sym c.is_apart.ensures ∙ c.if-not-is_apart.true)
