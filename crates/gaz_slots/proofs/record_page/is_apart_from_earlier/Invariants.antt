use Rattle.std.proofs.Common.{◌≡◌, true}
use Rattle.gaz_slots.specs.RecordPage.{all_below, is_apart}
use Rattle.gaz_slots.proofs.record_page.is_apart_from_earlier.Given as goal

abbrev pub invariant-loop-earlier : goal.invariant-loop-earlier
invariant-loop-earlier l = all_below l.earlier (is_apart l.page l.slot) ≡ true
