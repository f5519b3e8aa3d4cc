use Rattle.std.proofs.Common.{◌≡◌, ◌≢◌, ◌+◌, ◌-◌, take, drop, sym, ◌∙◌, arith}
use Rattle.std.specs.Prelude.{◌&&◌}
use Rattle.std.proofs.lemmas.Bool.{and_from}
use Rattle.gaz_slots.specs.RecordPage.{from_in, has_record_head, has_mark, is_within}
use Rattle.gaz_slots.proofs.Form.{past_record, free_record, within_says}
use Rattle.gaz_slots.proofs.Shown.{headless, markless, astray, none_shown, copied_in}
use Rattle.gaz_slots.proofs.record_page.copy_slot.Goals as goal

pub returns-then-not-has_head-clause-none : goal.returns-then-not-has_head-clause-none
returns-then-not-has_head-clause-none c _ = headless c.args.number c.args.page.now c.args.slot (sym c.has_head.ensures ∙ c.if-not-has_head.true)

pub returns-then-not-is_marked-clause-none : goal.returns-then-not-is_marked-clause-none
returns-then-not-is_marked-clause-none c _ = markless c.args.number c.args.page.now c.args.slot (sym c.is_marked.ensures ∙ c.if-not-is_marked.true)

pub returns-then-slot-count-clause-none : goal.returns-then-slot-count-clause-none
returns-then-slot-count-clause-none c _ = none_shown c.args.number c.args.page.now c.args.slot (past_record c.args.page.now c.args.slot (omega (arith, c.count.ensures.value)))

pub returns-then-not-is_within-clause-none : goal.returns-then-not-is_within-clause-none
returns-then-not-is_within-clause-none c _ = astray c.args.number c.args.page.now c.args.slot (sym c.is_within.ensures ∙ c.if-not-is_within.true)

pub returns-then-from-eq0-clause-none : goal.returns-then-from-eq0-clause-none
returns-then-from-eq0-clause-none c _ = none_shown c.args.number c.args.page.now c.args.slot (free_record c.args.page.now c.args.slot (sym c.from_of-from.ensures.value ∙ c.if-from-eq0.true))

pub slice_bounds-record-end : goal.slice_bounds-record-end
slice_bounds-record-end c =
    let w = within_says c.args.page.now c.args.slot (sym c.is_within.ensures ∙ c.if-not-is_within.false) (λ is. c.if-from-eq0.false (c.from_of-from.ensures.value ∙ is)) in
    omega (arith, w.high, c.from_of-from.ensures.value, c.size_of-size.ensures.value, c.requires.size)

pub returns-clause-copied : goal.returns-clause-copied
returns-clause-copied c =
    let page = c.args.page.now in
    let from = c.from_of-from.ensures.value in
    let n = c.size_of-size.result in
    let span : c.from_of-from.result + n - c.from_of-from.result ≡ n = omega arith in
    let inside = sym c.is_within.ensures ∙ c.if-not-is_within.false in
    let used : from_in page c.args.slot ≢ 0 = λ is. c.if-from-eq0.false (from ∙ is) in
    let w = within_says page c.args.slot inside used in
    let shown = and_from (has_record_head c.args.number page && has_mark page) (is_within page c.args.slot)
    (and_from (has_record_head c.args.number page) (has_mark page) (sym c.has_head.ensures ∙ c.if-not-has_head.false) (sym c.is_marked.ensures ∙ c.if-not-is_marked.false)) inside in
    copied_in c.args.number page c.args.slot n (take (c.from_of-from.result + n - c.from_of-from.result) (drop c.from_of-from.result page)) c.args.buf.now c.put.new.page shown
    (omega (arith, c.count.ensures.value)) used c.size_of-size.ensures.value
    (λ i. take (span i) (drop (from i) page)) (omega (arith, w.high, c.size_of-size.ensures.value, c.requires.size)) c.put.ensures.page (omega (arith, c.requires.room, c.size_of-size.ensures.fits))
