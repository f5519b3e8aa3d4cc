use Rattle.std.proofs.Common.{◌+◌, List, take, drop, ap, arith, ◌∙◌}
use Rattle.gaz_pick.specs.Asked.{asked}
use Rattle.gaz_pick.specs.Held.{Held}
use Rattle.gaz_pick.specs.Order.{Pair, in_order}
use Rattle.gaz_plain.specs.Search.{matching_pairs}
use Rattle.gaz_kin.proofs.Offered.{on_ok}
use Rattle.gaz_plan.proofs.plan.search.Goals as goal

pub returns-in-Ok-clause-held : goal.returns-in-Ok-clause-held
returns-in-Ok-clause-held g c =
    on_ok _ _ c.offer_matching.result (λ over told gaz stands. over told gaz stands ∙ ap (λ (h : Held). take h.keep (in_order (matching_pairs gaz (asked c.args.query.now)))) c.clear.ensures) c.offer_matching.ensures.pairs

pub returns-in-Ok-clause-answer : goal.returns-in-Ok-clause-answer
returns-in-Ok-clause-answer g c =
    let start = c.args.query.now.start in
    let max = c.args.query.now.max in
    on_ok _ _ c.offer_matching.result (λ over told gaz stands.
    let pairs = matching_pairs gaz (asked c.args.query.now) in
    let held = over told gaz stands ∙ ap (λ (h : Held). take h.keep (in_order pairs)) c.clear.ensures in
    ap (λ (ps : List Pair). take max (drop start ps)) held ∙ c.first_of_more.ensures.cut (start + max) start max pairs (omega arith))
    c.offer_matching.ensures.pairs
