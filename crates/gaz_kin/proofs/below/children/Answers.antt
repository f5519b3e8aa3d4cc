use Rattle.std.proofs.Common.{◌≡◌, List, [], ◌∷◌, take, drop, refl, ap, sym, subst, arith, ◌∙◌}
use Rattle.gaz_pick.specs.Held.{Held}
use Rattle.gaz_pick.specs.Order.{Pair, in_order}
use Rattle.gaz_plain.specs.Kin.{child_pairs}
use Rattle.gaz_rows.specs.Store.{IsSound}
use Rattle.gaz_kin.proofs.below.children.Goals as goal

-- nothing is dropped
drop_none : (pairs : List Pair) → drop 0 pairs ≡ pairs
drop_none [] = refl
drop_none (pair ∷ pairs) = refl

pub returns-in-Ok-clause-answer : goal.returns-in-Ok-clause-answer
returns-in-Ok-clause-answer g c told gaz stands =
    let max = c.args.max in
    let all = in_order (child_pairs gaz c.args.id) in
    let held = c.in-Ok.ensures.pairs told gaz stands ∙ ap (λ (h : Held). take h.keep all) c.clear.ensures in
    ap (take max) (held ∙ sym (drop_none (take max all))) ∙ c.first_of_more.ensures.cut max 0 max (child_pairs gaz c.args.id) (omega arith)

pub returns-in-Err-clause-damaged : goal.returns-in-Err-clause-damaged
returns-in-Err-clause-damaged g c told gaz stands = subst IsSound c.kin_fault.ensures (c.in-Err.ensures.damaged told gaz stands)
