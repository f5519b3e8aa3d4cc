use Rattle.std.proofs.Common.{List, [], ◌∷◌, ◌++◌, map, length, refl, ap, arith, ◌∙◌, inl, inr}
use Rattle.std.proofs.lemmas.List.{length-map}
use Rattle.gaz_plan.specs.declared.gather.Candidate.{Candidate}
use Rattle.gaz_plan.proofs.Gathering.{own_places}
use Rattle.gaz_plan.proofs.gather.gather.Goals as goal

pub returns-then-not-is_full-clause-joins : goal.returns-then-not-is_full-clause-joins
returns-then-not-is_full-clause-joins g c told gaz stands led = inl (c.push.ensures.items, refl)

pub returns-in-Ok-clause-joins : goal.returns-in-Ok-clause-joins
returns-in-Ok-clause-joins g c told gaz stands led =
    inr (c.push-in-Ok.ensures.items ∙ ap (λ (cs : List Candidate). cs ++ c.args.candidate ∷ []) c.in-Ok.ensures.none, c.in-Ok.ensures.more told gaz stands led)

pub returns-in-Ok-clause-reads : goal.returns-in-Ok-clause-reads
returns-in-Ok-clause-reads g c told gaz stands =
    let items = c.args.candidates.now.items in
    let places = map (λ (e : Candidate). e.place) items in
    let read = c.in-Ok.ensures.reads told gaz stands places (own_places items) in
    let one = ap length (c.push-in-Ok.ensures.items ∙ ap (λ (cs : List Candidate). cs ++ c.args.candidate ∷ []) c.in-Ok.ensures.none) in
    omega (arith, read, one, length-map items (λ (e : Candidate). e.place))

pub returns-in-Err-clause-reads : goal.returns-in-Err-clause-reads
returns-in-Err-clause-reads g c told gaz stands =
    let items = c.args.candidates.now.items in
    let places = map (λ (e : Candidate). e.place) items in
    let read = c.in-Err.ensures.reads told gaz stands places (own_places items) in
    let none = ap length c.in-Err.ensures.none in
    omega (arith, read, none, length-map items (λ (e : Candidate). e.place))
