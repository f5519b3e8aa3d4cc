use Rattle.std.specs.Prelude.{false, slice_index_or}
use Rattle.gaz_plan.specs.declared.gather.Candidate.{Candidate}
use Rattle.gaz_pick.specs.Asked.{asked}
use Rattle.gaz_kin.proofs.Offered.{on_ok}
use Rattle.gaz_plan.proofs.Sorted.{read_is, seen_again, seen_on, taken_led}
use Rattle.gaz_plan.proofs.gather.offer_place.Goals as goal

pub returns-then-is_again-clause-more : goal.returns-then-is_again-clause-more
returns-then-is_again-clause-more g c told gaz stands led start before =
    let none : Candidate = record { place = 0; by_own = false } in
    seen_again c.args.candidates.now c.requires.order c.args.at c.requires.within (slice_index_or c.args.candidates.now c.args.at none) (read_is c.args.candidates.now c.args.at none c.requires.within)
    gaz stands.is_gazetteer (asked c.args.query.now) c.args.best.now.keep start c.args.best.now.pairs before
    (c.is_again.ensures.again c.if-is_again.true)

pub returns-clause-more : goal.returns-clause-more
returns-clause-more g c =
    on_ok _ _ c.offer_candidate.result (λ over told gaz stands led start before.
    seen_on c.args.candidates.now c.requires.order c.args.at c.requires.within _ (read_is c.args.candidates.now c.args.at _ c.requires.within)
    gaz stands.is_gazetteer (asked c.args.query.now) c.args.best.now.keep start c.args.best.now.pairs before c.offer_candidate.new.best.pairs
    (over told gaz stands (taken_led gaz (asked c.args.query.now) c.args.candidates.now c.args.at _ c.requires.within led)))
    c.offer_candidate.ensures.more

pub returns-clause-again : goal.returns-clause-again
returns-clause-again g c again = absurd (c.is_again.ensures.new c.if-is_again.false again)
