use Rattle.gaz_pick.specs.Asked.{asked}
use Rattle.gaz_kin.proofs.Offered.{on_ok}
use Rattle.gaz_plan.specs.Gathered.{is_sought}
use Rattle.gaz_plan.specs.Ways.{is_itself}
use Rattle.gaz_plan.proofs.Offering.{sees}
use Rattle.gaz_plan.proofs.Sorted.{sought_id, sought_itself}
use Rattle.gaz_plan.proofs.Tested.{passing_sees}
use Rattle.gaz_plan.proofs.gather.offer_candidate.Goals as goal

pub returns-then-candidate-clause-more : goal.returns-then-candidate-clause-more
returns-then-candidate-clause-more g c =
    let a = asked c.args.query.now in
    let candidate = c.args.candidate in
    on_ok _ _ c.offer_row.result (λ over told gaz stands led.
    sees gaz stands.is_gazetteer a c.args.best.now.keep (is_itself a candidate.place) (is_sought a candidate) c.args.best.now.pairs c.offer_row.new.best.pairs (over told gaz stands)
    (λ row there matches sought. sought_itself a candidate row c.if-candidate.true sought))
    c.offer_row.ensures.more

pub returns-else-candidate-clause-more : goal.returns-else-candidate-clause-more
returns-else-candidate-clause-more g c =
    let a = asked c.args.query.now in
    let candidate = c.args.candidate in
    on_ok _ _ c.offer_passing.result (λ over told gaz stands led.
    passing_sees gaz stands.is_gazetteer a c.args.best.now.keep c.first_of_more.ensures.next candidate.place (is_sought a candidate) (λ row sought. sought_id a candidate row sought) (led c.if-candidate.false)
    c.args.best.now.pairs c.offer_passing.new.best.pairs (over told gaz stands))
    c.offer_passing.ensures.offered
