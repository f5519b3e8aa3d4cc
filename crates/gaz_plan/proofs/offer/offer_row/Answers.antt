use Rattle.std.proofs.Common.{take, ap, sym, ◌∙◌}
use Rattle.gaz_pick.specs.Asked.{asked}
use Rattle.gaz_pick.specs.Match.{pair_of}
use Rattle.gaz_kin.proofs.Offered.{on_ok}
use Rattle.gaz_plan.specs.Searched.{after_test, takes_row}
use Rattle.gaz_plan.proofs.Going.{sound_undamaged}
use Rattle.gaz_plan.proofs.Offering.{found_at}
use Rattle.gaz_plan.proofs.Tested.{itself_sees, none_sees}
use Rattle.gaz_plan.proofs.offer.offer_row.Goals as goal

pub returns-in-Ok-Some-clause-more : goal.returns-in-Ok-Some-clause-more
returns-in-Ok-Some-clause-more g c =
    let a = asked c.args.query.now in
    let keep = c.args.best.now.keep in
    let row = take c.in-Ok-Some.size c.find_row.new.buf in
    on_ok _ _ c.offer_itself.result (λ held told gaz stands.
    let at = found_at gaz stands.is_gazetteer a keep c.args.id row (rw c.in-Ok-Some.field-0-is at (c.in-Ok-Some.ensures.line told gaz stands)) in
    itself_sees gaz stands.is_gazetteer a keep c.first_of_more.ensures.next row at.0 c.args.id (sym at.1) c.args.best.now.pairs c.offer_itself.new.best.pairs
    (held ∙ ap (λ r. after_test (takes_row a r) keep (pair_of r) c.args.best.now.pairs) c.of.ensures))
    c.offer_itself.ensures.offered

pub returns-in-Ok-None-clause-more : goal.returns-in-Ok-None-clause-more
returns-in-Ok-None-clause-more g c told gaz stands =
    none_sees gaz stands.is_gazetteer (asked c.args.query.now) c.args.best.now.keep c.first_of_more.ensures.next c.args.id c.args.best.now.pairs (rw c.in-Ok-None.field-0-is at (c.in-Ok-None.ensures.line told gaz stands))

pub returns-in-Err-clause-damaged : goal.returns-in-Err-clause-damaged
returns-in-Err-clause-damaged g c told gaz stands = sound_undamaged c.in-Err.fault (c.in-Err.ensures.damaged told gaz stands)
