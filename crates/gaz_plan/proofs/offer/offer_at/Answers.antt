use Rattle.std.proofs.Common.{take, ap, ◌∙◌}
use Rattle.gaz_pick.specs.Asked.{asked}
use Rattle.gaz_pick.specs.Match.{pair_of}
use Rattle.gaz_kin.proofs.Offered.{on_ok}
use Rattle.gaz_plan.specs.Ways.{number_at}
use Rattle.gaz_plan.specs.Searched.{after_test, takes_row}
use Rattle.gaz_plan.proofs.Going.{sound_undamaged}
use Rattle.gaz_plan.proofs.Tested.{itself_sees}
use Rattle.gaz_plan.proofs.offer.offer_at.Goals as goal

pub returns-in-Ok-clause-more : goal.returns-in-Ok-clause-more
returns-in-Ok-clause-more g c =
    let a = asked c.args.query.now in
    let keep = c.args.best.now.keep in
    let row = take c.in-Ok.size c.row_at.new.buf in
    on_ok _ _ c.offer_itself.result (λ held key told gaz stands found tag.
    let at = c.in-Ok.ensures.line key told gaz stands found tag in
    itself_sees gaz stands.is_gazetteer a keep c.first_of_more.ensures.next row at.there (number_at 1 key) at.id c.args.best.now.pairs c.offer_itself.new.best.pairs
    (held ∙ ap (λ r. after_test (takes_row a r) keep (pair_of r) c.args.best.now.pairs) c.of.ensures))
    c.offer_itself.ensures.offered

pub returns-in-Err-clause-damaged : goal.returns-in-Err-clause-damaged
returns-in-Err-clause-damaged g c key told gaz stands found tag = sound_undamaged c.in-Err.fault (c.in-Err.ensures.damaged key told gaz stands found tag)
