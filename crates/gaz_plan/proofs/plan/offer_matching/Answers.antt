use Rattle.std.proofs.Common.{sym, ap, ◌∙◌}
use Rattle.gaz_pick.specs.Asked.{asked}
use Rattle.gaz_plain.specs.Search.{matches}
use Rattle.gaz_kin.proofs.Offered.{on_ok}
use Rattle.gaz_plan.specs.Wanted.{is_nothing}
use Rattle.gaz_plan.proofs.Matching.{nothing_absent}
use Rattle.gaz_plan.proofs.Offering.{all_offered}
use Rattle.gaz_plan.proofs.plan.offer_matching.Goals as goal

pub offer_unnamed-requires-clause-unnamed : goal.offer_unnamed-requires-clause-unnamed
offer_unnamed-requires-clause-unnamed g c =
    nothing_absent (asked c.args.query.now).name (sym (ap is_nothing c.requires.wanted) ∙ sym c.is_nothing.ensures ∙ c.if-is_nothing.true)

pub returns-then-is_nothing-clause-pairs : goal.returns-then-is_nothing-clause-pairs
returns-then-is_nothing-clause-pairs g c =
    let a = asked c.args.query.now in
    on_ok _ _ c.offer_unnamed.result (λ over told gaz stands.
    all_offered gaz stands.is_gazetteer a c.args.best.now.keep c.args.best.now.pairs c.offer_unnamed.new.best.pairs c.requires.none (matches gaz a) (over told gaz stands) (λ row at is_one. is_one))
    c.offer_unnamed.ensures.more

pub returns-else-is_nothing-clause-pairs : goal.returns-else-is_nothing-clause-pairs
returns-else-is_nothing-clause-pairs g c =
    let a = asked c.args.query.now in
    on_ok _ _ c.offer_by_names.result (λ over told gaz stands.
    all_offered gaz stands.is_gazetteer a c.args.best.now.keep c.args.best.now.pairs c.offer_by_names.new.best.pairs c.requires.none (matches gaz a) (over told gaz stands) (λ row at is_one. is_one))
    c.offer_by_names.ensures.more
