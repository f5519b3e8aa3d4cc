use Rattle.std.proofs.Common.{ℕ, ap, sym, subst, ◌∙◌}
use Rattle.gaz_pick.specs.Asked.{asked}
use Rattle.gaz_leaf.specs.Node.{key_of}
use Rattle.gaz_kin.proofs.Answered.{if_err}
use Rattle.gaz_kin.proofs.Offered.{on_ok}
use Rattle.gaz_plan.specs.Seen.{SeesMore}
use Rattle.gaz_plan.specs.Ways.{tag_by, stands_for, is_itself}
use Rattle.gaz_plan.specs.declared.walk.Way.{Way}
use Rattle.gaz_plan.proofs.walk.offer_for.Goals as goal

pub returns-in-Row-clause-more : goal.returns-in-Row-clause-more
returns-in-Row-clause-more g c =
    let n = key_of c.args.found.now.0 in
    on_ok _ _ c.offer_at.result (λ over told gaz stands found tag.
    subst (λ (way : Way). SeesMore gaz (asked c.args.query.now) c.args.best.now.keep (stands_for (asked c.args.query.now) way n) c.args.best.now.pairs c.offer_at.new.best.pairs) (sym c.in-Row.is)
    (over n told gaz stands found (tag ∙ ap tag_by c.in-Row.is)))
    c.offer_at.ensures.more

pub returns-in-Row-clause-damaged : goal.returns-in-Row-clause-damaged
returns-in-Row-clause-damaged g c =
    if_err _ _ c.offer_at.result (λ fault over told gaz stands found tag. over (key_of c.args.found.now.0) told gaz stands found (tag ∙ ap tag_by c.in-Row.is)) c.offer_at.ensures.damaged

pub returns-in-Lying-clause-more : goal.returns-in-Lying-clause-more
returns-in-Lying-clause-more g c =
    let n = key_of c.args.found.now.0 in
    on_ok _ _ c.offer_row.result (λ over told gaz stands found tag.
    subst (λ (way : Way). SeesMore gaz (asked c.args.query.now) c.args.best.now.keep (stands_for (asked c.args.query.now) way n) c.args.best.now.pairs c.offer_row.new.best.pairs) (sym c.in-Lying.is)
    (subst (λ (id : ℕ). SeesMore gaz (asked c.args.query.now) c.args.best.now.keep (is_itself (asked c.args.query.now) id) c.args.best.now.pairs c.offer_row.new.best.pairs) c.number_at.ensures (over told gaz stands)))
    c.offer_row.ensures.more

pub returns-in-Lying-clause-damaged : goal.returns-in-Lying-clause-damaged
returns-in-Lying-clause-damaged g c =
    if_err _ _ c.offer_row.result (λ fault over told gaz stands found tag. over told gaz stands) c.offer_row.ensures.damaged
