use Rattle.std.proofs.Common.{◌≡◌, ℕ, [], sym, ap, subst, arith, ◌∙◌, Some, None}
use Rattle.std.specs.Prelude.{◌||◌}
use Rattle.gaz_pick.specs.Asked.{asked}
use Rattle.gaz_box.specs.Edges.{spans_of}
use Rattle.gaz_box.specs.View.{edges_of}
use Rattle.gaz_rows.specs.Store.{IsUndamaged}
use Rattle.gaz_rows.proofs.SteppedOver.{stands_same}
use Rattle.gaz_kin.specs.Leading.{only_on, told_on, over_on}
use Rattle.gaz_kin.proofs.Answered.{if_err}
use Rattle.gaz_kin.proofs.Offered.{on_ok}
use Rattle.gaz_plan.specs.Boxes.{is_in_span, is_in_band}
use Rattle.gaz_plan.specs.Seen.{SeesMore}
use Rattle.gaz_plan.proofs.Offering.{sees, sees_both}
use Rattle.gaz_plan.proofs.Boxed.{one_span, only_span}
use Rattle.gaz_plan.proofs.FewBands.{first_few, both_few}
use Rattle.gaz_plan.proofs.boxes.offer_band.Goals as goal

pub returns-in-Some-clause-more : goal.returns-in-Some-clause-more
returns-in-Some-clause-more g c =
    let v = g.P.Pages.view in
    let v0 = v c.args.store.now.pages in
    let v1 = v c.offer_span.new.store.pages in
    let a = asked c.args.query.now in
    let keep = c.args.best.now.keep in
    let band = c.args.band in
    let e = edges_of c.args.edges.now in
    let first = c.spans-second.result.0 in
    let second = c.in-Some.range in
    let one = c.in-Ok.ensures in
    let spans : spans_of e ≡ (first, Some second) = sym c.spans-second.ensures ∙ ap (λ s. (first, s)) c.in-Some.is in
    on_ok _ _ c.offer_span-in-Some.result (λ over told gaz stands.
    let is = stands.is_gazetteer in
    let told1 = told_on v0 v1 _ one.asked told in
    let stands1 = stands_same [] gaz v0 v1 c.args.store.now.root c.offer_span.new.store.root (one.asked.1.same told) one.root stands in
    let then = subst (λ (k : ℕ). SeesMore gaz a k (is_in_span band second) c.offer_span.new.best.pairs c.offer_span-in-Some.new.best.pairs) one.keep (over told1 gaz stands1) in
    sees gaz is a keep (λ row. is_in_span band first row || is_in_span band second row) (is_in_band band e) c.args.best.now.pairs c.offer_span-in-Some.new.best.pairs
    (sees_both gaz is a keep (is_in_span band first) (is_in_span band second) c.args.best.now.pairs c.offer_span.new.best.pairs c.offer_span-in-Some.new.best.pairs (one.more told gaz stands) then)
    (λ row at is_one inside. one_span band e first second spans row inside))
    c.offer_span-in-Some.ensures.more

pub returns-in-Some-clause-damaged : goal.returns-in-Some-clause-damaged
returns-in-Some-clause-damaged g c =
    let v = g.P.Pages.view in
    if_err _ _ c.offer_span-in-Some.result (λ fault over. over_on (λ gaz. IsUndamaged fault) (v c.args.store.now.pages) (v c.offer_span.new.store.pages) c.args.store.now.root c.offer_span.new.store.root tt c.in-Ok.ensures.asked c.in-Ok.ensures.root over) c.offer_span-in-Some.ensures.damaged

pub returns-in-Some-clause-asked : goal.returns-in-Some-clause-asked
returns-in-Some-clause-asked g c =
    let v = g.P.Pages.view in
    only_on (v c.args.store.now.pages) (v c.offer_span.new.store.pages) (v c.offer_span-in-Some.new.store.pages) tt _ c.in-Ok.ensures.asked c.offer_span-in-Some.ensures.asked

pub returns-in-None-clause-more : goal.returns-in-None-clause-more
returns-in-None-clause-more g c told gaz stands =
    let e = edges_of c.args.edges.now in
    let first = c.spans-second.result.0 in
    let spans : spans_of e ≡ (first, None) = sym c.spans-second.ensures ∙ ap (λ s. (first, s)) c.in-None.is in
    sees gaz stands.is_gazetteer (asked c.args.query.now) c.args.best.now.keep (is_in_span c.args.band first) (is_in_band c.args.band e) c.args.best.now.pairs c.offer_span.new.best.pairs (c.in-Ok.ensures.more told gaz stands)
    (λ row at is_one inside. only_span c.args.band e first spans row inside)

pub returns-in-Some-clause-reads : goal.returns-in-Some-clause-reads
returns-in-Some-clause-reads g c told gaz stands =
    let v = g.P.Pages.view in
    let v0 = v c.args.store.now.pages in
    let v1 = v c.offer_span.new.store.pages in
    let first = c.spans-second.result.0 in
    let second = c.in-Some.range in
    let one = c.in-Ok.ensures in
    let told1 = told_on v0 v1 _ one.asked told in
    let stands1 = stands_same [] gaz v0 v1 c.args.store.now.root c.offer_span.new.store.root (one.asked.1.same told) one.root stands in
    let few = both_few gaz c.args.band (edges_of c.args.edges.now) first second (sym c.spans-second.ensures ∙ ap (λ s. (first, s)) c.in-Some.is) in
    let read = one.reads told gaz stands in
    let more = c.offer_span-in-Some.ensures.reads told1 gaz stands1 in
    omega (arith, few, read, more)

pub returns-in-None-clause-reads : goal.returns-in-None-clause-reads
returns-in-None-clause-reads g c told gaz stands =
    let few = first_few gaz c.args.band (edges_of c.args.edges.now) c.spans-second.result (sym c.spans-second.ensures) in
    let read = c.in-Ok.ensures.reads told gaz stands in
    omega (arith, few, read)

pub returns-in-Err-clause-reads : goal.returns-in-Err-clause-reads
returns-in-Err-clause-reads g c told gaz stands =
    let few = first_few gaz c.args.band (edges_of c.args.edges.now) c.spans-second.result (sym c.spans-second.ensures) in
    let read = c.in-Err.ensures.reads told gaz stands in
    omega (arith, few, read)
