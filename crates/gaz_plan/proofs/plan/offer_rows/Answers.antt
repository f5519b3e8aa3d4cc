use Rattle.std.proofs.Common.{◌≡◌, ◌≤◌, ◌+◌, ◌*◌, ℕ, List, length, ap, subst, arith, ◌∙◌, refl}
use Rattle.gaz_pick.specs.Asked.{asked}
use Rattle.gaz_leaf.specs.Node.{key_of}
use Rattle.gaz_scan.specs.Ranges.{between}
use Rattle.gaz_keys.specs.Keys.{place_key}
use Rattle.gaz_keys.specs.Parts.{tag_of}
use Rattle.gaz_kin.proofs.Offered.{on_ok}
use Rattle.gaz_plan.specs.declared.walk.Way.TheVariants.{Row}
use Rattle.gaz_plan.specs.Seen.{SeesMore}
use Rattle.gaz_plan.specs.Ways.{fits_itself, is_among}
use Rattle.gaz_plan.proofs.Offering.{sees}
use Rattle.gaz_plan.proofs.FewRows.{rows_few}
use Rattle.gaz_plan.proofs.Sought.{all_rows, row_among}
use Rattle.gaz_plan.proofs.plan.offer_rows.Goals as goal

place_tag : (id : ℕ) → tag_of (place_key id) ≡ 1
unfolding place_key
place_tag id = refl

pub offer_range-requires-clause-low : goal.offer_range-requires-clause-low
offer_range-requires-clause-low g c = ap tag_of c.place_key-low.ensures ∙ place_tag _

pub offer_range-requires-clause-high : goal.offer_range-requires-clause-high
offer_range-requires-clause-high g c = ap tag_of c.place_key-high.ensures ∙ place_tag _

pub returns-clause-more : goal.returns-clause-more
returns-clause-more g c =
    let v = g.P.Pages.view c.args.store.now.pages in
    let root = c.args.store.now.root in
    let a = asked c.args.query.now in
    let keep = c.args.best.now.keep in
    on_ok _ _ c.offer_range.result (λ over told gaz stands.
    sees gaz stands.is_gazetteer a keep (is_among a Row (all_rows gaz v root stands)) (fits_itself a) c.args.best.now.pairs c.offer_range.new.best.pairs
    (subst (λ (high : List ℕ). SeesMore gaz a keep (is_among a Row (between (key_of (place_key 0)) (key_of high) stands.pairs)) c.args.best.now.pairs c.offer_range.new.best.pairs) c.place_key-high.ensures
    (subst (λ (low : List ℕ). SeesMore gaz a keep (is_among a Row (between (key_of low) (key_of c.place_key-high.result) stands.pairs)) c.args.best.now.pairs c.offer_range.new.best.pairs) c.place_key-low.ensures
    (over told gaz stands)))
    (λ row at is_one fits. row_among gaz v root stands a row at fits))
    c.offer_range.ensures.more

pub returns-clause-reads : goal.returns-clause-reads
returns-clause-reads g c told gaz stands =
    let v = g.P.Pages.view c.args.store.now.pages in
    let now = g.P.Pages.view c.offer_range.new.store.pages in
    let root = c.args.store.now.root in
    let few = rows_few gaz v root stands in
    let read =
    subst (λ (high : List ℕ). now.reads ≤ v.reads + 64 * (length (between (key_of (place_key 0)) (key_of high) stands.pairs) + 1)) c.place_key-high.ensures
    (subst (λ (low : List ℕ). now.reads ≤ v.reads + 64 * (length (between (key_of low) (key_of c.place_key-high.result) stands.pairs) + 1)) c.place_key-low.ensures
    (c.offer_range.ensures.reads told gaz stands)) in
    omega (arith, few, read)
