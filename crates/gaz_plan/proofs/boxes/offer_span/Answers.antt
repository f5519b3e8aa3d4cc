use mir.Val.{SFits}
use mir.Syntax.{w64}
use Rattle.std.proofs.lemmas.Int.{to_z-of_z}
use Rattle.std.proofs.Common.{rules, ◌≡◌, ◌<◌, ◌≤◌, ◌+◌, ◌-◌, ◌*◌, ◌^◌, ℕ, List, length, ap, subst, arith, ◌∙◌}
use Rattle.gaz_pick.specs.Asked.{asked}
use Rattle.gaz_leaf.specs.Node.{key_of}
use Rattle.gaz_scan.specs.Ranges.{between}
use Rattle.gaz_keys.specs.Keys.{IsKey, box_key}
use Rattle.gaz_keys.specs.Parts.{tag_of}
use Rattle.gaz_kin.proofs.Offered.{on_ok}
use Rattle.gaz_plan.specs.declared.walk.Way.TheVariants.{Lying}
use Rattle.gaz_plan.specs.Boxes.{from_antimeridian, is_in_span}
use Rattle.gaz_plan.specs.Seen.{SeesMore}
use Rattle.gaz_plan.specs.Ways.{is_among}
use Rattle.gaz_plan.proofs.Offering.{sees}
use Rattle.gaz_plan.proofs.Boxed.{box_tag, span_among}
use Rattle.gaz_plan.proofs.FewRows.{span_few}
use Rattle.gaz_plan.proofs.boxes.offer_span.Goals as goal

pub offer_range-requires-clause-low : goal.offer_range-requires-clause-low
offer_range-requires-clause-low g c = ap tag_of c.box_key-low.ensures ∙ box_tag _ _ _

pub offer_range-requires-clause-high : goal.offer_range-requires-clause-high
offer_range-requires-clause-high g c = ap tag_of c.box_key-high.ensures ∙ box_tag _ _ _

pub returns-clause-more : goal.returns-clause-more
returns-clause-more g c =
    let v = g.P.Pages.view c.args.store.now.pages in
    let root = c.args.store.now.root in
    let a = asked c.args.query.now in
    let keep = c.args.best.now.keep in
    let band = c.args.band in
    let range = c.args.range in
    let west_fits : SFits w64 range.0 = search rules in
    let east_fits : SFits w64 range.1 = search rules in
    let west : c.from_antimeridian.result ≡ from_antimeridian range.0 = simp to_z-of_z at c.from_antimeridian.ensures in
    let east : c.from_antimeridian-2.result ≡ from_antimeridian range.1 = simp to_z-of_z at c.from_antimeridian-2.ensures in
    let low : c.box_key-low.result ≡ box_key band (from_antimeridian range.0) 0 = c.box_key-low.ensures ∙ ap (λ e. box_key band e 0) west in
    let high : c.box_key-high.result ≡ box_key band (from_antimeridian range.1) (2 ^ 32 - 1) = c.box_key-high.ensures ∙ ap (λ e. box_key band e (2 ^ 32 - 1)) east in
    on_ok _ _ c.offer_range.result (λ over told gaz stands.
    sees gaz stands.is_gazetteer a keep (is_among a Lying (between (key_of (box_key band (from_antimeridian range.0) 0)) (key_of (box_key band (from_antimeridian range.1) (2 ^ 32 - 1))) stands.pairs)) (is_in_span band range) c.args.best.now.pairs c.offer_range.new.best.pairs
    (subst (λ (h : List ℕ). SeesMore gaz a keep (is_among a Lying (between (key_of (box_key band (from_antimeridian range.0) 0)) (key_of h) stands.pairs)) c.args.best.now.pairs c.offer_range.new.best.pairs) high
    (subst (λ (l : List ℕ). SeesMore gaz a keep (is_among a Lying (between (key_of l) (key_of c.box_key-high.result) stands.pairs)) c.args.best.now.pairs c.offer_range.new.best.pairs) low
    (over told gaz stands)))
    (λ row at is_one inside. span_among gaz v root stands a c.requires.unnamed band range c.requires.west c.requires.east row at inside))
    c.offer_range.ensures.more

pub returns-clause-reads : goal.returns-clause-reads
returns-clause-reads g c told gaz stands =
    let v = g.P.Pages.view c.args.store.now.pages in
    let now = g.P.Pages.view c.offer_range.new.store.pages in
    let root = c.args.store.now.root in
    let band = c.args.band in
    let range = c.args.range in
    let west_fits : SFits w64 range.0 = search rules in
    let east_fits : SFits w64 range.1 = search rules in
    let west : c.from_antimeridian.result ≡ from_antimeridian range.0 = simp to_z-of_z at c.from_antimeridian.ensures in
    let east : c.from_antimeridian-2.result ≡ from_antimeridian range.1 = simp to_z-of_z at c.from_antimeridian-2.ensures in
    let low : c.box_key-low.result ≡ box_key band (from_antimeridian range.0) 0 = c.box_key-low.ensures ∙ ap (λ e. box_key band e 0) west in
    let high : c.box_key-high.result ≡ box_key band (from_antimeridian range.1) (2 ^ 32 - 1) = c.box_key-high.ensures ∙ ap (λ e. box_key band e (2 ^ 32 - 1)) east in
    let band_fits : band < 2 ^ 16 = search rules in
    let few = span_few gaz v root stands band range band_fits c.requires.west c.requires.east (subst IsKey low c.offer_range.ensures.low) (subst IsKey high c.offer_range.ensures.high) in
    let read =
    subst (λ (h : List ℕ). now.reads ≤ v.reads + 64 * (length (between (key_of (box_key band (from_antimeridian range.0) 0)) (key_of h) stands.pairs) + 1)) high
    (subst (λ (l : List ℕ). now.reads ≤ v.reads + 64 * (length (between (key_of l) (key_of c.box_key-high.result) stands.pairs) + 1)) low
    (c.offer_range.ensures.reads told gaz stands)) in
    omega (arith, few, read)
