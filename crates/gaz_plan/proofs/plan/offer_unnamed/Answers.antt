use Rattle.std.proofs.Common.{sym, ap, ap₂, arith, ◌∙◌}
use Rattle.std.specs.Prelude.{Option}
use Rattle.std.specs.Option.{option_map}
use Rattle.gaz_box.specs.declared.geo_box.GeoBox.{GeoBox}
use Rattle.gaz_box.specs.View.{edges_of}
use Rattle.gaz_pick.specs.Asked.{asked}
use Rattle.gaz_pick.specs.Match.{lies_in}
use Rattle.gaz_plain.specs.Search.{matches}
use Rattle.gaz_kin.proofs.Offered.{on_ok}
use Rattle.gaz_plan.specs.Boxes.{is_in_box}
use Rattle.gaz_plan.specs.Candidates.{most_by}
use Rattle.gaz_plan.specs.Ways.{fits_itself}
use Rattle.gaz_plan.proofs.Boxed.{fits_unnamed}
use Rattle.gaz_plan.proofs.Matching.{matches_lies}
use Rattle.gaz_plan.proofs.Offering.{sees}
use Rattle.gaz_plan.proofs.plan.offer_unnamed.Goals as goal

pub returns-in-Some-clause-more : goal.returns-in-Some-clause-more
returns-in-Some-clause-more g c =
    let a = asked c.args.query.now in
    on_ok _ _ c.offer_box.result (λ over told gaz stands.
    sees gaz stands.is_gazetteer a c.args.best.now.keep (is_in_box (edges_of c.in-Some.edges)) (matches gaz a) c.args.best.now.pairs c.offer_box.new.best.pairs (over told gaz stands)
    (λ row at is_one same. sym (ap (λ (e : Option GeoBox). lies_in (option_map edges_of e) row) c.in-Some.is) ∙ matches_lies gaz a row is_one))
    c.offer_box.ensures.more

pub returns-in-None-clause-more : goal.returns-in-None-clause-more
returns-in-None-clause-more g c =
    let a = asked c.args.query.now in
    on_ok _ _ c.offer_rows.result (λ over told gaz stands.
    sees gaz stands.is_gazetteer a c.args.best.now.keep (fits_itself a) (matches gaz a) c.args.best.now.pairs c.offer_rows.new.best.pairs (over told gaz stands)
    (λ row at is_one same. fits_unnamed a row c.requires.unnamed))
    c.offer_rows.ensures.more

pub returns-in-Some-clause-reads : goal.returns-in-Some-clause-reads
returns-in-Some-clause-reads g c told gaz stands =
    let most = ap₂ (λ name edges. most_by gaz name edges) c.requires.unnamed (ap (λ (e : Option GeoBox). option_map edges_of e) c.in-Some.is) in
    let read = c.offer_box.ensures.reads told gaz stands in
    omega (arith, most, read)

pub returns-in-None-clause-reads : goal.returns-in-None-clause-reads
returns-in-None-clause-reads g c told gaz stands =
    let most = ap₂ (λ name edges. most_by gaz name edges) c.requires.unnamed (ap (λ (e : Option GeoBox). option_map edges_of e) c.in-None.is) in
    let read = c.offer_rows.ensures.reads told gaz stands in
    omega (arith, most, read)
