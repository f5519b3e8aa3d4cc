use Rattle.std.proofs.Common.{◌≤◌, length, ap, sym, subst}
use Rattle.gaz_kin.specs.declared.ids.Part.TheVariants.{Other}
use Rattle.gaz_plain.specs.Children.{is_linked_to}
use Rattle.gaz_plain.proofs.Offering.{sees}
use Rattle.gaz_kin.proofs.Answered.{if_err, comes_between}
use Rattle.gaz_kin.proofs.Offered.{on_ok, have_ids}
use Rattle.gaz_kin.proofs.Within.{linked_below, linked_below_few, linked_below_within, linked_among}
use Rattle.gaz_scan.specs.Scan.{tree_of}
use Rattle.gaz_kin.specs.Reads.{most_sought, links_down}
use Rattle.gaz_kin.proofs.Walked.{few_offered}
use Rattle.gaz_kin.proofs.below.offer_linked.Goals as goal

pub returns-clause-more : goal.returns-clause-more
returns-clause-more g c =
    let v = g.P.Pages.view c.args.store.now.pages in
    let root = c.args.store.now.root in
    let id = c.args.id in
    on_ok _ _ c.offer_all.result (λ over told gaz stands.
    let range = linked_below gaz v root stands id c.ranges.id.fits in
    sees gaz stands.is_gazetteer id c.args.best.now.keep (have_ids gaz stands.is_gazetteer id c.args.best.now.keep Other range) (is_linked_to gaz id) c.args.best.now.pairs c.offer_all.new.best.pairs
    (over told gaz stands range
    (comes_between v.page c.scan.result stands.pairs c.reverse_key-low.result c.reverse_key-high.result _ _ c.reverse_key-low.ensures c.reverse_key-high.ensures (c.scan.ensures.comes v.page stands.pairs stands.tree))
    (subst (λ most. length range ≤ most) (sym (ap (λ root. root.counts.links) c.root.ensures)) (linked_below_within gaz v root stands id c.ranges.id.fits)))
    (λ row at child linked. linked_among gaz v root stands id c.ranges.id.fits row linked))
    c.offer_all.ensures.more

pub returns-clause-damaged : goal.returns-clause-damaged
returns-clause-damaged g c =
    let v = g.P.Pages.view c.args.store.now.pages in
    let root = c.args.store.now.root in
    let id = c.args.id in
    if_err _ _ c.offer_all.result (λ fault over told gaz stands.
    let range = linked_below gaz v root stands id c.ranges.id.fits in
    over told gaz stands range
    (comes_between v.page c.scan.result stands.pairs c.reverse_key-low.result c.reverse_key-high.result _ _ c.reverse_key-low.ensures c.reverse_key-high.ensures (c.scan.ensures.comes v.page stands.pairs stands.tree))
    (subst (λ most. length range ≤ most) (sym (ap (λ root. root.counts.links) c.root.ensures)) (linked_below_within gaz v root stands id c.ranges.id.fits)))
    c.offer_all.ensures.damaged

pub returns-clause-few : goal.returns-clause-few
returns-clause-few g c told gaz stands =
    let v = g.P.Pages.view c.args.store.now.pages in
    let root = c.args.store.now.root in
    let id = c.args.id in
    let range = linked_below gaz v root stands id c.ranges.id.fits in
    few_offered root.height (tree_of c.scan.result).height (most_sought gaz) (length range) (links_down gaz id) v.reads (g.P.Pages.view c.offer_all.new.store.pages).reads c.scan.ensures.height stands.tree.shallow
    (linked_below_few gaz v root stands id c.ranges.id.fits)
    (c.offer_all.ensures.few told gaz stands range
    (comes_between v.page c.scan.result stands.pairs c.reverse_key-low.result c.reverse_key-high.result _ _ c.reverse_key-low.ensures c.reverse_key-high.ensures (c.scan.ensures.comes v.page stands.pairs stands.tree))
    (subst (λ most. length range ≤ most) (sym (ap (λ root. root.counts.links) c.root.ensures)) (linked_below_within gaz v root stands id c.ranges.id.fits)))
