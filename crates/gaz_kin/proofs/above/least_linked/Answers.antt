use Rattle.std.proofs.Common.{◌∙◌, length}
use Rattle.gaz_scan.specs.Scan.{tree_of}
use Rattle.gaz_kin.specs.Reads.{links_up}
use Rattle.gaz_kin.proofs.Walked.{few_in_all}
use Rattle.gaz_kin.proofs.Answered.{if_ok, if_err, comes_between}
use Rattle.gaz_kin.proofs.Linked.{linked_range, linked_few, linked_within, least_is}
use Rattle.gaz_kin.proofs.above.least_linked.Goals as goal

pub returns-clause-found : goal.returns-clause-found
returns-clause-found g c =
    let v = g.P.Pages.view c.args.store.now.pages in
    let root = c.args.store.now.root in
    if_ok _ _ c.first_linked.result (λ found over told gaz stands.
    over told gaz stands (linked_range gaz v root stands c.args.child c.args.class c.ranges.child.fits)
    (comes_between v.page c.scan-scan.result stands.pairs c.link_key-low.result c.link_key-high.result _ _ c.link_key-low.ensures c.link_key-high.ensures (c.scan-scan.ensures.comes v.page stands.pairs stands.tree))
    (linked_within gaz v root stands c.args.child c.args.class c.ranges.child.fits)
    ∙ least_is gaz v root stands c.args.child c.args.class c.ranges.child.fits)
    c.first_linked.ensures.found

pub returns-clause-damaged : goal.returns-clause-damaged
returns-clause-damaged g c =
    let v = g.P.Pages.view c.args.store.now.pages in
    let root = c.args.store.now.root in
    if_err _ _ c.first_linked.result (λ fault over told gaz stands.
    over told gaz stands (linked_range gaz v root stands c.args.child c.args.class c.ranges.child.fits)
    (comes_between v.page c.scan-scan.result stands.pairs c.link_key-low.result c.link_key-high.result _ _ c.link_key-low.ensures c.link_key-high.ensures (c.scan-scan.ensures.comes v.page stands.pairs stands.tree))
    (linked_within gaz v root stands c.args.child c.args.class c.ranges.child.fits))
    c.first_linked.ensures.damaged

pub returns-clause-few : goal.returns-clause-few
returns-clause-few g c told gaz stands =
    let v = g.P.Pages.view c.args.store.now.pages in
    let root = c.args.store.now.root in
    let range = linked_range gaz v root stands c.args.child c.args.class c.ranges.child.fits in
    few_in_all root.height (tree_of c.scan-scan.result).height (length range) (links_up gaz c.args.child c.args.class) v.reads (g.P.Pages.view c.first_linked.new.store.pages).reads c.scan-scan.ensures.height stands.tree.shallow
    (linked_few gaz v root stands c.args.child c.args.class c.ranges.child.fits)
    (c.first_linked.ensures.few told gaz stands range
    (comes_between v.page c.scan-scan.result stands.pairs c.link_key-low.result c.link_key-high.result _ _ c.link_key-low.ensures c.link_key-high.ensures (c.scan-scan.ensures.comes v.page stands.pairs stands.tree))
    (linked_within gaz v root stands c.args.child c.args.class c.ranges.child.fits))
