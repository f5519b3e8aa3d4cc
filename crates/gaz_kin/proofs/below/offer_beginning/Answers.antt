use Rattle.std.proofs.Common.{◌≤◌, ◌<◌, length, ap, sym, subst, arith}
use Rattle.std.proofs.lemmas.List.Elements.{All-from_get_or}
use Rattle.gaz_kin.specs.declared.ids.Part.TheVariants.{Last}
use Rattle.gaz_kin.specs.Below.{has_beginning}
use Rattle.gaz_plain.proofs.Offering.{sees}
use Rattle.gaz_kin.proofs.Answered.{if_err, comes_between}
use Rattle.gaz_kin.proofs.Offered.{on_ok, have_ids}
use Rattle.gaz_kin.proofs.Within.{beginning_range, beginning_few, beginning_within, beginning_among}
use Rattle.gaz_scan.specs.Scan.{tree_of}
use Rattle.gaz_kin.specs.Reads.{most_sought, rows_alike}
use Rattle.gaz_kin.proofs.Walked.{few_offered}
use Rattle.gaz_kin.proofs.below.offer_beginning.Goals as goal

pub returns-clause-more : goal.returns-clause-more
returns-clause-more g c =
    let v = g.P.Pages.view c.args.store.now.pages in
    let root = c.args.store.now.root in
    let id = c.args.id in
    let first = c.args.first.now in
    let last = c.last_of-last.result in
    let fits = All-from_get_or (λ byte. byte < 256) first 0 (λ i below. let fit = c.fits-first i in omega (arith, fit)) in
    on_ok _ _ c.offer_all.result (λ over told gaz stands text front.
    let range = beginning_range gaz v root stands first last c.args.len c.requires.len c.told-first fits c.last_of-last.ensures in
    sees gaz stands.is_gazetteer id c.args.best.now.keep (have_ids gaz stands.is_gazetteer id c.args.best.now.keep Last range) (has_beginning text) c.args.best.now.pairs c.offer_all.new.best.pairs
    (over told gaz stands range
    (comes_between v.page c.scan.result stands.pairs c.path_key-low.result c.path_key-high.result _ _ c.path_key-low.ensures c.path_key-high.ensures (c.scan.ensures.comes v.page stands.pairs stands.tree))
    (subst (λ most. length range ≤ most) (sym (ap (λ root. root.counts.rows) c.root.ensures)) (beginning_within gaz v root stands first last c.args.len c.requires.len c.told-first fits c.last_of-last.ensures)))
    (λ row at child begins. beginning_among gaz v root stands first last c.args.len c.requires.len c.told-first fits c.last_of-last.ensures text front row at begins))
    c.offer_all.ensures.more

pub returns-clause-damaged : goal.returns-clause-damaged
returns-clause-damaged g c =
    let v = g.P.Pages.view c.args.store.now.pages in
    let root = c.args.store.now.root in
    let id = c.args.id in
    let first = c.args.first.now in
    let last = c.last_of-last.result in
    let fits = All-from_get_or (λ byte. byte < 256) first 0 (λ i below. let fit = c.fits-first i in omega (arith, fit)) in
    if_err _ _ c.offer_all.result (λ fault over told gaz stands.
    let range = beginning_range gaz v root stands first last c.args.len c.requires.len c.told-first fits c.last_of-last.ensures in
    over told gaz stands range
    (comes_between v.page c.scan.result stands.pairs c.path_key-low.result c.path_key-high.result _ _ c.path_key-low.ensures c.path_key-high.ensures (c.scan.ensures.comes v.page stands.pairs stands.tree))
    (subst (λ most. length range ≤ most) (sym (ap (λ root. root.counts.rows) c.root.ensures)) (beginning_within gaz v root stands first last c.args.len c.requires.len c.told-first fits c.last_of-last.ensures)))
    c.offer_all.ensures.damaged

pub returns-clause-few : goal.returns-clause-few
returns-clause-few g c told gaz stands text front =
    let v = g.P.Pages.view c.args.store.now.pages in
    let root = c.args.store.now.root in
    let first = c.args.first.now in
    let last = c.last_of-last.result in
    let fits = All-from_get_or (λ byte. byte < 256) first 0 (λ i below. let fit = c.fits-first i in omega (arith, fit)) in
    let range = beginning_range gaz v root stands first last c.args.len c.requires.len c.told-first fits c.last_of-last.ensures in
    few_offered root.height (tree_of c.scan.result).height (most_sought gaz) (length range) (rows_alike gaz text) v.reads (g.P.Pages.view c.offer_all.new.store.pages).reads c.scan.ensures.height stands.tree.shallow
    (beginning_few gaz v root stands first last c.args.len c.requires.len c.told-first fits c.last_of-last.ensures text front)
    (c.offer_all.ensures.few told gaz stands range
    (comes_between v.page c.scan.result stands.pairs c.path_key-low.result c.path_key-high.result _ _ c.path_key-low.ensures c.path_key-high.ensures (c.scan.ensures.comes v.page stands.pairs stands.tree))
    (subst (λ most. length range ≤ most) (sym (ap (λ root. root.counts.rows) c.root.ensures)) (beginning_within gaz v root stands first last c.args.len c.requires.len c.told-first fits c.last_of-last.ensures)))
