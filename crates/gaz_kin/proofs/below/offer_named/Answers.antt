use Rattle.std.proofs.Common.{length, ap}
use Rattle.gaz_plain.proofs.Offering.{sees}
use Rattle.gaz_scan.specs.Scan.{tree_of}
use Rattle.gaz_kin.specs.Reads.{most_sought, rows_of_pairs, rows_named}
use Rattle.gaz_kin.proofs.Summed.{of_countries, read_named}
use Rattle.gaz_kin.specs.Below.{is_named_by, is_named_among}
use Rattle.gaz_kin.proofs.Answered.{if_err, comes_between}
use Rattle.gaz_kin.proofs.Offered.{on_ok}
use Rattle.gaz_kin.proofs.Countries.{country_range, are_countries, countries_within, named_among}
use Rattle.gaz_kin.proofs.below.offer_named.Goals as goal

pub returns-clause-more : goal.returns-clause-more
returns-clause-more g c =
    let v = g.P.Pages.view c.args.store.now.pages in
    let root = c.args.store.now.root in
    let id = c.args.id in
    on_ok _ _ c.offer_countries.result (λ over told gaz stands.
    let range = country_range gaz v root stands in
    sees gaz stands.is_gazetteer id c.args.best.now.keep (is_named_among gaz range id) (is_named_by gaz id) c.args.best.now.pairs c.offer_countries.new.best.pairs
    (over told gaz stands range
    (comes_between v.page c.scan-scan.result stands.pairs c.country_key.result c.country_key-2.result _ _ c.country_key.ensures c.country_key-2.ensures (c.scan-scan.ensures.comes v.page stands.pairs stands.tree))
    (are_countries gaz v root stands))
    (λ row at child named. named_among gaz v root stands id row named))
    c.offer_countries.ensures.more

pub returns-clause-damaged : goal.returns-clause-damaged
returns-clause-damaged g c =
    let v = g.P.Pages.view c.args.store.now.pages in
    let root = c.args.store.now.root in
    let id = c.args.id in
    if_err _ _ c.offer_countries.result (λ fault over told gaz stands.
    let range = country_range gaz v root stands in
    over told gaz stands range
    (comes_between v.page c.scan-scan.result stands.pairs c.country_key.result c.country_key-2.result _ _ c.country_key.ensures c.country_key-2.ensures (c.scan-scan.ensures.comes v.page stands.pairs stands.tree))
    (are_countries gaz v root stands)
    (countries_within gaz v root stands))
    c.offer_countries.ensures.damaged

pub returns-clause-few : goal.returns-clause-few
returns-clause-few g c told gaz stands =
    let v = g.P.Pages.view c.args.store.now.pages in
    let root = c.args.store.now.root in
    let id = c.args.id in
    let range = country_range gaz v root stands in
    read_named root.height (tree_of c.scan-scan.result).height (length gaz.countries) root.counts.countries (most_sought gaz) (rows_of_pairs gaz id range) (rows_named gaz id) v.reads (g.P.Pages.view c.offer_countries.new.store.pages).reads
    c.scan-scan.ensures.height stands.tree.shallow (ap (λ counts. counts.countries) stands.counts) (of_countries gaz id v root stands)
    (c.offer_countries.ensures.few told gaz stands range
    (comes_between v.page c.scan-scan.result stands.pairs c.country_key.result c.country_key-2.result _ _ c.country_key.ensures c.country_key-2.ensures (c.scan-scan.ensures.comes v.page stands.pairs stands.tree))
    (are_countries gaz v root stands))
