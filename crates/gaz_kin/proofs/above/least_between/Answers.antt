use Rattle.std.proofs.Common.{◌<◌, ◌∙◌, length, arith}
use Rattle.gaz_scan.specs.Scan.{tree_of}
use Rattle.gaz_kin.specs.Reads.{alike_at}
use Rattle.gaz_kin.proofs.Walked.{few_in_all}
use Rattle.std.proofs.lemmas.List.Elements.{All-from_get_or}
use Rattle.gaz_kin.proofs.Answered.{if_ok, if_err, both_ok, comes_between}
use Rattle.gaz_kin.proofs.Divided.{divided_range, divided_few, divided_within, least_above_is, least_of_all_is}
use Rattle.gaz_kin.proofs.above.least_between.Goals as goal

pub returns-clause-found : goal.returns-clause-found
returns-clause-found g c =
    let v = g.P.Pages.view c.args.store.now.pages in
    let root = c.args.store.now.root in
    let first = c.args.first.now in
    let fits = All-from_get_or (λ byte. byte < 256) first 0 (λ i below. let fit = c.fits-first i in omega (arith, fit)) in
    if_ok _ _ c.first_above.result (λ found both told gaz stands.
    let range = divided_range gaz v root stands c.args.level c.requires.level c.args.row.now first fits c.requires.first in
    let comes = comes_between v.page c.scan-scan.result stands.pairs c.division_key-low.result c.division_key-high.result _ _ c.division_key-low.ensures c.division_key-high.ensures (c.scan-scan.ensures.comes v.page stands.pairs stands.tree) in
    let within = divided_within gaz v root stands c.args.level c.requires.level c.args.row.now first fits c.requires.first in
    record {
      other = both.0 told gaz stands range comes within ∙ least_above_is gaz v root stands c.args.level c.requires.level c.args.row.now first fits c.requires.first;
      all = λ common. both.1 told gaz stands range comes within common ∙ least_of_all_is gaz v root stands c.args.level c.requires.level c.args.row.now first fits c.requires.first;
    })
    (both_ok _ _ c.first_above.result c.first_above.ensures.found c.first_above.ensures.common)

pub returns-clause-damaged : goal.returns-clause-damaged
returns-clause-damaged g c =
    let v = g.P.Pages.view c.args.store.now.pages in
    let root = c.args.store.now.root in
    let first = c.args.first.now in
    let fits = All-from_get_or (λ byte. byte < 256) first 0 (λ i below. let fit = c.fits-first i in omega (arith, fit)) in
    if_err _ _ c.first_above.result (λ fault over told gaz stands.
    over told gaz stands (divided_range gaz v root stands c.args.level c.requires.level c.args.row.now first fits c.requires.first)
    (comes_between v.page c.scan-scan.result stands.pairs c.division_key-low.result c.division_key-high.result _ _ c.division_key-low.ensures c.division_key-high.ensures (c.scan-scan.ensures.comes v.page stands.pairs stands.tree))
    (divided_within gaz v root stands c.args.level c.requires.level c.args.row.now first fits c.requires.first))
    c.first_above.ensures.damaged

pub returns-clause-few : goal.returns-clause-few
returns-clause-few g c told gaz stands =
    let v = g.P.Pages.view c.args.store.now.pages in
    let root = c.args.store.now.root in
    let first = c.args.first.now in
    let fits = All-from_get_or (λ byte. byte < 256) first 0 (λ i below. let fit = c.fits-first i in omega (arith, fit)) in
    let range = divided_range gaz v root stands c.args.level c.requires.level c.args.row.now first fits c.requires.first in
    few_in_all root.height (tree_of c.scan-scan.result).height (length range) (alike_at gaz c.args.row.now c.args.level) v.reads (g.P.Pages.view c.first_above.new.store.pages).reads c.scan-scan.ensures.height stands.tree.shallow
    (divided_few gaz v root stands c.args.level c.requires.level c.args.row.now first fits c.requires.first)
    (c.first_above.ensures.few told gaz stands range
    (comes_between v.page c.scan-scan.result stands.pairs c.division_key-low.result c.division_key-high.result _ _ c.division_key-low.ensures c.division_key-high.ensures (c.scan-scan.ensures.comes v.page stands.pairs stands.tree))
    (divided_within gaz v root stands c.args.level c.requires.level c.args.row.now first fits c.requires.first))
