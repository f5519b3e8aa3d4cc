use Rattle.std.proofs.Common.{◌≤◌, ◌+◌, ◌*◌, ◌||◌, [], ◌∷◌, ℕ, false, length, sym, subst, take, arith, ◌∙◌}
use Rattle.gaz_num.specs.declared.words.Table.TheVariants.{Rows}
use Rattle.gaz_plain.specs.Gazetteer.{line_with}
use Rattle.gaz_plain.specs.Children.{is_linked_to, SeesMore}
use Rattle.gaz_plain.proofs.Below.{childless}
use Rattle.gaz_plain.proofs.Offering.{sees_both, sees_nothing, all_offered}
use Rattle.gaz_rows.specs.Store.{IsSound}
use Rattle.gaz_kin.specs.Below.{is_within, is_named_by, IsBeginningOf}
use Rattle.gaz_kin.specs.Leading.{one_asked, only_on, told_on, store_on, over_on}
use Rattle.gaz_kin.proofs.Answered.{if_err}
use Rattle.gaz_kin.proofs.Offered.{on_ok}
use Rattle.gaz_kin.proofs.Reached.{child_reached}
use Rattle.gaz_kin.specs.Reads.{most_sought, links_down, rows_within_found, rows_named}
use Rattle.gaz_kin.proofs.Summed.{read_in_all}
use Rattle.gaz_kin.proofs.below.offer_children.Goals as goal

-- no place, no children
pub returns-in-Ok-None-clause-pairs : goal.returns-in-Ok-None-clause-pairs
returns-in-Ok-None-clause-pairs g c told gaz stands =
    let is = stands.is_gazetteer in
    let none = childless gaz is c.args.id (rw c.in-Ok-None.field-0-is at (c.in-Ok-None.ensures.line told gaz stands)) in
    all_offered gaz is c.args.id c.args.best.now.keep c.args.best.now.pairs c.args.best.now.pairs c.requires.none (λ row. false)
    (sees_nothing gaz is c.args.id c.args.best.now.keep (λ row. false) c.args.best.now.pairs (λ row at child there. none row child))
    (λ row child. absurd (none row child))

pub returns-in-Err-offer_linked-clause-damaged : goal.returns-in-Err-offer_linked-clause-damaged
returns-in-Err-offer_linked-clause-damaged g c told gaz stands =
    let v = g.P.Pages.view in
    let v0 = v c.args.store.now.pages in
    let v1 = v c.find_row.new.store.pages in
    let asked1 = one_asked _ v0 v1 _ c.in-Ok-Some.ensures.asked in
    c.in-Err-offer_linked.ensures.damaged (told_on v0 v1 _ asked1 told) gaz (store_on gaz v0 v1 c.args.store.now.root c.find_row.new.store.root c.in-Ok-Some.field-0 asked1 c.in-Ok-Some.ensures.root told stands)

pub returns-in-Err-offer_linked-clause-asked : goal.returns-in-Err-offer_linked-clause-asked
returns-in-Err-offer_linked-clause-asked g c =
    let v = g.P.Pages.view in
    let v0 = v c.args.store.now.pages in
    let v1 = v c.find_row.new.store.pages in
    let v2 = v c.offer_linked.new.store.pages in
    let asked1 = one_asked _ v0 v1 _ c.in-Ok-Some.ensures.asked in
    only_on v0 v1 v2 c.in-Ok-Some.field-0 _ asked1 c.in-Err-offer_linked.ensures.asked

pub returns-in-Err-offer_within-clause-damaged : goal.returns-in-Err-offer_within-clause-damaged
returns-in-Err-offer_within-clause-damaged g c told gaz stands =
    let v = g.P.Pages.view in
    let v0 = v c.args.store.now.pages in
    let v1 = v c.find_row.new.store.pages in
    let v2 = v c.offer_linked.new.store.pages in
    let asked1 = one_asked _ v0 v1 _ c.in-Ok-Some.ensures.asked in
    let told1 = told_on v0 v1 _ asked1 told in
    let stands1 = store_on gaz v0 v1 c.args.store.now.root c.find_row.new.store.root c.in-Ok-Some.field-0 asked1 c.in-Ok-Some.ensures.root told stands in
    c.in-Err-offer_within.ensures.damaged (told_on v1 v2 _ c.in-Ok.ensures.asked told1) gaz (store_on gaz v1 v2 c.find_row.new.store.root c.offer_linked.new.store.root tt c.in-Ok.ensures.asked c.in-Ok.ensures.root told1 stands1)

pub returns-in-Err-offer_within-clause-asked : goal.returns-in-Err-offer_within-clause-asked
returns-in-Err-offer_within-clause-asked g c =
    let v = g.P.Pages.view in
    let v0 = v c.args.store.now.pages in
    let v1 = v c.find_row.new.store.pages in
    let v2 = v c.offer_linked.new.store.pages in
    let v3 = v c.offer_within.new.store.pages in
    let asked1 = one_asked _ v0 v1 _ c.in-Ok-Some.ensures.asked in
    only_on v0 v1 v3 c.in-Ok-Some.field-0 _ asked1 (only_on v1 v2 v3 tt _ c.in-Ok.ensures.asked c.in-Err-offer_within.ensures.asked)

pub returns-clause-pairs : goal.returns-clause-pairs
returns-clause-pairs g c =
    let v = g.P.Pages.view in
    let v0 = v c.args.store.now.pages in
    let v1 = v c.find_row.new.store.pages in
    let v2 = v c.offer_linked.new.store.pages in
    let v3 = v c.offer_within.new.store.pages in
    let asked1 = one_asked _ v0 v1 _ c.in-Ok-Some.ensures.asked in
    let one = c.in-Ok.ensures in
    let two = c.in-Ok-offer_within.ensures in
    let id = c.args.id in
    let keep = c.args.best.now.keep in
    on_ok _ _ c.offer_named.result (λ over told gaz stands.
    let is = stands.is_gazetteer in
    let told1 = told_on v0 v1 _ asked1 told in
    let stands1 = store_on gaz v0 v1 c.args.store.now.root c.find_row.new.store.root c.in-Ok-Some.field-0 asked1 c.in-Ok-Some.ensures.root told stands in
    let told2 = told_on v1 v2 _ one.asked told1 in
    let stands2 = store_on gaz v1 v2 c.find_row.new.store.root c.offer_linked.new.store.root tt one.asked one.root told1 stands1 in
    let told3 = told_on v2 v3 _ two.asked told2 in
    let stands3 = store_on gaz v2 v3 c.offer_linked.new.store.root c.offer_within.new.store.root tt two.asked two.root told2 stands2 in
    let place = take c.in-Ok-Some.size c.find_row.new.buf in
    let at = rw c.in-Ok-Some.field-0-is at (c.in-Ok-Some.ensures.line told gaz stands) in
    let begins = subst (λ row. IsBeginningOf row c.beginning_of-beginning.result) c.of.ensures c.beginning_of-beginning.ensures in
    let first = one.more told1 gaz stands1 in
    let second = subst (λ (k : ℕ). SeesMore gaz id k (is_within place) c.offer_linked.new.best.pairs c.offer_within.new.best.pairs) one.keep (two.more told2 gaz stands2 place begins) in
    let third = subst (λ (k : ℕ). SeesMore gaz id k (is_named_by gaz id) c.offer_within.new.best.pairs c.offer_named.new.best.pairs) (two.keep ∙ one.keep) (over told3 gaz stands3) in
    let both = sees_both gaz is id keep (is_linked_to gaz id) (is_within place) c.args.best.now.pairs c.offer_linked.new.best.pairs c.offer_within.new.best.pairs first second in
    let all = sees_both gaz is id keep (λ row. is_linked_to gaz id row || is_within place row) (is_named_by gaz id) c.args.best.now.pairs c.offer_within.new.best.pairs c.offer_named.new.best.pairs both third in
    all_offered gaz is id keep c.args.best.now.pairs c.offer_named.new.best.pairs c.requires.none _ all (child_reached gaz is id place at))
    c.offer_named.ensures.more

pub returns-clause-damaged : goal.returns-clause-damaged
returns-clause-damaged g c =
    let v = g.P.Pages.view in
    let v0 = v c.args.store.now.pages in
    let v1 = v c.find_row.new.store.pages in
    let v2 = v c.offer_linked.new.store.pages in
    let v3 = v c.offer_within.new.store.pages in
    let asked1 = one_asked _ v0 v1 _ c.in-Ok-Some.ensures.asked in
    let one = c.in-Ok.ensures in
    let two = c.in-Ok-offer_within.ensures in
    if_err _ _ c.offer_named.result (λ fault over.
    over_on (λ gaz. IsSound fault) v0 v1 c.args.store.now.root c.find_row.new.store.root c.in-Ok-Some.field-0 asked1 c.in-Ok-Some.ensures.root
    (over_on (λ gaz. IsSound fault) v1 v2 c.find_row.new.store.root c.offer_linked.new.store.root tt one.asked one.root
    (over_on (λ gaz. IsSound fault) v2 v3 c.offer_linked.new.store.root c.offer_within.new.store.root tt two.asked two.root over)))
    c.offer_named.ensures.damaged

pub returns-clause-asked : goal.returns-clause-asked
returns-clause-asked g c =
    let v = g.P.Pages.view in
    let v0 = v c.args.store.now.pages in
    let v1 = v c.find_row.new.store.pages in
    let v2 = v c.offer_linked.new.store.pages in
    let v3 = v c.offer_within.new.store.pages in
    let asked1 = one_asked _ v0 v1 _ c.in-Ok-Some.ensures.asked in
    only_on v0 v1 (v c.offer_named.new.store.pages) c.in-Ok-Some.field-0 _ asked1
    (only_on v1 v2 (v c.offer_named.new.store.pages) tt _ c.in-Ok.ensures.asked (only_on v2 v3 (v c.offer_named.new.store.pages) tt _ c.in-Ok-offer_within.ensures.asked c.offer_named.ensures.asked))

-- ---- how much was read

pub returns-in-Ok-None-clause-few : goal.returns-in-Ok-None-clause-few
returns-in-Ok-None-clause-few g c told gaz stands =
    let found = c.in-Ok-None.ensures.asked.counts.reads in
    let shallow = stands.tree.shallow in
    omega (arith, found, shallow)

pub returns-in-Err-clause-few : goal.returns-in-Err-clause-few
returns-in-Err-clause-few g c told gaz stands =
    let found = c.in-Err.ensures.asked.counts.reads in
    let shallow = stands.tree.shallow in
    omega (arith, found, shallow)

pub returns-in-Err-offer_linked-clause-few : goal.returns-in-Err-offer_linked-clause-few
returns-in-Err-offer_linked-clause-few g c told gaz stands =
    let v = g.P.Pages.view in
    let id = c.args.id in
    let v0 = v c.args.store.now.pages in
    let v1 = v c.find_row.new.store.pages in
    let v2 = v c.offer_linked.new.store.pages in
    let asked1 = one_asked _ v0 v1 _ c.in-Ok-Some.ensures.asked in
    let told1 = told_on v0 v1 _ asked1 told in
    let stands1 = store_on gaz v0 v1 c.args.store.now.root c.find_row.new.store.root c.in-Ok-Some.field-0 asked1 c.in-Ok-Some.ensures.root told stands in
    let found = c.in-Ok-Some.ensures.asked.counts.reads in
    let shallow = stands.tree.shallow in
    read_in_all (links_down gaz id) (rows_within_found gaz (line_with Rows (id ∷ []) gaz)) (rows_named gaz id) (most_sought gaz) (length gaz.countries) v0.reads v1.reads v2.reads v2.reads v2.reads
    (omega (arith, found, shallow)) (c.in-Err-offer_linked.ensures.few told1 gaz stands1) (omega arith) (omega arith)

pub returns-in-Err-offer_within-clause-few : goal.returns-in-Err-offer_within-clause-few
returns-in-Err-offer_within-clause-few g c told gaz stands =
    let v = g.P.Pages.view in
    let id = c.args.id in
    let v0 = v c.args.store.now.pages in
    let v1 = v c.find_row.new.store.pages in
    let v2 = v c.offer_linked.new.store.pages in
    let asked1 = one_asked _ v0 v1 _ c.in-Ok-Some.ensures.asked in
    let told1 = told_on v0 v1 _ asked1 told in
    let stands1 = store_on gaz v0 v1 c.args.store.now.root c.find_row.new.store.root c.in-Ok-Some.field-0 asked1 c.in-Ok-Some.ensures.root told stands in
    let found = c.in-Ok-Some.ensures.asked.counts.reads in
    let shallow = stands.tree.shallow in
    let v3 = v c.offer_within.new.store.pages in
    let told2 = told_on v1 v2 _ c.in-Ok.ensures.asked told1 in
    let stands2 = store_on gaz v1 v2 c.find_row.new.store.root c.offer_linked.new.store.root tt c.in-Ok.ensures.asked c.in-Ok.ensures.root told1 stands1 in
    let place = take c.in-Ok-Some.size c.find_row.new.buf in
    let at = rw c.in-Ok-Some.field-0-is at (c.in-Ok-Some.ensures.line told gaz stands) in
    let begins = subst (λ row. IsBeginningOf row c.beginning_of-beginning.result) c.of.ensures c.beginning_of-beginning.ensures in
    let within : v3.reads ≤ v2.reads + (64 * (rows_within_found gaz (line_with Rows (id ∷ []) gaz) * (most_sought gaz + 4)) + 12) =
    subst (λ found. v3.reads ≤ v2.reads + (64 * (rows_within_found gaz found * (most_sought gaz + 4)) + 12)) (sym at) (c.in-Err-offer_within.ensures.few told2 gaz stands2 place begins) in
    read_in_all (links_down gaz id) (rows_within_found gaz (line_with Rows (id ∷ []) gaz)) (rows_named gaz id) (most_sought gaz) (length gaz.countries) v0.reads v1.reads v2.reads v3.reads v3.reads
    (omega (arith, found, shallow)) (c.in-Ok.ensures.few told1 gaz stands1) within (omega arith)

pub returns-clause-few : goal.returns-clause-few
returns-clause-few g c told gaz stands =
    let v = g.P.Pages.view in
    let id = c.args.id in
    let v0 = v c.args.store.now.pages in
    let v1 = v c.find_row.new.store.pages in
    let v2 = v c.offer_linked.new.store.pages in
    let asked1 = one_asked _ v0 v1 _ c.in-Ok-Some.ensures.asked in
    let told1 = told_on v0 v1 _ asked1 told in
    let stands1 = store_on gaz v0 v1 c.args.store.now.root c.find_row.new.store.root c.in-Ok-Some.field-0 asked1 c.in-Ok-Some.ensures.root told stands in
    let found = c.in-Ok-Some.ensures.asked.counts.reads in
    let shallow = stands.tree.shallow in
    let v3 = v c.offer_within.new.store.pages in
    let told2 = told_on v1 v2 _ c.in-Ok.ensures.asked told1 in
    let stands2 = store_on gaz v1 v2 c.find_row.new.store.root c.offer_linked.new.store.root tt c.in-Ok.ensures.asked c.in-Ok.ensures.root told1 stands1 in
    let place = take c.in-Ok-Some.size c.find_row.new.buf in
    let at = rw c.in-Ok-Some.field-0-is at (c.in-Ok-Some.ensures.line told gaz stands) in
    let begins = subst (λ row. IsBeginningOf row c.beginning_of-beginning.result) c.of.ensures c.beginning_of-beginning.ensures in
    let within : v3.reads ≤ v2.reads + (64 * (rows_within_found gaz (line_with Rows (id ∷ []) gaz) * (most_sought gaz + 4)) + 12) =
    subst (λ found. v3.reads ≤ v2.reads + (64 * (rows_within_found gaz found * (most_sought gaz + 4)) + 12)) (sym at) (c.in-Ok-offer_within.ensures.few told2 gaz stands2 place begins) in
    let told3 = told_on v2 v3 _ c.in-Ok-offer_within.ensures.asked told2 in
    let stands3 = store_on gaz v2 v3 c.offer_linked.new.store.root c.offer_within.new.store.root tt c.in-Ok-offer_within.ensures.asked c.in-Ok-offer_within.ensures.root told2 stands2 in
    read_in_all (links_down gaz id) (rows_within_found gaz (line_with Rows (id ∷ []) gaz)) (rows_named gaz id) (most_sought gaz) (length gaz.countries) v0.reads v1.reads v2.reads v3.reads (v c.offer_named.new.store.pages).reads
    (omega (arith, found, shallow)) (c.in-Ok.ensures.few told1 gaz stands1) within (c.offer_named.ensures.few told3 gaz stands3)
