use Rattle.std.proofs.Common.{◌≤◌, [], ◌∷◌, ◌++◌, refl, sym, subst, arith}
use Rattle.gaz_num.specs.Pieces.{column}
use Rattle.gaz_scan.specs.Scan.{Comes}
use Rattle.gaz_kin.specs.Leading.{only_on, only_ok, only_err, told_on, store_on}
use Rattle.gaz_scan.specs.Scan.{tree_of}
use Rattle.gaz_kin.specs.Reads.{most_sought, rows_of_country, rows_of_first}
use Rattle.gaz_kin.proofs.Countries.{one_country, sees_country, sees_none}
use Rattle.gaz_kin.proofs.Summed.{of_pair, one_country_read}
use Rattle.gaz_kin.proofs.below.offer_country.Goals as goal

pub returns-in-Ok-End-clause-more : goal.returns-in-Ok-End-clause-more
returns-in-Ok-End-clause-more g c told gaz stands left comes are = (rw c.in-Ok-End.field-0-is at (c.in-Ok-End.ensures.looks told gaz stands left comes are), refl)

pub returns-in-Ok-End-clause-asked : goal.returns-in-Ok-End-clause-asked
returns-in-Ok-End-clause-asked g c =
    let v = g.P.Pages.view in
    only_ok (v c.args.store.now.pages) (v c.look_named.new.store.pages) c.in-Ok-End.field-0 _ c.in-Ok-End.ensures.asked

pub returns-in-Ok-Other-clause-more : goal.returns-in-Ok-Other-clause-more
returns-in-Ok-Other-clause-more g c told gaz stands left comes are =
    let v = g.P.Pages.view in
    let n = rw c.in-Ok-Other.field-0-is at (c.in-Ok-Other.ensures.looks told gaz stands left comes are) in (
      record { pair = n.pair; rest = n.rest; first = n.first; comes = n.comes; line = n.line; there = n.there; at = n.at; has = tt },
      sees_none gaz stands.is_gazetteer (one_country gaz (v c.args.store.now.pages) c.args.store.now.root stands) c.args.id c.args.best.now.keep n.line c.args.best.now.pairs n.has,
    )

pub returns-in-Ok-Other-clause-asked : goal.returns-in-Ok-Other-clause-asked
returns-in-Ok-Other-clause-asked g c =
    let v = g.P.Pages.view in
    only_ok (v c.args.store.now.pages) (v c.look_named.new.store.pages) c.in-Ok-Other.field-0 _ c.in-Ok-Other.ensures.asked

pub returns-in-Ok-clause-more : goal.returns-in-Ok-clause-more
returns-in-Ok-clause-more g c told gaz stands left comes are =
    let v = g.P.Pages.view in
    let v0 = v c.args.store.now.pages in
    let v1 = v c.look_named.new.store.pages in
    let told1 = told_on v0 v1 _ c.in-Ok-Place.ensures.asked told in
    let stands1 = store_on gaz v0 v1 c.args.store.now.root c.look_named.new.store.root c.in-Ok-Place.field-0 c.in-Ok-Place.ensures.asked c.in-Ok-Place.ensures.root told stands in
    let n = rw c.in-Ok-Place.field-0-is at (c.in-Ok-Place.ensures.looks told gaz stands left comes are) in (
      record { pair = n.pair; rest = n.rest; first = n.first; comes = subst (λ pages. Comes pages c.look_named.new.scan n.rest) (sym (c.in-Ok.ensures.asked.1.same told1).pages) n.comes; line = n.line; there = n.there; at = n.at; has = tt },
      sees_country gaz stands.is_gazetteer (one_country gaz v0 c.args.store.now.root stands) c.args.id c.args.best.now.keep n.line c.args.best.now.pairs c.offer_beginning.new.best.pairs
          (c.in-Ok.ensures.more told1 gaz stands1 (column 1 n.line ++ 0 ∷ []) n.has.1),
    )

pub returns-in-Ok-clause-asked : goal.returns-in-Ok-clause-asked
returns-in-Ok-clause-asked g c =
    let v = g.P.Pages.view in
    only_on (v c.args.store.now.pages) (v c.look_named.new.store.pages) (v c.offer_beginning.new.store.pages) c.in-Ok-Place.field-0 _ c.in-Ok-Place.ensures.asked
    (only_ok (v c.look_named.new.store.pages) (v c.offer_beginning.new.store.pages) tt _ c.in-Ok.ensures.asked)

pub returns-in-Err-offer_beginning-clause-damaged : goal.returns-in-Err-offer_beginning-clause-damaged
returns-in-Err-offer_beginning-clause-damaged g c told gaz stands left comes are =
    let v = g.P.Pages.view in
    let v0 = v c.args.store.now.pages in
    let v1 = v c.look_named.new.store.pages in
    let told1 = told_on v0 v1 _ c.in-Ok-Place.ensures.asked told in
    let stands1 = store_on gaz v0 v1 c.args.store.now.root c.look_named.new.store.root c.in-Ok-Place.field-0 c.in-Ok-Place.ensures.asked c.in-Ok-Place.ensures.root told stands in
    c.in-Err-offer_beginning.ensures.damaged told1 gaz stands1

pub returns-in-Err-offer_beginning-clause-asked : goal.returns-in-Err-offer_beginning-clause-asked
returns-in-Err-offer_beginning-clause-asked g c =
    let v = g.P.Pages.view in
    only_on (v c.args.store.now.pages) (v c.look_named.new.store.pages) (v c.offer_beginning.new.store.pages) c.in-Ok-Place.field-0 _ c.in-Ok-Place.ensures.asked
    (only_err (v c.look_named.new.store.pages) (v c.offer_beginning.new.store.pages) c.in-Err-offer_beginning.fault c.in-Err-offer_beginning.ensures.asked)

pub returns-in-Err-clause-damaged : goal.returns-in-Err-clause-damaged
returns-in-Err-clause-damaged g c told gaz stands left comes are = c.in-Err.ensures.looks told gaz stands left comes are

pub returns-in-Err-clause-asked : goal.returns-in-Err-clause-asked
returns-in-Err-clause-asked g c =
    let v = g.P.Pages.view in
    only_err (v c.args.store.now.pages) (v c.look_named.new.store.pages) c.in-Err.fault c.in-Err.ensures.asked

-- ---- how much was read

pub returns-in-Ok-clause-few : goal.returns-in-Ok-clause-few
returns-in-Ok-clause-few g c told gaz stands left comes are =
    let v = g.P.Pages.view in
    let v0 = v c.args.store.now.pages in
    let v1 = v c.look_named.new.store.pages in
    let told1 = told_on v0 v1 _ c.in-Ok-Place.ensures.asked told in
    let stands1 = store_on gaz v0 v1 c.args.store.now.root c.look_named.new.store.root c.in-Ok-Place.field-0 c.in-Ok-Place.ensures.asked c.in-Ok-Place.ensures.root told stands in
    let n = rw c.in-Ok-Place.field-0-is at (c.in-Ok-Place.ensures.looks told gaz stands left comes are) in
    let rows = rows_of_country gaz n.line in
    let fewer : rows ≤ rows_of_first gaz c.args.id left = subst (λ pairs. rows ≤ rows_of_first gaz c.args.id pairs) (sym n.first) (of_pair gaz c.args.id n.pair n.line n.there n.at n.has.0) in
    one_country_read (tree_of c.args.scan.now).height rows (rows_of_first gaz c.args.id left) (most_sought gaz) v0.reads v1.reads (v c.offer_beginning.new.store.pages).reads fewer c.in-Ok-Place.ensures.few
    (c.in-Ok.ensures.few told1 gaz stands1 (column 1 n.line ++ 0 ∷ []) n.has.1)

pub returns-in-Err-offer_beginning-clause-few : goal.returns-in-Err-offer_beginning-clause-few
returns-in-Err-offer_beginning-clause-few g c told gaz stands left comes are =
    let v = g.P.Pages.view in
    let v0 = v c.args.store.now.pages in
    let v1 = v c.look_named.new.store.pages in
    let told1 = told_on v0 v1 _ c.in-Ok-Place.ensures.asked told in
    let stands1 = store_on gaz v0 v1 c.args.store.now.root c.look_named.new.store.root c.in-Ok-Place.field-0 c.in-Ok-Place.ensures.asked c.in-Ok-Place.ensures.root told stands in
    let n = rw c.in-Ok-Place.field-0-is at (c.in-Ok-Place.ensures.looks told gaz stands left comes are) in
    let rows = rows_of_country gaz n.line in
    let fewer : rows ≤ rows_of_first gaz c.args.id left = subst (λ pairs. rows ≤ rows_of_first gaz c.args.id pairs) (sym n.first) (of_pair gaz c.args.id n.pair n.line n.there n.at n.has.0) in
    one_country_read (tree_of c.args.scan.now).height rows (rows_of_first gaz c.args.id left) (most_sought gaz) v0.reads v1.reads (v c.offer_beginning.new.store.pages).reads fewer c.in-Ok-Place.ensures.few
    (c.in-Err-offer_beginning.ensures.few told1 gaz stands1 (column 1 n.line ++ 0 ∷ []) n.has.1)

pub returns-in-Ok-End-clause-few : goal.returns-in-Ok-End-clause-few
returns-in-Ok-End-clause-few g c told gaz stands left comes are =
    let looked = c.in-Ok-End.ensures.few in
    omega (arith, looked)

pub returns-in-Ok-Other-clause-few : goal.returns-in-Ok-Other-clause-few
returns-in-Ok-Other-clause-few g c told gaz stands left comes are =
    let looked = c.in-Ok-Other.ensures.few in
    omega (arith, looked)

pub returns-in-Err-clause-few : goal.returns-in-Err-clause-few
returns-in-Err-clause-few g c told gaz stands left comes are =
    let looked = c.in-Err.ensures.few in
    omega (arith, looked)
