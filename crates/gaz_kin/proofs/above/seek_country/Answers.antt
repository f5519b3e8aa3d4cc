use Rattle.std.proofs.Common.{Ok, Err, sym}
use Rattle.gaz_plain.specs.Kin.{lists_of}
use Rattle.gaz_rows.specs.Store.{IsSound}
use Rattle.gaz_kin.specs.Leading.{only_on, only_ok, over_on, told_on, store_on}
use Rattle.gaz_kin.proofs.Remembered.{some_of, none_of, named_found, least_found}
use Rattle.gaz_kin.proofs.above.seek_country.Goals as goal

pub returns-then-is_some-clause-found : goal.returns-then-is_some-clause-found
returns-then-is_some-clause-found g c told gaz stands =
    let place = some_of c.in-Ok.named.above (sym c.if-is_some.ensures) in
    named_found (lists_of gaz) c.args.row.now c.in-Ok.named place.0 place.1 (c.in-Ok.ensures.found told gaz stands)

pub returns-in-Ok-least_above-clause-found : goal.returns-in-Ok-least_above-clause-found
returns-in-Ok-least_above-clause-found g c told gaz stands =
    let v0 = g.P.Pages.view c.args.store.now.pages in
    let v1 = g.P.Pages.view c.named_country.new.store.pages in
    let told1 = told_on v0 v1 _ c.in-Ok.ensures.asked told in
    let stands1 = store_on gaz v0 v1 c.args.store.now.root c.named_country.new.store.root c.in-Ok.named c.in-Ok.ensures.asked c.in-Ok.ensures.root told stands in
    least_found (lists_of gaz) c.args.row.now c.in-Ok.named c.in-Ok-least_above.least c.both_found.result (none_of c.in-Ok.named.above (sym c.if-is_some.ensures))
    c.both_found.ensures.above c.both_found.ensures.common (c.in-Ok.ensures.found told gaz stands) (c.in-Ok-least_above.ensures.found told1 gaz stands1)

pub returns-in-Ok-least_above-clause-asked : goal.returns-in-Ok-least_above-clause-asked
returns-in-Ok-least_above-clause-asked g c =
    let v = g.P.Pages.view in
    only_on (v c.args.store.now.pages) (v c.named_country.new.store.pages) (v c.least_above.new.store.pages) c.in-Ok.named (Ok c.both_found.result) c.in-Ok.ensures.asked
    (only_ok (v c.named_country.new.store.pages) (v c.least_above.new.store.pages) c.in-Ok-least_above.least c.both_found.result c.in-Ok-least_above.ensures.asked)

pub returns-in-Err-least_above-clause-damaged : goal.returns-in-Err-least_above-clause-damaged
returns-in-Err-least_above-clause-damaged g c =
    let v = g.P.Pages.view in
    over_on (λ gaz. IsSound c.in-Err-least_above.fault) (v c.args.store.now.pages) (v c.named_country.new.store.pages) c.args.store.now.root c.named_country.new.store.root c.in-Ok.named c.in-Ok.ensures.asked c.in-Ok.ensures.root c.in-Err-least_above.ensures.damaged

pub returns-in-Err-least_above-clause-asked : goal.returns-in-Err-least_above-clause-asked
returns-in-Err-least_above-clause-asked g c =
    let v = g.P.Pages.view in
    only_on (v c.args.store.now.pages) (v c.named_country.new.store.pages) (v c.least_above.new.store.pages) c.in-Ok.named (Err c.in-Err-least_above.fault) c.in-Ok.ensures.asked c.in-Err-least_above.ensures.asked
