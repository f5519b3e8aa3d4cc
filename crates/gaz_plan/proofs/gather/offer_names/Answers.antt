use Rattle.std.proofs.Common.{◌<◌, arith}
use Rattle.std.proofs.lemmas.List.Elements.{All-from_get_or}
use Rattle.gaz_leaf.specs.Node.{key_of}
use Rattle.gaz_keys.specs.Keys.{IsKey}
use Rattle.gaz_scan.specs.Ranges.{between}
use Rattle.gaz_kin.proofs.Answered.{if_err}
use Rattle.gaz_kin.proofs.Offered.{on_ok}
use Rattle.gaz_plan.proofs.Sought.{are_between}
use Rattle.gaz_plan.proofs.gather.offer_names.Goals as goal

pub returns-clause-more : goal.returns-clause-more
returns-clause-more g c =
    let v = g.P.Pages.view c.args.store.now.pages in
    let root = c.args.store.now.root in
    let low = c.args.low.now in
    let high = c.args.high.now in
    let low_is : IsKey low = record { size = c.told-low; bytes = All-from_get_or (λ byte. byte < 256) low 0 (λ i below. let fit = c.fits-low i in omega (arith, fit)) } in
    let high_is : IsKey high = record { size = c.told-high; bytes = All-from_get_or (λ byte. byte < 256) high 0 (λ i below. let fit = c.fits-high i in omega (arith, fit)) } in
    on_ok _ _ c.offer_led.result (λ over told gaz stands.
    over told gaz stands (between (key_of low) (key_of high) stands.pairs) (c.scan-scan.ensures.comes v.page stands.pairs stands.tree)
    (are_between gaz v root stands 7 low high low_is high_is c.requires.low c.requires.high))
    c.offer_led.ensures.more

pub returns-clause-damaged : goal.returns-clause-damaged
returns-clause-damaged g c =
    let v = g.P.Pages.view c.args.store.now.pages in
    let root = c.args.store.now.root in
    let low = c.args.low.now in
    let high = c.args.high.now in
    let low_is : IsKey low = record { size = c.told-low; bytes = All-from_get_or (λ byte. byte < 256) low 0 (λ i below. let fit = c.fits-low i in omega (arith, fit)) } in
    let high_is : IsKey high = record { size = c.told-high; bytes = All-from_get_or (λ byte. byte < 256) high 0 (λ i below. let fit = c.fits-high i in omega (arith, fit)) } in
    if_err _ _ c.offer_led.result (λ fault over told gaz stands.
    over told gaz stands (between (key_of low) (key_of high) stands.pairs) (c.scan-scan.ensures.comes v.page stands.pairs stands.tree)
    (are_between gaz v root stands 7 low high low_is high_is c.requires.low c.requires.high))
    c.offer_led.ensures.damaged

pub returns-clause-reads : goal.returns-clause-reads
returns-clause-reads g c told gaz stands =
    let v = g.P.Pages.view c.args.store.now.pages in
    let root = c.args.store.now.root in
    let low = c.args.low.now in
    let high = c.args.high.now in
    let low_is : IsKey low = record { size = c.told-low; bytes = All-from_get_or (λ byte. byte < 256) low 0 (λ i below. let fit = c.fits-low i in omega (arith, fit)) } in
    let high_is : IsKey high = record { size = c.told-high; bytes = All-from_get_or (λ byte. byte < 256) high 0 (λ i below. let fit = c.fits-high i in omega (arith, fit)) } in
    c.offer_led.ensures.reads told gaz stands (between (key_of low) (key_of high) stands.pairs) (c.scan-scan.ensures.comes v.page stands.pairs stands.tree)
    (are_between gaz v root stands 7 low high low_is high_is c.requires.low c.requires.high)

pub returns-clause-once : goal.returns-clause-once
returns-clause-once g c told gaz stands =
    let v = g.P.Pages.view c.args.store.now.pages in
    let root = c.args.store.now.root in
    let low = c.args.low.now in
    let high = c.args.high.now in
    let low_is : IsKey low = record { size = c.told-low; bytes = All-from_get_or (λ byte. byte < 256) low 0 (λ i below. let fit = c.fits-low i in omega (arith, fit)) } in
    let high_is : IsKey high = record { size = c.told-high; bytes = All-from_get_or (λ byte. byte < 256) high 0 (λ i below. let fit = c.fits-high i in omega (arith, fit)) } in
    c.offer_led.ensures.once told gaz stands (between (key_of low) (key_of high) stands.pairs) (c.scan-scan.ensures.comes v.page stands.pairs stands.tree)
    (are_between gaz v root stands 7 low high low_is high_is c.requires.low c.requires.high)

pub returns-clause-low : goal.returns-clause-low
returns-clause-low g c = record { size = c.told-low; bytes = All-from_get_or (λ byte. byte < 256) c.args.low.now 0 (λ i below. let fit = c.fits-low i in omega (arith, fit)) }

pub returns-clause-high : goal.returns-clause-high
returns-clause-high g c = record { size = c.told-high; bytes = All-from_get_or (λ byte. byte < 256) c.args.high.now 0 (λ i below. let fit = c.fits-high i in omega (arith, fit)) }
