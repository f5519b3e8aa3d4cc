use Rattle.std.proofs.Common.{◌≤◌, ◌+◌, ◌*◌, [], length, sym, ap, subst, refl, arith, ◌∙◌}
use Rattle.gaz_parent.specs.Chain.{upwards}
use Rattle.gaz_plain.specs.Kin.{lists_of}
use Rattle.gaz_plain.proofs.Named.{begins, not_live}
use Rattle.gaz_rows.specs.Store.{IsSound}
use Rattle.gaz_kin.specs.Leading.{one_asked, only_on, over_on, told_on, store_on}
use Rattle.gaz_kin.specs.Reads.{most_sought}
use Rattle.gaz_kin.proofs.Answered.{if_ok, if_err, both_ok}
use Rattle.gaz_kin.proofs.chains.chain_in.Goals as goal

pub returns-in-Ok-clause-chain : goal.returns-in-Ok-clause-chain
returns-in-Ok-clause-chain g c =
    let v = g.P.Pages.view in
    let asked = one_asked _ (v c.args.store.now.pages) (v c.if_live.new.store.pages) _ c.in-Ok.ensures.asked in
    if_ok _ _ c.climb.result (λ count over told gaz stands.
    over (told_on (v c.args.store.now.pages) (v c.if_live.new.store.pages) _ asked told) gaz (store_on gaz (v c.args.store.now.pages) (v c.if_live.new.store.pages) c.args.store.now.root c.if_live.new.store.root c.in-Ok.first asked c.in-Ok.ensures.root told stands)
    ∙ ap (upwards 64 (lists_of gaz) []) (c.in-Ok.ensures.found told gaz stands)
    ∙ sym (begins gaz stands.is_gazetteer c.args.id _ refl))
    c.climb.ensures.chain

pub returns-in-Ok-clause-damaged : goal.returns-in-Ok-clause-damaged
returns-in-Ok-clause-damaged g c =
    let v = g.P.Pages.view in
    if_err _ _ c.climb.result (λ fault over. over_on (λ gaz. IsSound fault) (v c.args.store.now.pages) (v c.if_live.new.store.pages) c.args.store.now.root c.if_live.new.store.root c.in-Ok.first (one_asked _ (v c.args.store.now.pages) (v c.if_live.new.store.pages) _ c.in-Ok.ensures.asked) c.in-Ok.ensures.root over)
    c.climb.ensures.damaged

pub returns-in-Ok-clause-asked : goal.returns-in-Ok-clause-asked
returns-in-Ok-clause-asked g c =
    let v = g.P.Pages.view in
    only_on (v c.args.store.now.pages) (v c.if_live.new.store.pages) (v c.climb.new.store.pages) c.in-Ok.first c.climb.result (one_asked _ (v c.args.store.now.pages) (v c.if_live.new.store.pages) _ c.in-Ok.ensures.asked) c.climb.ensures.asked

pub returns-in-Ok-clause-none : goal.returns-in-Ok-clause-none
returns-in-Ok-clause-none g c =
    let v = g.P.Pages.view in
    let asked = one_asked _ (v c.args.store.now.pages) (v c.if_live.new.store.pages) _ c.in-Ok.ensures.asked in
    let long = c.climb.array_long in
    if_ok _ _ c.climb.result (λ count has told gaz stands none.
    let within = has.0 in
    not_live gaz stands.is_gazetteer c.args.id count c.climb.new.out (omega (arith, within, long))
    (has.1 (told_on (v c.args.store.now.pages) (v c.if_live.new.store.pages) _ asked told) gaz (store_on gaz (v c.args.store.now.pages) (v c.if_live.new.store.pages) c.args.store.now.root c.if_live.new.store.root c.in-Ok.first asked c.in-Ok.ensures.root told stands)
    ∙ ap (upwards 64 (lists_of gaz) []) (c.in-Ok.ensures.found told gaz stands)
    ∙ sym (begins gaz stands.is_gazetteer c.args.id _ refl)) none)
    (both_ok _ _ c.climb.result c.climb.ensures.within c.climb.ensures.chain)

pub returns-in-Ok-clause-few : goal.returns-in-Ok-clause-few
returns-in-Ok-clause-few g c told gaz stands =
    let v = g.P.Pages.view in
    let asked = one_asked _ (v c.args.store.now.pages) (v c.if_live.new.store.pages) _ c.in-Ok.ensures.asked in
    let first = c.in-Ok.ensures.asked.counts.reads in
    let shallow = stands.tree.shallow in
    let more = c.climb.ensures.few (told_on (v c.args.store.now.pages) (v c.if_live.new.store.pages) _ asked told) gaz (store_on gaz (v c.args.store.now.pages) (v c.if_live.new.store.pages) c.args.store.now.root c.if_live.new.store.root c.in-Ok.first asked c.in-Ok.ensures.root told stands) in
    let whole = subst (λ ids. (v c.climb.new.store.pages).reads ≤ (v c.if_live.new.store.pages).reads + 64 * (length ids * (most_sought gaz + 4))) (ap (upwards 64 (lists_of gaz) []) (c.in-Ok.ensures.found told gaz stands) ∙ sym (begins gaz stands.is_gazetteer c.args.id _ refl)) more in
    omega (arith, first, shallow, whole)

pub returns-in-Err-clause-few : goal.returns-in-Err-clause-few
returns-in-Err-clause-few g c told gaz stands =
    let first = c.in-Err.ensures.asked.counts.reads in
    let shallow = stands.tree.shallow in
    omega (arith, first, shallow)
