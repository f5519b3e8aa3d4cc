use Rattle.std.proofs.Common.{arith, ◌≡◌, ◌-◌, ◌+◌, ◌++◌, suc, sym, ap, subst, Some, Ok, Err, [], ◌∷◌, length, take, ℕ, ◌∙◌, length-append}
use Rattle.std.specs.Prelude.{reverse}
use Rattle.std.proofs.lemmas.List.{length-take, length-set, take_more_set}
use Rattle.gaz_parent.specs.Chain.{parent_at, upwards}
use Rattle.gaz_plain.specs.Kin.{lists_of}
use Rattle.gaz_plain.proofs.Climbed.{IsOnWay, met, climbed, ended, is_full}
use Rattle.gaz_kin.specs.Leading.{only_on, only_ok, only_err, told_on, store_on}
use Rattle.gaz_kin.specs.Reads.{most_sought}
use Rattle.gaz_kin.proofs.Sought.{gone_through}
use Rattle.gaz_kin.proofs.chains.climb.Goals as goal

-- none is above
pub returns-in_default-clause-chain : goal.returns-in_default-clause-chain
returns-in_default-clause-chain g c told gaz stands =
    let lists = lists_of gaz in
    let all = upwards 64 lists [] c.args.first in
    let written = take c.loop-count.count c.loop-count.out in
    ended lists all written (64 - c.loop-count.count) (subst (IsOnWay lists all written (64 - c.loop-count.count)) c.in_default.is (c.loop-count.invariant.way told gaz stands))

-- the next came before
pub returns-then-contains-clause-chain : goal.returns-then-contains-clause-chain
returns-then-contains-clause-chain g c told gaz stands =
    let lists = lists_of gaz in
    let all = upwards 64 lists [] c.args.first in
    let written = take c.loop-count.count c.loop-count.out in
    met lists all written (64 - c.loop-count.count) c.in-Some.place (sym c.if-contains.ensures.value)
    (subst (IsOnWay lists all written (64 - c.loop-count.count)) c.in-Some.is (c.loop-count.invariant.way told gaz stands))

-- it was written
pub loop-count-preserved : goal.loop-count-preserved
loop-count-preserved g c =
    let v = g.P.Pages.view in
    let i = c.loop-count.invariant in
    let now = c.in-Ok.ensures in
    record {
      count = omega (arith, c.loop-count-test.true);
      long = length-set c.loop-count.out c.loop-count.count c.in-Some.place ∙ i.long;
      way = λ told gaz stands.
          let lists = lists_of gaz in
          let all = upwards 64 lists [] c.args.first in
          let written = take c.loop-count.count c.loop-count.out in
          let place = c.in-Some.place in
          let left : 64 - c.loop-count.count ≡ suc (64 - (c.loop-count.count + 1)) = omega (arith, c.loop-count-test.true) in
          let way : IsOnWay lists all written (suc (64 - (c.loop-count.count + 1))) (Some place) = subst (λ (most : ℕ). IsOnWay lists all written most (Some place)) left (subst (IsOnWay lists all written (64 - c.loop-count.count)) c.in-Some.is (i.way told gaz stands)) in
          let more = take_more_set c.loop-count.out c.loop-count.count place (omega (arith, c.loop-count-test.true)) in
          let above = now.found (told_on (v c.args.store.now.pages) (v c.loop-count.store.pages) _ i.asked told) gaz (store_on gaz (v c.args.store.now.pages) (v c.loop-count.store.pages) c.args.store.now.root c.loop-count.store.root tt i.asked i.root told stands) in
          rw (more, above) (climbed lists all written (64 - (c.loop-count.count + 1)) place (sym c.if-contains.ensures.value) way);
      few = λ told gaz stands.
          let before = i.few told gaz stands in
          let more = now.few (told_on (v c.args.store.now.pages) (v c.loop-count.store.pages) _ i.asked told) gaz (store_on gaz (v c.args.store.now.pages) (v c.loop-count.store.pages) c.args.store.now.root c.loop-count.store.root tt i.asked i.root told stands) in
          omega (arith, before, more);
      asked = only_on (v c.args.store.now.pages) (v c.loop-count.store.pages) (v c.parent_at.new.store.pages) tt (Ok tt) i.asked (only_ok (v c.loop-count.store.pages) (v c.parent_at.new.store.pages) c.in-Ok.above tt now.asked);
      line_size = now.line_size ∙ i.line_size;
      size = now.size ∙ i.size;
      root = now.root ∙ i.root;
      keeps = g.met.P.Pages.keeps_on c.args.store.now.pages c.loop-count.store.pages c.parent_at.new.store.pages i.keeps now.keeps;
    }

pub returns-in-Err-clause-damaged : goal.returns-in-Err-clause-damaged
returns-in-Err-clause-damaged g c told gaz stands =
    let v = g.P.Pages.view in
    let i = c.loop-count.invariant in
    c.in-Err.ensures.damaged (told_on (v c.args.store.now.pages) (v c.loop-count.store.pages) _ i.asked told) gaz (store_on gaz (v c.args.store.now.pages) (v c.loop-count.store.pages) c.args.store.now.root c.loop-count.store.root tt i.asked i.root told stands)

pub returns-in-Err-clause-asked : goal.returns-in-Err-clause-asked
returns-in-Err-clause-asked g c =
    let v = g.P.Pages.view in
    only_on (v c.args.store.now.pages) (v c.loop-count.store.pages) (v c.parent_at.new.store.pages) tt (Err c.in-Err.fault) c.loop-count.invariant.asked
    (only_err (v c.loop-count.store.pages) (v c.parent_at.new.store.pages) c.in-Err.fault c.in-Err.ensures.asked)

-- there is no room for more
pub returns-clause-chain : goal.returns-clause-chain
returns-clause-chain g c told gaz stands =
    let lists = lists_of gaz in
    let all = upwards 64 lists [] c.args.first in
    let written = take c.loop-count.count c.loop-count.out in
    let none : 64 - c.loop-count.count ≡ 0 = omega (arith, c.loop-count-test.false) in
    is_full lists all written c.loop-count.next (subst (λ (most : ℕ). IsOnWay lists all written most c.loop-count.next) none (c.loop-count.invariant.way told gaz stands))

-- ---- how much was read

pub returns-in_default-clause-few : goal.returns-in_default-clause-few
returns-in_default-clause-few g c told gaz stands =
    let v = g.P.Pages.view in
    let all = upwards 64 (lists_of gaz) [] c.args.first in
    let written = take c.loop-count.count c.loop-count.out in
    let most = most_sought gaz + 4 in
    let whole = returns-in_default-clause-chain g c told gaz stands in
    let long = ap length whole in
    gone_through c.loop-count.count (length all) most (v c.args.store.now.pages).reads (v c.loop-count.store.pages).reads (omega (arith, long, length-take c.loop-count.count c.loop-count.out, c.loop-count.invariant.count, c.loop-count.invariant.long)) (c.loop-count.invariant.few told gaz stands)

pub returns-then-contains-clause-few : goal.returns-then-contains-clause-few
returns-then-contains-clause-few g c told gaz stands =
    let v = g.P.Pages.view in
    let all = upwards 64 (lists_of gaz) [] c.args.first in
    let written = take c.loop-count.count c.loop-count.out in
    let most = most_sought gaz + 4 in
    let whole = returns-then-contains-clause-chain g c told gaz stands in
    let long = ap length whole in
    gone_through c.loop-count.count (length all) most (v c.args.store.now.pages).reads (v c.loop-count.store.pages).reads (omega (arith, long, length-take c.loop-count.count c.loop-count.out, c.loop-count.invariant.count, c.loop-count.invariant.long)) (c.loop-count.invariant.few told gaz stands)

pub returns-clause-few : goal.returns-clause-few
returns-clause-few g c told gaz stands =
    let v = g.P.Pages.view in
    let all = upwards 64 (lists_of gaz) [] c.args.first in
    let written = take c.loop-count.count c.loop-count.out in
    let most = most_sought gaz + 4 in
    let whole = returns-clause-chain g c told gaz stands in
    let long = ap length whole in
    gone_through c.loop-count.count (length all) most (v c.args.store.now.pages).reads (v c.loop-count.store.pages).reads (omega (arith, long, length-take c.loop-count.count c.loop-count.out, c.loop-count.invariant.count, c.loop-count.invariant.long)) (c.loop-count.invariant.few told gaz stands)

pub returns-in-Err-clause-few : goal.returns-in-Err-clause-few
returns-in-Err-clause-few g c told gaz stands =
    let v = g.P.Pages.view in
    let i = c.loop-count.invariant in
    let lists = lists_of gaz in
    let all = upwards 64 lists [] c.args.first in
    let written = take c.loop-count.count c.loop-count.out in
    let place = c.in-Some.place in
    let left : 64 - c.loop-count.count ≡ suc (64 - (c.loop-count.count + 1)) = omega (arith, c.loop-count-test.true) in
    let way : IsOnWay lists all written (suc (64 - (c.loop-count.count + 1))) (Some place) = subst (λ (most : ℕ). IsOnWay lists all written most (Some place)) left (subst (IsOnWay lists all written (64 - c.loop-count.count)) c.in-Some.is (i.way told gaz stands)) in
    let further = upwards (64 - (c.loop-count.count + 1)) lists (reverse (written ++ place ∷ [])) (parent_at lists place) in
    let long = ap length (climbed lists all written (64 - (c.loop-count.count + 1)) place (sym c.if-contains.ensures.value) way) in
    let before = i.few told gaz stands in
    let more = c.in-Err.ensures.few (told_on (v c.args.store.now.pages) (v c.loop-count.store.pages) _ i.asked told) gaz (store_on gaz (v c.args.store.now.pages) (v c.loop-count.store.pages) c.args.store.now.root c.loop-count.store.root tt i.asked i.root told stands) in
    gone_through (c.loop-count.count + 1) (length all) (most_sought gaz + 4) (v c.args.store.now.pages).reads (v c.parent_at.new.store.pages).reads
    (omega (arith, long, length-append (written ++ place ∷ []) further, length-append written (place ∷ []), length-take c.loop-count.count c.loop-count.out, c.loop-count-test.true))
    (omega (arith, before, more))
