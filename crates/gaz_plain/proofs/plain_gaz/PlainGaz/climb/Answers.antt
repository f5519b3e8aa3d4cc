use Rattle.std.proofs.Common.{arith, ◌≡◌, ◌-◌, ◌+◌, suc, sym, subst, Some, [], take, ℕ}
use Rattle.std.proofs.lemmas.List.{take_more_set}
use Rattle.gaz_parent.specs.Chain.{upwards}
use Rattle.gaz_plain.specs.Kin.{lists_of}
use Rattle.gaz_plain.proofs.Climbed.{IsOnWay, met, climbed}
use Rattle.gaz_plain.proofs.plain_gaz.PlainGaz.climb.Goals as goal

-- the next came before
pub returns-then-contains-clause-chain : goal.returns-then-contains-clause-chain
returns-then-contains-clause-chain c =
    let lists = lists_of c.args.self.now in
    met lists (upwards 64 lists [] c.args.first) (take c.loop-count.count c.loop-count.out) (64 - c.loop-count.count) c.in-Some.place (sym c.if-contains.ensures.value)
    (subst (IsOnWay lists (upwards 64 lists [] c.args.first) (take c.loop-count.count c.loop-count.out) (64 - c.loop-count.count)) c.in-Some.is c.loop-count.invariant.way)

-- it was written
pub loop-count-preserved : goal.loop-count-preserved
loop-count-preserved c =
    let lists = lists_of c.args.self.now in
    let all = upwards 64 lists [] c.args.first in
    let written = take c.loop-count.count c.loop-count.out in
    let place = c.in-Some.place in
    let left : 64 - c.loop-count.count ≡ suc (64 - (c.loop-count.count + 1)) = omega (arith, c.loop-count-test.true) in
    let way : IsOnWay lists all written (suc (64 - (c.loop-count.count + 1))) (Some place) = subst (λ (most : ℕ). IsOnWay lists all written most (Some place)) left (subst (IsOnWay lists all written (64 - c.loop-count.count)) c.in-Some.is c.loop-count.invariant.way) in
    let more = take_more_set c.loop-count.out c.loop-count.count place (omega (arith, c.loop-count-test.true)) in
    record {
      count = omega (arith, c.loop-count-test.true);
      way = rw (more, c.parent_at-next.ensures) (climbed lists all written (64 - (c.loop-count.count + 1)) place (sym c.if-contains.ensures.value) way);
    }
