use Rattle.std.proofs.Common.{◌≤◌, ◌<◌, length, vec_len, get_or, take, subst, arith}
use Rattle.std.proofs.lemmas.List.{take_all}
use Rattle.std.proofs.lemmas.List.Elements.{All-more, All-weaker}
use Rattle.gaz_outside.proofs.mem_shelf.longest.Goals as goal

pub loop-other-preserved : goal.loop-other-preserved
loop-other-preserved c =
    let later = c.args.later.now in
    let i = c.loop-other.other-index in
    let before = c.loop-other.invariant.first in
    let most = c.max-most.ensures in
    let here : vec_len c.other-item.result ≤ c.max-most.result = let size = c.len.ensures in omega (arith, size, most) in
    record {
      first = omega (arith, before, most);
      each =
          All-more (λ other. vec_len other ≤ c.max-most.result) later i c.other-item.result c.loop-other-test.true
          (All-weaker (λ other. vec_len other ≤ c.loop-other.most) (λ other. vec_len other ≤ c.max-most.result) (λ other short. omega (arith, short, most)) (take i later) c.loop-other.invariant.each)
          (subst (λ other. vec_len other ≤ c.max-most.result) c.other-item.is here);
    }

pub returns-clause-each : goal.returns-clause-each
returns-clause-each c =
    subst (λ others. (k : _) → (d : _) → k < length others → vec_len (get_or others k d) ≤ c.loop-other.most) (take_all c.loop-other.other-index c.args.later.now c.loop-other-test.false) c.loop-other.invariant.each
