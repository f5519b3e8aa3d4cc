use Rattle.std.proofs.Common.{arith, refl}
use Rattle.gaz_row.proofs.WalkLemmas.{step, too_few, too_many, just, whole, at_end}
use Rattle.gaz_row.proofs.columns.Columns.of.Goals as goal

pub loop-place-init : goal.loop-place-init
loop-place-init c = record { size = refl; parts = refl }

pub loop-place-preserved : goal.loop-place-preserved
loop-place-preserved c = step c.loop-place.place c.loop-place.texts c.in-Some.text c.loop-place.rest.now c.in-Some.behind.now c.args.line.now c.loop-place.invariant c.loop-place-test.true c.in-Some.ensures

pub returns-in-None-clause-some : goal.returns-in-None-clause-some
returns-in-None-clause-some c =
    let few = too_few c.loop-place.place c.loop-place.texts c.loop-place.rest.now c.args.line.now c.loop-place.invariant c.loop-place-test.true c.in-None.ensures in
    (λ is. absurd (cc), λ nineteen. absurd (omega (arith, few, nineteen)))

pub returns-in-Some-split_column-clause-some : goal.returns-in-Some-split_column-clause-some
returns-in-Some-split_column-clause-some c =
    let walked = at_end c.loop-place.place c.loop-place.texts c.loop-place.rest.now c.args.line.now c.loop-place.invariant (omega arith) (omega arith) in
    let many = too_many c.loop-place.texts c.loop-place.rest.now c.in-Some-split_column.field-0.0.now c.in-Some-split_column.field-0.1.now c.args.line.now walked c.in-Some-split_column.ensures in
    (λ is. absurd (cc), λ nineteen. absurd (omega (arith, many, nineteen)))

pub returns-in-None-split_column-clause-some : goal.returns-in-None-split_column-clause-some
returns-in-None-split_column-clause-some c =
    let walked = at_end c.loop-place.place c.loop-place.texts c.loop-place.rest.now c.args.line.now c.loop-place.invariant (omega arith) (omega arith) in
    let all = just c.loop-place.texts c.loop-place.rest.now c.args.line.now walked c.in-None-split_column.ensures in
    (λ is. all, λ nineteen. refl)

pub invariant_of-result : goal.invariant_of-result
invariant_of-result c =
    let walked = at_end c.loop-place.place c.loop-place.texts c.loop-place.rest.now c.args.line.now c.loop-place.invariant (omega arith) (omega arith) in
    record { cut = whole c.loop-place.texts c.loop-place.rest c.args.line.now walked c.in-None-split_column.ensures }
