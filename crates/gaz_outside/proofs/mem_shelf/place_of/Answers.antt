use Rattle.std.proofs.Common.{◌≡◌, ◌-◌, Some, arith, ap, sym, ◌∙◌}
use Rattle.gaz_outside.specs.Listed.{listed}
use Rattle.gaz_outside.proofs.Places.{name_at-listed, same_name, other_name, none_from}
use Rattle.gaz_outside.proofs.mem_shelf.place_of.Goals as goal

pub returns-then-eq-clause-last : goal.returns-then-eq-clause-last
returns-then-eq-clause-last c = record {
  named = name_at-listed c.args.files.now (c.loop-place.place - 1) c.index-files-place.result (omega arith) ∙ ap Some (sym c.as_str.ensures.value ∙ same_name c.as_str.result.now c.args.name.now c.eq.result c.eq.ensures c.if-eq.true);
  last = λ later after. c.loop-place.invariant later (omega arith);
}

pub loop-place-preserved : goal.loop-place-preserved
loop-place-preserved c =
    let named = name_at-listed c.args.files.now (c.loop-place.place - 1) c.index-files-place.result (omega arith) in
    let differs = other_name c.as_str.result.now c.args.name.now c.eq.result c.eq.ensures c.if-eq.false in
    none_from (listed c.args.files.now) c.args.name.now (c.loop-place.place - 1) (λ later after. c.loop-place.invariant later (omega arith)) (λ is. let same : c.as_str.result.now ≡ c.args.name.now = cc (named, c.as_str.ensures.value, is) in differs same)
