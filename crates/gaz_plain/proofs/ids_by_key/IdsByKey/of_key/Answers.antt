use Rattle.std.proofs.Common.{filter, ap, ap₂, sym, subst, ◌∙◌}
use Rattle.std.specs.Prelude.{◌==◌}
use Rattle.std.specs.BTreeMap.Range.{range_contains}
use Rattle.std.specs.declared.ops.Bound.TheVariants.{Included}
use Rattle.gaz_plain.specs.Ordered.{IdsRise}
use Rattle.gaz_plain.proofs.PlacedLemmas.{pair_cmp, range_told}
use Rattle.gaz_plain.proofs.OrderedLemmas.{ids_rise}
use Rattle.gaz_plain.proofs.ids_by_key.IdsByKey.of_key.Goals as goal

-- the pairs between the least and the greatest of the number
pub returns-clause-pairs : goal.returns-clause-pairs
returns-clause-pairs c =
    c.range.ensures.between c.new.ensures.exhausted
    ∙ ap₂ (λ low high. filter (range_contains pair_cmp (Included low) (Included high)) c.self.inside.pairs.keys) c.new.ensures.start c.new.ensures.end
    ∙ range_told c.args.key c.self.inside.pairs.keys c.self.invariant
    ∙ ap (filter (λ pair. c.args.key == pair.0)) c.self.view_is

-- they stand in order
pub returns-clause-rising : goal.returns-clause-rising
returns-clause-rising c = subst IdsRise (ap (filter (λ pair. c.args.key == pair.0)) c.self.view_is ∙ sym (returns-clause-pairs c)) (ids_rise c.args.key c.self.inside.pairs.keys c.range.ensures.ordered)
