use Rattle.std.proofs.Common.{◌∙◌, sym, arith}
use Rattle.gaz_places.specs.Places.{found_in, most_in}
use Rattle.gaz_places.proofs.Stands.{empty}
use Rattle.gaz_places.proofs.places.Places.new.Goals as goal

-- all links are free
pub invariant_of-result : goal.invariant_of-result
invariant_of-result c =
    let made = empty c.args.most c.in_ok-vec.field-0.items c.in_ok-vec-2.field-0.items (c.in_ok-vec.ensures.items_if_clones_equal (λ y is. is)) (c.in_ok-vec-2.ensures.items_if_clones_equal (λ y is. is)) in
    record {
      sizes = made.buckets ∙ sym made.places;
      some = let some = c.requires.some in omega (arith, made.places, some);
      few = let few = c.requires.few in omega (arith, made.places, few);
      linked = made.linked;
    }

pub returns-clause-none : goal.returns-clause-none
unfolding found_in
returns-clause-none c = (empty c.args.most c.in_ok-vec.field-0.items c.in_ok-vec-2.field-0.items (c.in_ok-vec.ensures.items_if_clones_equal (λ y is. is)) (c.in_ok-vec-2.ensures.items_if_clones_equal (λ y is. is))).none

pub returns-clause-most : goal.returns-clause-most
unfolding most_in
returns-clause-most c = (empty c.args.most c.in_ok-vec.field-0.items c.in_ok-vec-2.field-0.items (c.in_ok-vec.ensures.items_if_clones_equal (λ y is. is)) (c.in_ok-vec-2.ensures.items_if_clones_equal (λ y is. is))).places
