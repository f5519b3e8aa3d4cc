use Rattle.std.proofs.Common.{ℕ, replicate, ◌∙◌, sym, ap, arith}
use Rattle.gaz_places.specs.Places.{found_in, most_in}
use Rattle.gaz_places.specs.Chains.{nowhere}
use Rattle.gaz_places.proofs.Stands.{empty}
use Rattle.gaz_places.proofs.places.Places.clear.Goals as goal

-- all links are free
pub invariant_of-self : goal.invariant_of-self
invariant_of-self c =
    let self = c.args.self.now in
    let made = empty self.links.len c.fill.new.self.items c.fill-2.new.self.items (c.fill.ensures.items (λ y is. is) ∙ ap (λ (n : ℕ). replicate n nowhere) (self.heads.ok.0 ∙ self.sizes ∙ sym self.links.ok.0)) (c.fill-2.ensures.items (λ y is. is)) in
    record {
      sizes = made.buckets ∙ sym made.places;
      some = let some = self.some in omega (arith, made.places, some, self.links.ok.0);
      few = let few = self.few in omega (arith, made.places, few, self.links.ok.0);
      linked = made.linked;
    }

pub returns-clause-none : goal.returns-clause-none
unfolding found_in
returns-clause-none c =
    let self = c.args.self.now in
    (empty self.links.len c.fill.new.self.items c.fill-2.new.self.items (c.fill.ensures.items (λ y is. is) ∙ ap (λ (n : ℕ). replicate n nowhere) (self.heads.ok.0 ∙ self.sizes ∙ sym self.links.ok.0)) (c.fill-2.ensures.items (λ y is. is))).none

pub returns-clause-most : goal.returns-clause-most
unfolding most_in
returns-clause-most c =
    let self = c.args.self.now in
    (empty self.links.len c.fill.new.self.items c.fill-2.new.self.items (c.fill.ensures.items (λ y is. is) ∙ ap (λ (n : ℕ). replicate n nowhere) (self.heads.ok.0 ∙ self.sizes ∙ sym self.links.ok.0)) (c.fill-2.ensures.items (λ y is. is))).places ∙ self.links.ok.0
