use Rattle.std.proofs.Common.{◌≡◌, ◌∙◌, ◌++◌, ◌∷◌, [], Some, length, ap, subst, sym, arith, rules}
use Rattle.std.proofs.lemmas.List.{map-append}
use Rattle.gaz_places.specs.Places.{found_in}
use Rattle.gaz_pool.specs.Frames.{number_of, pages_in}
use Rattle.gaz_pool.specs.Table.{AreFound}
use Rattle.gaz_pool.proofs.Found.{found_none, end_unused, found_pushed}
use Rattle.gaz_pool.proofs.Lists.{pages_long}
use Rattle.gaz_pool.proofs.table.Table.push.Goals as goal

pub overflow_cast-place : goal.overflow_cast-place
overflow_cast-place c = let self = c.args.self.now in omega (arith, self.within, self.few, c.len-place.ensures)

-- the page has no place yet, and the place no page
pub put-requires-clause-new : goal.put-requires-clause-new
put-requires-clause-new c =
    let self = c.args.self.now in
    ap (found_in self.places) c.number.ensures ∙ found_none (found_in self.places) (pages_in self.frames.items) (number_of c.args.frame) self.found c.requires.new

pub put-requires-clause-unused : goal.put-requires-clause-unused
put-requires-clause-unused c other =
    let self = c.args.self.now in
    end_unused (found_in self.places) (pages_in self.frames.items) c.len-place.result other self.found (omega (arith, c.len-place.ensures, pages_long self.frames.items))

-- and now it has it
pub invariant_of-self-clause-found : goal.invariant_of-self-clause-found
invariant_of-self-clause-found c =
    let self = c.args.self.now in
    let items : c.push.new.self.items ≡ self.frames.items ++ c.args.frame ∷ [] = search rules in
    let number = c.number.ensures in
    let place : c.len-place.result ≡ length (pages_in self.frames.items) = omega (arith, c.len-place.ensures, pages_long self.frames.items) in
    subst (AreFound (found_in c.put.new.self)) (sym (ap pages_in items ∙ map-append number_of self.frames.items (c.args.frame ∷ [])))
    (found_pushed (found_in self.places) (found_in c.put.new.self) (pages_in self.frames.items) (number_of c.args.frame) self.found c.requires.new
    (ap (found_in c.put.new.self) (sym number) ∙ c.put.ensures.here ∙ ap Some place)
    (λ other differs. c.put.ensures.others other (λ same. differs (same ∙ number))))
