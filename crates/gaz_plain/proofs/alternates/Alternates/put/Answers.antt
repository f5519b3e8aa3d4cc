use Rattle.std.proofs.Common.{◌≡◌, false, [], ◌∷◌, Some, None, sym, ap, ◌∙◌, arith}
use Rattle.std.specs.Prelude.{option_map, unwrap_or, ◌==◌}
use Rattle.std.proofs.lemmas.Bool.Decides.{nat_tests}
use Rattle.gaz_num.specs.declared.words.Table.TheVariants.{Alternates as AltTable}
use Rattle.gaz_plain.specs.Gazetteer.{line_at}
use Rattle.gaz_plain.specs.Placed.{place_in}
use Rattle.gaz_plain.proofs.PlacedLemmas.{moved_placed, kept_placed, new_placed}
use Rattle.gaz_plain.proofs.alternates.Alternates.put.Goals as goal

-- the id was at another place
pub invariant_of-self-then-old-place : goal.invariant_of-self-then-old-place
invariant_of-self-then-old-place c =
    let at : place_in c.args.line.now ≡ c.place-place.result = ap (λ line. place_in line) (sym c.of.ensures) ∙ ap (λ id. unwrap_or id 0) c.place-place.ensures in
    let was : option_map place_in (line_at AltTable (c.args.id ∷ []) c.self.inside.list) ≡ Some c.in-Some.old = rw c.self.view_is (sym c.in-Some.ensures) in
    let apart : (c.in-Some.old == c.place-place.result) ≡ false = grind (arith, nat_tests, c.if-old-place.true) in
    moved_placed c.self.inside.list c.self.inside.order c.self.invariant c.args.id c.args.line.now c.place-place.result c.requires.line c.requires.key at c.put.new.self c.in_default.ensures.ok c.insert.new.self c.in_ok-added.ensures.ok
    c.in-Some.old c.remove-then-old-place.new.self apart was c.remove-then-old-place.ensures

-- it was at this one
pub invariant_of-self-else-old-place : goal.invariant_of-self-else-old-place
invariant_of-self-else-old-place c =
    let at : place_in c.args.line.now ≡ c.place-place.result = ap (λ line. place_in line) (sym c.of.ensures) ∙ ap (λ id. unwrap_or id 0) c.place-place.ensures in
    let was : option_map place_in (line_at AltTable (c.args.id ∷ []) c.self.inside.list) ≡ Some c.in-Some.old = rw c.self.view_is (sym c.in-Some.ensures) in
    let same : c.in-Some.old ≡ c.place-place.result = grind (arith, nat_tests, c.if-old-place.false) in
    kept_placed c.self.inside.list c.self.inside.order c.self.invariant c.args.id c.args.line.now c.place-place.result c.requires.line c.requires.key at c.put.new.self c.in_default.ensures.ok c.insert.new.self c.in_ok-added.ensures.ok
    c.in-Some.old same was

-- it was at none
pub invariant_of-self-in-None : goal.invariant_of-self-in-None
invariant_of-self-in-None c =
    let at : place_in c.args.line.now ≡ c.place-place.result = ap (λ line. place_in line) (sym c.of.ensures) ∙ ap (λ id. unwrap_or id 0) c.place-place.ensures in
    let was : option_map place_in (line_at AltTable (c.args.id ∷ []) c.self.inside.list) ≡ None = rw c.self.view_is (sym c.in-None.ensures) in
    new_placed c.self.inside.list c.self.inside.order c.self.invariant c.args.id c.args.line.now c.place-place.result c.requires.line c.requires.key at c.put.new.self c.in_default.ensures.ok c.insert.new.self c.in_ok-added.ensures.ok was
