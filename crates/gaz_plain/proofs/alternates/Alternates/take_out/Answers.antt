use Rattle.std.proofs.Common.{◌≡◌, [], ◌∷◌, Some, None, sym}
use Rattle.std.specs.Prelude.{option_map}
use Rattle.gaz_num.specs.declared.words.Table.TheVariants.{Alternates as AltTable}
use Rattle.gaz_plain.specs.Gazetteer.{line_at}
use Rattle.gaz_plain.specs.Placed.{place_in}
use Rattle.gaz_plain.proofs.PlacedLemmas.{out_placed, none_placed}
use Rattle.gaz_plain.proofs.alternates.Alternates.take_out.Goals as goal

pub invariant_of-self : goal.invariant_of-self
invariant_of-self c =
    let was : option_map place_in (line_at AltTable (c.args.id ∷ []) c.self.inside.list) ≡ Some c.in-Some.place = rw c.self.view_is (sym c.in-Some.ensures) in
    out_placed c.self.inside.list c.self.inside.order c.self.invariant c.args.id c.take_out.new.self c.take_out.ensures.lines c.in-Some.place c.remove.new.self was c.remove.ensures

pub invariant_of-self-in-None : goal.invariant_of-self-in-None
invariant_of-self-in-None c =
    let was : option_map place_in (line_at AltTable (c.args.id ∷ []) c.self.inside.list) ≡ None = rw c.self.view_is (sym c.in-None.ensures) in
    none_placed c.self.inside.list c.self.inside.order c.self.invariant c.args.id c.take_out.new.self c.take_out.ensures.lines was
