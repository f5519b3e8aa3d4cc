use Rattle.std.proofs.Common.{◌≡◌, true, [], ◌∷◌, filter, sym, ap, subst, ◌∙◌}
use Rattle.std.specs.Prelude.{◌==◌}
use Rattle.gaz_num.specs.declared.words.Table.TheVariants.{Links as LinkTable}
use Rattle.gaz_plain.specs.Gazetteer.{line_at}
use Rattle.gaz_plain.specs.Ordered.{has_id, down_number}
use Rattle.gaz_plain.proofs.Numbered.{found_by_number}
use Rattle.gaz_plain.proofs.links.Links.children_of.Goals as goal

pub returns : goal.returns
returns c child class link at =
    let number = down_number c.args.parent in
    let had = c.self.invariant child class c.args.parent link (ap (line_at LinkTable (child ∷ class ∷ c.args.parent ∷ [])) c.self.view_is ∙ at) in
    subst (λ pairs. has_id pairs child ≡ true) (ap (λ number. filter (λ pair. number == pair.0) c.self.inside.order) (sym c.down_number.ensures) ∙ sym c.of_key.ensures.pairs) (found_by_number c.self.inside.order number child had.1)
