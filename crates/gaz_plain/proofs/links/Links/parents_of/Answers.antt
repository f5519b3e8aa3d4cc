use Rattle.std.proofs.Common.{◌≡◌, true, [], ◌∷◌, filter, sym, ap, subst, ◌∙◌}
use Rattle.std.specs.Prelude.{◌==◌}
use Rattle.gaz_num.specs.declared.words.Table.TheVariants.{Links as LinkTable}
use Rattle.gaz_tables.specs.Keys.{class_number}
use Rattle.gaz_plain.specs.Gazetteer.{line_at}
use Rattle.gaz_plain.specs.Ordered.{has_id, up_number}
use Rattle.gaz_plain.proofs.Numbered.{found_by_number}
use Rattle.gaz_plain.proofs.links.Links.parents_of.Goals as goal

pub returns-clause-all : goal.returns-clause-all
returns-clause-all c parent link at =
    let number = up_number c.args.child (class_number c.args.class) in
    let had = c.self.invariant c.args.child (class_number c.args.class) parent link (ap (line_at LinkTable (c.args.child ∷ class_number c.args.class ∷ parent ∷ [])) c.self.view_is ∙ at) in
    subst (λ pairs. has_id pairs parent ≡ true) (ap (λ number. filter (λ pair. number == pair.0) c.self.inside.order) (sym c.up_number.ensures) ∙ sym c.of_key.ensures.pairs) (found_by_number c.self.inside.order number parent had.0)
