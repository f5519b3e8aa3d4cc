use Rattle.std.proofs.Common.{◌≡◌, true, [], ◌∷◌, sym, ap, subst, ◌∙◌}
use Rattle.gaz_num.specs.declared.words.Table.TheVariants.{Rows as RowTable}
use Rattle.gaz_plain.specs.Gazetteer.{line_at}
use Rattle.gaz_plain.specs.Ordered.{has_id}
use Rattle.gaz_plain.proofs.Numbered.{found_by_number}
use Rattle.gaz_plain.proofs.rows.Rows.with_number.Goals as goal

pub returns-clause-all : goal.returns-clause-all
returns-clause-all c id row at there =
    subst (λ pairs. has_id pairs id ≡ true) (sym c.of_key.ensures.pairs)
    (found_by_number c.self.inside.order c.args.number id (c.self.invariant.numbered id row (ap (line_at RowTable (id ∷ [])) c.self.view_is ∙ at) c.args.number there))
