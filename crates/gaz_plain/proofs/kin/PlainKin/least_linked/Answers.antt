use Rattle.std.proofs.Common.{[], ◌∷◌, ap, sym, subst, ◌∙◌}
use Rattle.std.specs.List.{list_any}
use Rattle.gaz_num.specs.declared.words.Table.TheVariants.{Rows, Links}
use Rattle.gaz_row.specs.Row.{id_of}
use Rattle.gaz_tables.specs.Keys.{class_number}
use Rattle.gaz_parent.specs.Parent.{may_be, is_link}
use Rattle.gaz_plain.specs.Gazetteer.{IsGazetteer, line_with}
use Rattle.gaz_plain.proofs.Sought.{sought_on, sought_found, sought_none, linked_sought}
use Rattle.gaz_plain.proofs.kin.PlainKin.least_linked.Goals as goal

pub loop-id-init : goal.loop-id-init
loop-id-init c =
    let is = subst IsGazetteer c.self.view_is c.self.invariant in
    let all = c.into_iter-id-iterator.ensures.into_iter_gives in
    rw all (linked_sought c.args.self.now is c.args.child c.args.class c.parents_of-id-items.result c.parents_of-id-items.ensures.rising
    (λ parent link at. c.parents_of-id-items.ensures.all parent link (ap (line_with Links (c.args.child ∷ class_number c.args.class ∷ parent ∷ [])) c.self.view_is ∙ at)))

pub loop-id-preserved : goal.loop-id-preserved
loop-id-preserved c = sought_on (may_be c.args.child (λ other. list_any (is_link c.args.class c.args.child (id_of other)) c.args.self.now.links)) c.args.self.now.rows c.in-Some.field-0.now c.loop-id.id-iterator c.next.new.self c.in-Some.ensures.steps (sym c.is_linked.ensures ∙ c.if-is_linked.false) c.loop-id.invariant

pub returns-then-is_linked : goal.returns-then-is_linked
returns-then-is_linked c =
    sought_found (may_be c.args.child (λ other. list_any (is_link c.args.class c.args.child (id_of other)) c.args.self.now.links)) c.args.self.now.rows c.in-Some.field-0.now c.loop-id.id-iterator c.next.new.self c.in-Some.ensures.steps (sym c.is_linked.ensures ∙ c.if-is_linked.true) c.loop-id.invariant ((subst IsGazetteer c.self.view_is c.self.invariant).tables Rows)

pub returns : goal.returns
returns c = sought_none (may_be c.args.child (λ other. list_any (is_link c.args.class c.args.child (id_of other)) c.args.self.now.links)) c.args.self.now.rows c.loop-id.id-iterator c.in-None.ensures.steps.0 c.loop-id.invariant ((subst IsGazetteer c.self.view_is c.self.invariant).tables Rows)
