use Rattle.std.proofs.Common.{[], ◌∷◌, ap, sym, subst, ◌∙◌, arith}
use Rattle.gaz_num.specs.declared.words.Table.TheVariants.{Rows}
use Rattle.gaz_row.specs.Row.{id_of}
use Rattle.gaz_parent.specs.Parent.{may_be, is_division_of}
use Rattle.gaz_plain.specs.Gazetteer.{IsGazetteer, line_with}
use Rattle.gaz_plain.specs.Ordered.{path_number, row_numbers, is_one_in}
use Rattle.gaz_plain.proofs.Sought.{sought_on, sought_found, sought_none, numbered_sought, division_numbered}
use Rattle.gaz_plain.proofs.kin.PlainKin.least_division.Goals as goal

pub loop-id-init : goal.loop-id-init
loop-id-init c =
    let is = subst IsGazetteer c.self.view_is c.self.invariant in
    let all = c.into_iter-id-iterator.ensures.into_iter_gives in
    rw all (numbered_sought c.args.self.now (may_be (id_of c.args.row.now) (is_division_of c.args.level c.args.row.now)) (path_number c.args.level c.args.row.now) (λ other passes. division_numbered c.args.row.now other c.args.level (omega (arith, c.requires.high)) passes) c.with_number-id-items.result c.with_number-id-items.ensures.rising
    (λ id row at there. c.with_number-id-items.ensures.all id row (ap (line_with Rows (id ∷ [])) c.self.view_is ∙ at) (ap (is_one_in (row_numbers row)) c.path_number.ensures ∙ there)))

pub loop-id-preserved : goal.loop-id-preserved
loop-id-preserved c = sought_on (may_be (id_of c.args.row.now) (is_division_of c.args.level c.args.row.now)) c.args.self.now.rows c.in-Some.field-0.now c.loop-id.id-iterator c.next.new.self c.in-Some.ensures.steps (sym c.is_division.ensures ∙ c.if-is_division.false) c.loop-id.invariant

pub returns-then-is_division : goal.returns-then-is_division
returns-then-is_division c =
    sought_found (may_be (id_of c.args.row.now) (is_division_of c.args.level c.args.row.now)) c.args.self.now.rows c.in-Some.field-0.now c.loop-id.id-iterator c.next.new.self c.in-Some.ensures.steps (sym c.is_division.ensures ∙ c.if-is_division.true) c.loop-id.invariant ((subst IsGazetteer c.self.view_is c.self.invariant).tables Rows)

pub returns : goal.returns
returns c = sought_none (may_be (id_of c.args.row.now) (is_division_of c.args.level c.args.row.now)) c.args.self.now.rows c.loop-id.id-iterator c.in-None.ensures.steps.0 c.loop-id.invariant ((subst IsGazetteer c.self.view_is c.self.invariant).tables Rows)
