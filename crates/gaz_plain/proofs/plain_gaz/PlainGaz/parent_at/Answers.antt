use Rattle.std.proofs.Common.{Some, None, ap, sym, ◌∙◌}
use Rattle.gaz_parent.specs.Parent.{parent_of}
use Rattle.gaz_plain.specs.Kin.{lists_of}
use Rattle.gaz_plain.proofs.Named.{parent_with, row_accepted}
use Rattle.gaz_plain.proofs.plain_gaz.PlainGaz.parent_at.Goals as goal

-- each row was accepted
pub of-requires : goal.of-requires
of-requires c = row_accepted c.args.self.now c.is_gazetteer.ensures c.args.id c.in-Some.line.now (sym c.in-Some.ensures)

pub returns-in-Some : goal.returns-in-Some
returns-in-Some c =
    c.parent_of.ensures
    ∙ ap (parent_of (lists_of c.args.self.now)) c.of.ensures
    ∙ parent_with c.args.self.now c.is_gazetteer.ensures c.args.id (Some c.in-Some.line.now) (sym c.in-Some.ensures)

pub returns-in-None : goal.returns-in-None
returns-in-None c = parent_with c.args.self.now c.is_gazetteer.ensures c.args.id None (sym c.in-None.ensures)
