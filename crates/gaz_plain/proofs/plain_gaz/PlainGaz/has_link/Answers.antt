use Rattle.std.proofs.Common.{ap, sym, ◌∙◌}
use Rattle.std.specs.Prelude.{is_some}
use Rattle.std.specs.List.{list_any}
use Rattle.gaz_num.specs.declared.words.Table.TheVariants.{Links}
use Rattle.gaz_parent.specs.Parent.{is_link}
use Rattle.gaz_plain.specs.Gazetteer.{Gazetteer}
use Rattle.gaz_plain.proofs.Foremost.{some_copied, link_found}
use Rattle.gaz_plain.proofs.plain_gaz.PlainGaz.has_link.Goals as goal

pub returns : goal.returns
returns c =
    c.is_some.ensures
    ∙ sym (some_copied c.get.result)
    ∙ ap is_some c.get.ensures
    ∙ link_found c.args.class c.args.child c.args.parent c.self.inside.links (c.self.invariant.tables Links).each
    ∙ ap (λ (g : Gazetteer). list_any (is_link c.args.class c.args.child c.args.parent) g.links) c.self.view_is
