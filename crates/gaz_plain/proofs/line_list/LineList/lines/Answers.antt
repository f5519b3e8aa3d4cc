use Rattle.std.proofs.Common.{map, ap, ◌∙◌}
use Rattle.std.specs.Prelude.{vec_items}
use Rattle.gaz_plain.proofs.ListLemmas.{values_seen}
use Rattle.gaz_plain.proofs.line_list.LineList.lines.Goals as goal

pub returns : goal.returns
returns g c = ap (map (λ line. vec_items line)) c.values.ensures.rest ∙ values_seen c.self.inside.lines.entries ∙ c.self.view_is
