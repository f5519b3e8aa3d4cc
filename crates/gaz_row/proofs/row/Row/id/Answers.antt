use Rattle.std.proofs.Common.{ap, ◌∙◌}
use Rattle.gaz_num.specs.Numbers.{id_in}
use Rattle.gaz_num.proofs.PassedLemmas.{some_of}
use Rattle.gaz_row.proofs.AcceptedLemmas.{accepted}
use Rattle.gaz_row.proofs.row.Row.id.Goals as goal

pub unwrap-requires : goal.unwrap-requires
unwrap-requires c = some_of c.read_id.result _ (c.read_id.ensures ∙ ap id_in c.column_of.ensures) (accepted _ c.self.invariant).id
