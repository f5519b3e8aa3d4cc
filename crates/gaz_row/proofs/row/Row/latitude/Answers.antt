use Rattle.std.proofs.Common.{ap, ◌∙◌}
use Rattle.gaz_num.specs.Numbers.{degrees_in}
use Rattle.gaz_num.proofs.PassedLemmas.{some_of}
use Rattle.gaz_row.proofs.AcceptedLemmas.{accepted}
use Rattle.gaz_row.proofs.row.Row.latitude.Goals as goal

pub unwrap-requires : goal.unwrap-requires
unwrap-requires c = some_of c.read_degrees.result _ (c.read_degrees.ensures ∙ ap (degrees_in 90) c.column_of.ensures) (accepted _ c.self.invariant).latitude
