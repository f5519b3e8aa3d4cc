use Rattle.gaz_row.specs.Row.{id_of}
use Rattle.gaz_parent.specs.Parent.{may_be, is_division_of}
use Rattle.gaz_plain.proofs.Sought.{AreSought}
use Rattle.gaz_plain.proofs.kin.PlainKin.least_division.Given as goal

-- all that may be taken are still to come
abbrev pub invariant-loop-id : goal.invariant-loop-id
invariant-loop-id l = AreSought (may_be (id_of l.row) (is_division_of l.level l.row)) l.self.rows l.id-iterator
