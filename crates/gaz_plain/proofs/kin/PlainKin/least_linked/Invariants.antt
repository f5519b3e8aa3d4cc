use Rattle.std.specs.List.{list_any}
use Rattle.gaz_row.specs.Row.{id_of}
use Rattle.gaz_parent.specs.Parent.{may_be, is_link}
use Rattle.gaz_plain.proofs.Sought.{AreSought}
use Rattle.gaz_plain.proofs.kin.PlainKin.least_linked.Given as goal

-- all that may be taken are still to come
abbrev pub invariant-loop-id : goal.invariant-loop-id
invariant-loop-id l = AreSought (may_be l.child (λ other. list_any (is_link l.class l.child (id_of other)) l.self.links)) l.self.rows l.id-iterator
