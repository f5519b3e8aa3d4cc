use Rattle.std.proofs.Common.{subst, sym}
use Rattle.gaz_kin.specs.declared.kept.Last.{Last}
use Rattle.gaz_kin.specs.Kept.{IsLast}
use Rattle.gaz_kin.proofs.Remembered.{is_last, one_more_kept}
use Rattle.gaz_kin.proofs.kept.Kept.keep.Goals as goal

pub returns-then-found : goal.returns-then-found
returns-then-found c lists found kept =
    let last : Last = record { path = c.of.result; above = c.args.found.above } in
    one_more_kept lists c.args.self.now c.from.result last
    (subst (λ level. IsLast lists level last) (sym c.from.ensures) (is_last lists c.args.level c.args.row.now last c.of.ensures (found.all c.if-found.true)))
    kept
