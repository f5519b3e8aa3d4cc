use Rattle.std.proofs.Common.{sym, subst}
use Rattle.std.specs.Prelude.{IsUtf8}
use Rattle.gaz_num.proofs.PassedLemmas.{ok_of}
use Rattle.gaz_row.proofs.AcceptedLemmas.{accepted_column}
use Rattle.gaz_row.proofs.row.Row.text.Goals as goal

pub unwrap-requires : goal.unwrap-requires
unwrap-requires c =
    let is = accepted_column _ c.args.number c.self.invariant in
    ok_of c.from_utf8.result _ _ c.from_utf8.ensures.cases (λ fault bad. bad.0 (subst IsUtf8 (sym c.column_of.ensures) is))
