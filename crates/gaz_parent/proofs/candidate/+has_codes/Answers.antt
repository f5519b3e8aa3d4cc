use Rattle.std.proofs.Common.{ap, sym, arith, ◌∙◌}
use Rattle.std.specs.Prelude.{not}
use Rattle.gaz_num.specs.Pieces.{column}
use Rattle.gaz_num.specs.Check.{is_empty}
use Rattle.gaz_parent.proofs.Codes.{last_decides}
use Rattle.gaz_parent.proofs.candidate.+has_codes.Goals as goal

pub returns-then-has_codes : goal.returns-then-has_codes
returns-then-has_codes t c =
    ap not c.is_empty.ensures
    ∙ ap (λ text. not (is_empty text)) c.admin.ensures
    ∙ last_decides (λ n. not (is_empty (column n c.args.row.now))) c.args.level (omega arith) (omega arith) (sym c.has_codes.ensures ∙ c.if-has_codes.true)
