use Rattle.std.proofs.Common.{ap₂, sym, arith, ◌∙◌}
use Rattle.std.specs.Str.{bytes_eq}
use Rattle.gaz_num.specs.Pieces.{column}
use Rattle.gaz_parent.proofs.Codes.{last_decides}
use Rattle.gaz_parent.proofs.candidate.+share_codes.Goals as goal

pub returns-then-share_codes : goal.returns-then-share_codes
returns-then-share_codes t c =
    c.eq.ensures
    ∙ ap₂ bytes_eq c.admin.ensures c.admin-then-share_codes.ensures
    ∙ last_decides (λ n. bytes_eq (column n c.args.other.now) (column n c.args.row.now)) c.args.level (omega arith) (omega arith) (sym c.share_codes.ensures ∙ c.if-share_codes.true)
