use Rattle.std.proofs.Common.{ap, sym, ◌∙◌, ◌∷◌, []}
use Rattle.gaz_keys.specs.Lines.{more_keys}
use Rattle.gaz_keys.proofs.RowKeys.{reversed}
use Rattle.gaz_keys.proofs.tables.MoreKeys.of.Goals as goal

pub returns-in-Links-clause-keys : goal.returns-in-Links-clause-keys
returns-in-Links-clause-keys c =
    c.one-in-Links.ensures ∙ ap (λ key. key ∷ []) c.reverse_key.ensures ∙ reversed c.link_of_line.result c.args.line.now c.link_of_line.ensures
    ∙ ap (λ table. more_keys table c.args.line.now) (sym c.in-Links.is)
