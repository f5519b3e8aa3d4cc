use Rattle.std.proofs.Common.{rules, ap, ap₂, sym, ◌∙◌, ◌∷◌, []}
use Rattle.gaz_keys.specs.Keys.{box_key, path_key, division_key}
use Rattle.gaz_keys.specs.Lines.{band_at, east_at, division_keys}
use Rattle.gaz_keys.proofs.RowKeys.{with_division, without_division, id_read}
use Rattle.gaz_keys.proofs.lines.row_keys.Goals as goal

pub returns-in-Some-clause-keys : goal.returns-in-Some-clause-keys
returns-in-Some-clause-keys c =
    let id = id_read 1 c.id-id.result c.args.row.now c.id-id.ensures in
    let lying = c.box_key.ensures ∙ ap₂ (λ band east. box_key band east c.id-id.result) c.band.ensures c.east.ensures ∙ ap (box_key (band_at c.args.row.now) (east_at c.args.row.now)) id in
    let divided = c.path_key-divided.ensures ∙ ap₂ path_key c.path.ensures id in
    let division = c.division_key.ensures ∙ ap₂ (division_key c.in-Some.level) c.path-in-Some.ensures id in
    with_division c.args.out.now c.args.row.now _ _ _ c.division_level.result (search rules) lying divided c.division_level.ensures.value (ap (λ key. key ∷ []) division ∙ ap (division_keys c.args.row.now) (sym c.in-Some.is))

pub returns-in-None-clause-keys : goal.returns-in-None-clause-keys
returns-in-None-clause-keys c =
    let id = id_read 1 c.id-id.result c.args.row.now c.id-id.ensures in
    let lying = c.box_key.ensures ∙ ap₂ (λ band east. box_key band east c.id-id.result) c.band.ensures c.east.ensures ∙ ap (box_key (band_at c.args.row.now) (east_at c.args.row.now)) id in
    let divided = c.path_key-divided.ensures ∙ ap₂ path_key c.path.ensures id in
    without_division c.args.out.now c.args.row.now _ _ c.division_level.result (search rules) lying divided c.division_level.ensures.value c.in-None.is
