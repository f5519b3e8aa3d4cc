use Rattle.std.proofs.Common.{[], ◌∷◌}
use Rattle.gaz_num.specs.declared.words.Table.TheVariants.{Rows}
use Rattle.gaz_keys.specs.Keys.{place_key}
use Rattle.gaz_rows.proofs.KeysFor.{row_key_for, row_key_alone}
use Rattle.gaz_rows.proofs.Asked.{answered, sound}
use Rattle.gaz_rows.proofs.store.RowStore.get_row.Goals as goal

pub returns-clause-line : goal.returns-clause-line
returns-clause-line g c =
    let id = c.args.id in
    answered Rows (id ∷ []) (place_key id) (λ slots. row_key_for slots id) (g.P.Pages.view c.args.self.now.pages) c.args.self.now.root
    (λ slots. row_key_alone slots id c.ranges.id.fits) c.place_key.result c.get.new.buf c.get.result c.place_key.ensures c.get.ensures.line

pub returns-clause-damaged : goal.returns-clause-damaged
returns-clause-damaged g c =
    let id = c.args.id in
    sound Rows (id ∷ []) (place_key id) (λ slots. row_key_for slots id) (g.P.Pages.view c.args.self.now.pages) c.args.self.now.root
    c.place_key.result c.get.result c.place_key.ensures c.get.ensures.damaged
