use Rattle.std.proofs.Common.{[], ◌∷◌}
use Rattle.gaz_num.specs.declared.words.Table.TheVariants.{Alternates}
use Rattle.gaz_keys.specs.Keys.{alternate_key}
use Rattle.gaz_rows.proofs.KeysFor.{alternate_key_for, alternate_key_alone}
use Rattle.gaz_rows.proofs.Asked.{answered, sound}
use Rattle.gaz_rows.proofs.store.RowStore.get_alt.Goals as goal

pub returns-clause-line : goal.returns-clause-line
returns-clause-line g c =
    let id = c.args.id in
    answered Alternates (id ∷ []) (alternate_key id) (λ slots. alternate_key_for slots id) (g.P.Pages.view c.args.self.now.pages) c.args.self.now.root
    (λ slots. alternate_key_alone slots id c.ranges.id.fits) c.alternate_key.result c.get.new.buf c.get.result c.alternate_key.ensures c.get.ensures.line

pub returns-clause-damaged : goal.returns-clause-damaged
returns-clause-damaged g c =
    let id = c.args.id in
    sound Alternates (id ∷ []) (alternate_key id) (λ slots. alternate_key_for slots id) (g.P.Pages.view c.args.self.now.pages) c.args.self.now.root
    c.alternate_key.result c.get.result c.alternate_key.ensures c.get.ensures.damaged
