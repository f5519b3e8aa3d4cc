use Rattle.std.proofs.Common.{◌<◌, arith}
use Rattle.std.proofs.lemmas.List.Elements.{All-from_get_or}
use Rattle.gaz_num.specs.declared.words.Table.TheVariants.{Countries}
use Rattle.gaz_name.specs.Name.{first_bytes}
use Rattle.gaz_keys.specs.Keys.{country_key}
use Rattle.gaz_rows.proofs.KeysFor.{country_key_for}
use Rattle.gaz_rows.proofs.Asked.{country_answered, sound}
use Rattle.gaz_rows.proofs.store.RowStore.get_country.Goals as goal

pub returns-clause-line : goal.returns-clause-line
returns-clause-line g c =
    let code = c.args.code.now in
    country_answered code (All-from_get_or (λ byte. byte < 256) code 0 (λ i below. let fits = c.type_inv.code i in omega (arith, fits))) (g.P.Pages.view c.args.self.now.pages) c.args.self.now.root
    c.country_key_of.result c.get_coded.new.buf c.get_coded.result c.country_key_of.ensures c.get_coded.ensures.line

pub returns-clause-damaged : goal.returns-clause-damaged
returns-clause-damaged g c =
    let code = c.args.code.now in
    sound Countries code (country_key (first_bytes 4 code)) (λ slots. country_key_for slots code (All-from_get_or (λ byte. byte < 256) code 0 (λ i below. let fits = c.type_inv.code i in omega (arith, fits)))) (g.P.Pages.view c.args.self.now.pages) c.args.self.now.root
    c.country_key_of.result c.get_coded.result c.country_key_of.ensures c.get_coded.ensures.damaged
