use Rattle.std.proofs.Common.{◌≡◌, ap, sym, subst, refl, ◌∙◌, Some, None, ◌∷◌, []}
use Rattle.std.specs.Prelude.{unwrap_or}
use Rattle.gaz_row.specs.Row.{id_of}
use Rattle.gaz_plain.specs.Gazetteer.{IsGazetteer, line_with}
use Rattle.gaz_num.specs.declared.words.Table.TheVariants.{Rows}
use Rattle.gaz_plain.proofs.Foremost.{differ}
use Rattle.gaz_plain.proofs.Named.{place_is, nothing_named, itself_named, another_named}
use Rattle.gaz_plain.proofs.kin.PlainKin.named_country.Goals as goal

pub returns-in_default : goal.returns-in_default
returns-in_default c =
    let is = subst IsGazetteer c.self.view_is c.self.invariant in
    let gaz = c.args.self.now in
    let row = c.args.row.now in
    let code = c.as_bytes.ensures.value ∙ c.country.ensures in
    let at = place_is gaz is row c.as_bytes.result.now c.self.inside.gaz.now (None) (None) code c.self.view_is c.in_default.ensures (refl) in
    nothing_named gaz is row at

pub returns-in_default-country_place : goal.returns-in_default-country_place
returns-in_default-country_place c =
    let is = subst IsGazetteer c.self.view_is c.self.invariant in
    let gaz = c.args.self.now in
    let row = c.args.row.now in
    let code = c.as_bytes.ensures.value ∙ c.country.ensures in
    let at = place_is gaz is row c.as_bytes.result.now c.self.inside.gaz.now (Some c.in-Some.line.now) (None) code c.self.view_is c.in-Some.ensures (sym c.country_place.ensures ∙ c.in_default-country_place.is) in
    nothing_named gaz is row at

pub returns-then-place-id : goal.returns-then-place-id
returns-then-place-id c =
    let is = subst IsGazetteer c.self.view_is c.self.invariant in
    let gaz = c.args.self.now in
    let row = c.args.row.now in
    let code = c.as_bytes.ensures.value ∙ c.country.ensures in
    let own : id_of row ≡ c.id.result = ap (λ id. unwrap_or id 0) c.id.ensures in
    let at = place_is gaz is row c.as_bytes.result.now c.self.inside.gaz.now (Some c.in-Some.line.now) (Some (id_of row)) code c.self.view_is c.in-Some.ensures (sym c.country_place.ensures ∙ c.in-Some-country_place.is ∙ ap Some (c.if-place-id.true ∙ sym own)) in
    itself_named gaz is row at

pub returns-in-Some-get : goal.returns-in-Some-get
returns-in-Some-get c =
    let is = subst IsGazetteer c.self.view_is c.self.invariant in
    let gaz = c.args.self.now in
    let row = c.args.row.now in
    let code = c.as_bytes.ensures.value ∙ c.country.ensures in
    let own : id_of row ≡ c.id.result = ap (λ id. unwrap_or id 0) c.id.ensures in
    let place = c.in-Some-country_place.place in
    let at = place_is gaz is row c.as_bytes.result.now c.self.inside.gaz.now (Some c.in-Some.line.now) (Some place) code c.self.view_is c.in-Some.ensures (sym c.country_place.ensures ∙ c.in-Some-country_place.is) in
    let found = ap (λ g. line_with Rows (place ∷ []) g) (sym c.self.view_is) ∙ sym c.in-Some-get.ensures in
    another_named gaz is row place at (differ place (id_of row) (λ same. c.if-place-id.false (same ∙ own))) (Some c.in-Some-get.field-0.now) found

pub returns-in-None : goal.returns-in-None
returns-in-None c =
    let is = subst IsGazetteer c.self.view_is c.self.invariant in
    let gaz = c.args.self.now in
    let row = c.args.row.now in
    let code = c.as_bytes.ensures.value ∙ c.country.ensures in
    let own : id_of row ≡ c.id.result = ap (λ id. unwrap_or id 0) c.id.ensures in
    let place = c.in-Some-country_place.place in
    let at = place_is gaz is row c.as_bytes.result.now c.self.inside.gaz.now (Some c.in-Some.line.now) (Some place) code c.self.view_is c.in-Some.ensures (sym c.country_place.ensures ∙ c.in-Some-country_place.is) in
    let found = ap (λ g. line_with Rows (place ∷ []) g) (sym c.self.view_is) ∙ sym c.in-None.ensures in
    another_named gaz is row place at (differ place (id_of row) (λ same. c.if-place-id.false (same ∙ own))) None found
