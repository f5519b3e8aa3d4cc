use Rattle.std.proofs.Common.{◌≡◌, refl, ap, sym, true≢false, ◌∙◌, Some, Ok, Err}
use Rattle.std.specs.Prelude.{unwrap_or}
use Rattle.gaz_row.specs.Row.{id_of}
use Rattle.gaz_plain.proofs.Foremost.{differ}
use Rattle.gaz_plain.proofs.Named.{nothing_named, itself_named, another_named}
use Rattle.gaz_rows.specs.Store.{IsSound}
use Rattle.gaz_kin.specs.Leading.{only_on, only_ok, only_err, over_on, told_on, store_on}
use Rattle.gaz_kin.proofs.Remembered.{none_of_all, another_of_all}
use Rattle.gaz_kin.proofs.above.named_country.Goals as goal

pub returns-in-Ok-None-clause-found : goal.returns-in-Ok-None-clause-found
returns-in-Ok-None-clause-found g c told gaz stands =
    let at = rw c.in-Ok-None.field-0-is at (c.in-Ok-None.ensures.named told gaz stands) in
    record { other = nothing_named gaz stands.is_gazetteer c.args.row.now at; all = λ common. none_of_all gaz stands.is_gazetteer c.args.row.now at }

-- the row itself is named
pub returns-then-place-id-clause-found : goal.returns-then-place-id-clause-found
returns-then-place-id-clause-found g c told gaz stands =
    let own : id_of c.args.row.now ≡ c.id.result = ap (λ id. unwrap_or id 0) c.id.ensures in
    record {
      other = itself_named gaz stands.is_gazetteer c.args.row.now ((rw c.in-Ok-Some.field-0-is at (c.in-Ok-Some.ensures.named told gaz stands)) ∙ ap Some (c.if-place-id.true ∙ sym own));
      all = λ common. absurd (true≢false (sym common));
    }

-- another place is
pub returns-in-Ok-clause-found : goal.returns-in-Ok-clause-found
returns-in-Ok-clause-found g c told gaz stands =
    let v = g.P.Pages.view in
    let own : id_of c.args.row.now ≡ c.id.result = ap (λ id. unwrap_or id 0) c.id.ensures in
    let at = rw c.in-Ok-Some.field-0-is at (c.in-Ok-Some.ensures.named told gaz stands) in
    let differs = differ c.in-Ok-Some.place (id_of c.args.row.now) (λ same. c.if-place-id.false (same ∙ own)) in
    let is = c.in-Ok.ensures.found (told_on (v c.args.store.now.pages) (v c.named_place.new.store.pages) _ c.in-Ok-Some.ensures.asked told) gaz (store_on gaz (v c.args.store.now.pages) (v c.named_place.new.store.pages) c.args.store.now.root c.named_place.new.store.root c.in-Ok-Some.field-0 c.in-Ok-Some.ensures.asked c.in-Ok-Some.ensures.root told stands)
    ∙ another_named gaz stands.is_gazetteer c.args.row.now c.in-Ok-Some.place at differs _ refl in
    record { other = is; all = λ common. another_of_all gaz stands.is_gazetteer c.args.row.now c.in-Ok-Some.place c.in-Ok.above at differs is }

pub returns-in-Err-if_live-clause-damaged : goal.returns-in-Err-if_live-clause-damaged
returns-in-Err-if_live-clause-damaged g c =
    let v = g.P.Pages.view in
    over_on (λ gaz. IsSound c.in-Err-if_live.fault) (v c.args.store.now.pages) (v c.named_place.new.store.pages) c.args.store.now.root c.named_place.new.store.root c.in-Ok-Some.field-0 c.in-Ok-Some.ensures.asked c.in-Ok-Some.ensures.root c.in-Err-if_live.ensures.damaged

pub returns-in-Ok-clause-asked : goal.returns-in-Ok-clause-asked
returns-in-Ok-clause-asked g c =
    let v = g.P.Pages.view in
    only_on (v c.args.store.now.pages) (v c.named_place.new.store.pages) (v c.if_live.new.store.pages) c.in-Ok-Some.field-0 (Ok _) c.in-Ok-Some.ensures.asked
    (only_ok (v c.named_place.new.store.pages) (v c.if_live.new.store.pages) c.in-Ok.above _ (_, c.in-Ok.ensures.asked))

pub returns-in-Err-if_live-clause-asked : goal.returns-in-Err-if_live-clause-asked
returns-in-Err-if_live-clause-asked g c =
    let v = g.P.Pages.view in
    only_on (v c.args.store.now.pages) (v c.named_place.new.store.pages) (v c.if_live.new.store.pages) c.in-Ok-Some.field-0 (Err c.in-Err-if_live.fault) c.in-Ok-Some.ensures.asked
    (only_err (v c.named_place.new.store.pages) (v c.if_live.new.store.pages) c.in-Err-if_live.fault (_, c.in-Err-if_live.ensures.asked))
