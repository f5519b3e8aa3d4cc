use Rattle.std.proofs.Common.{◌≡◌, refl, sym, ap, ◌∙◌, true≢false}
use Rattle.std.specs.Prelude.{unwrap_or}
use Rattle.std.proofs.lemmas.Bool.{eq-eqb}
use Rattle.gaz_row.specs.Row.{id_of}
use Rattle.gaz_parent.specs.Parent.{is_this}
use Rattle.gaz_kin.proofs.Remembered.{still_above}
use Rattle.gaz_kin.proofs.kept.Last.recall.Goals as goal

pub returns : goal.returns
returns c lists is =
    let path = c.if-not-is_same.ensures in
    let row = c.args.row.now in
    let own : id_of row ≡ c.id.result = ap (λ id. unwrap_or id 0) c.id.ensures in
    let above = c.args.self.now.above in
    still_above lists c.args.level row above
    (is row (record { are = path.bytes refl ∙ c.of.ensures.are; own = path.len refl ∙ c.of.ensures.own }) (path.whole refl))
    (λ same. true≢false (sym (eq-eqb (id_of row) c.id.result own) ∙ ap (is_this c.id.result) (sym same) ∙ sym c.if-is_place.ensures))
