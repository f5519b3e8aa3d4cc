use Rattle.std.proofs.Common.{◌<◌, ◌^◌, sym, subst, ap, ◌∙◌}
use Rattle.gaz_leaf.specs.Node.{key_of}
use Rattle.gaz_rows.proofs.SlotKeys.{slot_key}
use Rattle.gaz_kin.specs.Ids.{id_in_key}
use Rattle.gaz_kin.proofs.Numbers.{other_id}
use Rattle.gaz_kin.proofs.ids.number_in.Goals as goal

pub returns-in-Other : goal.returns-in-Other
returns-in-Other c = c.four_at.ensures ∙ sym (other_id c.args.key.now (λ i. c.fits-key i)) ∙ ap (λ part. id_in_key part (key_of c.args.key.now)) (sym c.in-Other.is)

pub returns-in-Last : goal.returns-in-Last
returns-in-Last c =
    c.four_at-in-Last.ensures ∙ sym (slot_key c.args.key.now (subst (λ n. n < 2 ^ 32) c.four_at-in-Last.ensures c.four_at-in-Last.type_inv)) ∙ ap (λ part. id_in_key part (key_of c.args.key.now)) (sym c.in-Last.is)
