use Rattle.std.proofs.Common.{◌++◌, ◌∷◌, [], length, sym, subst}
use Rattle.gaz_keys.specs.Front.{IsFront}
use Rattle.gaz_keys.proofs.Fronts.{nothing_put}
use Rattle.gaz_kin.proofs.path.put_text.Goals as goal

pub returns-clause-front : goal.returns-clause-front
returns-clause-front c =
    let size = length c.args.bytes.now in
    let first = c.put_behind-len.ensures.front [] (subst (λ bytes. IsFront size [] bytes 0) (sym c.requires.zeros) (nothing_put size)) in
    subst (λ n. IsFront n (c.args.text.now ++ 0 ∷ []) c.put_behind.new.bytes c.put_behind.result) c.put_behind-len.ensures.size
    (c.put_behind.ensures.front c.args.text.now (subst (λ n. IsFront n c.args.text.now c.put_behind-len.new.bytes c.put_behind-len.result) (sym c.put_behind-len.ensures.size) first))
