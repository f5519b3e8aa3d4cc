use Rattle.std.proofs.Common.{◌∙◌, ◌++◌, ◌∷◌, [], refl, sym, ap, subst, arith, length}
use Rattle.gaz_keys.specs.Front.{IsFront}
use Rattle.gaz_keys.proofs.Fronts.{nothing_put}
use Rattle.gaz_kin.specs.Kept.{path_with}
use Rattle.gaz_kin.proofs.Coded.{path_begun, path_more, code_more}
use Rattle.gaz_kin.proofs.path.put_path.Goals as goal

pub loop-above-init : goal.loop-above-init
loop-above-init c = record {
  front = code_more c.args.byte (length c.args.bytes.now) (length c.args.bytes.now) [] c.country.result.now (path_with c.args.byte 0 c.args.row.now) c.args.bytes.now _ 0 _ refl c.put_code-len.ensures.front (ap (λ text. text ++ c.args.byte ∷ []) c.country.ensures ∙ path_begun c.args.byte c.args.row.now) (subst (λ bytes. IsFront (length c.args.bytes.now) [] bytes 0) (sym c.requires.zeros) (nothing_put (length c.args.bytes.now)));
  bound = c.put_code-len.ensures.bound;
  size = c.put_code-len.ensures.size;
}

pub loop-above-preserved : goal.loop-above-preserved
loop-above-preserved c =
    let i = c.loop-above.invariant in
    let more = c.put_code-len-in-loop-above.ensures in
    let bound = more.bound in
    let size = i.size in
    record {
      front = code_more c.args.byte (length c.loop-above.bytes) (length c.args.bytes.now) (path_with c.args.byte c.loop-above.above c.args.row.now) c.admin.result.now _ c.loop-above.bytes _ c.loop-above.len _ i.size more.front (ap (λ text. path_with c.args.byte c.loop-above.above c.args.row.now ++ (text ++ c.args.byte ∷ [])) c.admin.ensures ∙ path_more c.args.byte c.loop-above.above c.args.row.now (omega arith)) i.front;
      bound = omega (arith, bound, size);
      size = more.size ∙ i.size;
    }
