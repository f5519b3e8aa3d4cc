use Rattle.std.proofs.Common.{rules, ap, ◌∙◌, ◌++◌, ◌∷◌, [], arith}
use Rattle.gaz_keys.specs.Lines.{path_to}
use Rattle.gaz_keys.proofs.Fronts.{nothing_put, path_begun, path_more, code_more}
use Rattle.gaz_keys.proofs.lines.path.Goals as goal

pub loop-above-init : goal.loop-above-init
loop-above-init g c = record {
  front = code_more _ g.row.SIZE [] c.country.result.now (path_to 0 c.args.row.now) _ _ 0 _ (search rules) c.put_code-len.ensures.front (ap (λ text. text ++ 0 ∷ []) c.country.ensures ∙ path_begun c.args.row.now) (nothing_put g.row.SIZE);
  bound = search rules;
}

pub loop-above-preserved : goal.loop-above-preserved
loop-above-preserved g c = record {
  front = code_more _ g.row.SIZE (path_to c.loop-above.above c.args.row.now) c.admin.result.now _ _ _ c.loop-above.len _ (search rules) c.put_code-len-in-loop-above.ensures.front (ap (λ text. path_to c.loop-above.above c.args.row.now ++ (text ++ 0 ∷ [])) c.admin.ensures ∙ path_more c.loop-above.above c.args.row.now (omega arith)) c.loop-above.invariant.front;
  bound = search rules;
}
