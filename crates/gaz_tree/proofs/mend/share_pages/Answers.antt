use Rattle.std.proofs.Common.{◌∙◌, sym, subst}
use Rattle.std.specs.Prelude.{IsTrue}
use Rattle.gaz_leaf.specs.declared.kind.Kind.TheVariants.{Inner}
use Rattle.gaz_page.specs.Chains.{IsNoFree}
use Rattle.gaz_tree.proofs.Along.{along_three}
use Rattle.gaz_tree.proofs.mend.share_pages.Goals as goal

pub returns-in-Ok-write-2-clause-along : goal.returns-in-Ok-write-2-clause-along
returns-in-Ok-write-2-clause-along g c told none_page none_left none_right top left right =
    let v = g.P.Pages.view in
    let old = v c.args.pages.now in
    let first : IsTrue (v c.write.new.self).is_told = subst IsTrue (sym c.write.ensures.counts.told) told in
    let second : IsTrue (v c.write-2.new.self).is_told = subst IsTrue (sym c.write-2.ensures.counts.told) first in
    along_three c.args.kind old (v c.write.new.self) (v c.write-2.new.self) (v c.write-3.new.self) c.child_at.result c.child_at-right_page.result c.args.page
    c.share.new.left c.part-key.new.right c.replace.new.page Inner
    (c.in-Ok.ensures.written told) (c.in-Ok-write.ensures.written first) (c.in-Ok-write-2.ensures.written second)
    (subst (IsNoFree old) (sym c.child_at.ensures) none_left) (subst (IsNoFree old) (sym c.child_at-right_page.ensures) none_right) none_page
    (c.share.ensures.left_byte ∙ left) (c.part-key.ensures.byte ∙ c.share.ensures.right_byte ∙ right) (c.replace.ensures.byte ∙ top)
