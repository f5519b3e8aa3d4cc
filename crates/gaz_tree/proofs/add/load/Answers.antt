use Rattle.std.proofs.Common.{refl, sym, subst, arith}
use Rattle.gaz_leaf.specs.Node.{IsForm}
use Rattle.gaz_tree.proofs.Ways.{page_form}
use Rattle.gaz_tree.proofs.add.load.Goals as goal

pub returns-then-not-is_page-clause-unfit : goal.returns-then-not-is_page-clause-unfit
returns-then-not-is_page-clause-unfit g c = (
  refl,
  λ told form.
      let bytes = c.in-Ok.ensures.bytes told in
      let is = c.is_page.ensures.1 (page_form c.args.kind c.args.page c.in-Ok.bytes.now (omega arith) (subst (IsForm c.args.kind c.args.page) (sym bytes) form)) in
      let not = c.if-not-is_page.true in cc,
)
