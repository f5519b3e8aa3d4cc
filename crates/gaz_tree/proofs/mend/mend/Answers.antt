use Rattle.std.proofs.Common.{◌∙◌, sym, ap, subst, arith}
use Rattle.std.specs.Prelude.{IsTrue}
use Rattle.gaz_leaf.specs.Node.{count_of}
use Rattle.gaz_tree.proofs.Answered.{same_twice}
use Rattle.std.proofs.Common.{inl, refl}
use Rattle.gaz_leaf.specs.declared.kind.Kind.TheVariants.{Inner}
use Rattle.gaz_leaf.specs.Node.{pairs_in}
use Rattle.gaz_tree.specs.declared.shrunk.Shrunk.{Shrunk}
use Rattle.gaz_tree.proofs.Named.{page_unfit, page_or_child, read_same}
use Rattle.gaz_tree.proofs.Removes.{ok_map}
use Rattle.gaz_tree.proofs.mend.mend.Goals as goal

pub returns-clause-mended : goal.returns-clause-mended
returns-clause-mended g c = ok_map _ _ c.mend_two.result (λ m told.
    let v = g.P.Pages.view in
    let old = v c.args.pages.now in
    let reads = c.in-Ok.ensures.reads in
    let same = reads.same (λ failed. failed) told in
    let still : IsTrue (v c.load.new.pages).is_told = subst IsTrue (sym reads.counts.told) told in
    let bytes = c.in-Ok.ensures.bytes told in
    let at = m still (bytes ∙ (λ j. sym same.pages j c.args.page)) in
    record {
      i = c.left_of.result;
      within = (let a = c.left_of.ensures.within in let b = c.in-Ok.ensures.count in let d = ap count_of bytes in omega arith);
      near = c.left_of.ensures.near;
      at = record { mid = at.mid; same = same_twice old (v c.load.new.pages) at.mid same at.same; mends = at.mends };
    })
    c.mend_two.ensures.mends

pub returns-in-Err-clause-names : goal.returns-in-Err-clause-names
returns-in-Err-clause-names g c told =
    let v = g.P.Pages.view in
    let old = v c.args.pages.now in
    page_unfit Shrunk c.args.kind c.args.page c.args.place old.page (v c.load.new.pages).page old.is_told c.in-Err.fault told
    (read_same 1 old (v c.load.new.pages) c.in-Err.fault c.in-Err.ensures.reads told) c.in-Err.ensures.unfit

pub returns-then-count-lt2-clause-names : goal.returns-then-count-lt2-clause-names
returns-then-count-lt2-clause-names g c told =
    let reads = c.in-Ok.ensures.reads in
    inl (
      refl,
      (reads.same (λ failed. failed) told).pages,
      λ form two lt. (let few = c.if-count-lt2.true in let count = c.in-Ok.ensures.count in let e = ap count_of (c.in-Ok.ensures.bytes told) in omega arith),
    )

pub returns-then-place-count-clause-names : goal.returns-then-place-count-clause-names
returns-then-place-count-clause-names g c told =
    let reads = c.in-Ok.ensures.reads in
    inl (
      refl,
      (reads.same (λ failed. failed) told).pages,
      λ form two lt. (let few = c.if-place-count.true in let count = c.in-Ok.ensures.count in let e = ap count_of (c.in-Ok.ensures.bytes told) in omega arith),
    )

pub returns-clause-names : goal.returns-clause-names
returns-clause-names g c told =
    let v = g.P.Pages.view in
    let old = v c.args.pages.now in
    let mid = v c.load.new.pages in
    let reads = c.in-Ok.ensures.reads in
    let still : IsTrue mid.is_told = subst IsTrue (sym reads.counts.told) told in
    page_or_child c.args.kind c.args.page c.args.place (pairs_in Inner c.load.new.buf) old.page mid.page (v c.mend_two.new.pages).page c.mend_two.result
    (reads.same (λ failed. failed) told).pages (ap (pairs_in Inner) (c.in-Ok.ensures.bytes told)) (c.mend_two.ensures.names still)
