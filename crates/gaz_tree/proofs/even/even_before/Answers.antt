use Rattle.std.proofs.Common.{◌∙◌, inl, refl, sym, ap, subst, arith}
use Rattle.std.specs.Prelude.{IsTrue}
use Rattle.gaz_leaf.specs.declared.kind.Kind.TheVariants.{Inner}
use Rattle.gaz_leaf.specs.Node.{count_of, pairs_in}
use Rattle.gaz_tree.proofs.Removes.{ok_map}
use Rattle.gaz_tree.proofs.Evened.{even_before_over, leaf_page_unfit, leaf_or_page}
use Rattle.gaz_tree.proofs.Named.{read_same}
use Rattle.gaz_tree.proofs.Along.{along_over}
use Rattle.gaz_tree.proofs.even.even_before.Goals as goal

pub returns-clause-evens : goal.returns-clause-evens
returns-clause-evens g c = ok_map _ _ c.even_two.result (λ evens told.
    let v = g.P.Pages.view in
    let old = v c.args.pages.now in
    let mid = v c.load.new.pages in
    let reads = c.in-Ok.ensures.reads in
    let same = reads.same (λ failed. failed) told in
    let still : IsTrue mid.is_told = subst IsTrue (sym reads.counts.told) told in
    let bytes = c.in-Ok.ensures.bytes told in
    even_before_over old mid (v c.even_two.new.pages) c.args.page c.args.place same
    (let a = c.if-place-count.false in let b = c.in-Ok.ensures.count in let d = ap count_of bytes in omega arith) c.requires.some
    (evens still (bytes ∙ (λ j. sym same.pages j c.args.page))))
    c.even_two.ensures.evens

pub returns-in-Err-clause-names : goal.returns-in-Err-clause-names
returns-in-Err-clause-names g c told =
    let v = g.P.Pages.view in
    let old = v c.args.pages.now in
    leaf_page_unfit Unit c.args.page c.args.place old.page (v c.load.new.pages).page old.is_told c.in-Err.fault told
    (read_same 1 old (v c.load.new.pages) c.in-Err.fault c.in-Err.ensures.reads told) c.in-Err.ensures.unfit

pub returns-then-place-count-clause-names : goal.returns-then-place-count-clause-names
returns-then-place-count-clause-names g c told =
    let reads = c.in-Ok.ensures.reads in
    inl (
      refl,
      (reads.same (λ failed. failed) told).pages,
      λ form lt. (let few = c.if-place-count.true in let count = c.in-Ok.ensures.count in let e = ap count_of (c.in-Ok.ensures.bytes told) in omega arith),
    )

pub returns-clause-names : goal.returns-clause-names
returns-clause-names g c told =
    let v = g.P.Pages.view in
    let old = v c.args.pages.now in
    let mid = v c.load.new.pages in
    let reads = c.in-Ok.ensures.reads in
    let still : IsTrue mid.is_told = subst IsTrue (sym reads.counts.told) told in
    leaf_or_page c.args.page c.args.place (pairs_in Inner c.load.new.buf) old.page mid.page (v c.even_two.new.pages).page c.even_two.result
    (reads.same (λ failed. failed) told).pages (ap (pairs_in Inner) (c.in-Ok.ensures.bytes told)) (c.even_two.ensures.names still)

pub returns-clause-along : goal.returns-clause-along
returns-clause-along g c = ok_map _ _ c.even_two.result (λ along told.
    let v = g.P.Pages.view in
    let reads = c.in-Ok.ensures.reads in
    let same = reads.same (λ failed. failed) told in
    let still : IsTrue (v c.load.new.pages).is_told = subst IsTrue (sym reads.counts.told) told in
    along_over 0 (v c.args.pages.now) (v c.load.new.pages) (v c.even_two.new.pages) same
    (along still (c.in-Ok.ensures.bytes told ∙ (λ j. sym same.pages j c.args.page)) c.in-Ok.ensures.own.0))
    c.even_two.ensures.along
