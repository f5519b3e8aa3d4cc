use Rattle.std.proofs.Common.{◌≡◌, ◌+◌, ◌++◌, ◌∙◌, inr, refl, sym, ap, subst, arith}
use Rattle.std.specs.Prelude.{IsTrue}
use Rattle.gaz_leaf.specs.declared.kind.Kind.TheVariants.{Leaf, Inner}
use Rattle.gaz_leaf.specs.Node.{IsForm, pairs_in}
use Rattle.gaz_tree.specs.Remove.{child_in, both_in}
use Rattle.gaz_tree.proofs.Ways.{child_there}
use Rattle.gaz_tree.proofs.Answered.{same_twice}
use Rattle.gaz_tree.proofs.Removes.{ok_map}
use Rattle.gaz_tree.proofs.Named.{child_unfit, read_same}
use Rattle.gaz_page.proofs.Takes.{along_same}
use Rattle.gaz_tree.proofs.Along.{none_free, along_over}
use Rattle.gaz_tree.proofs.even.even_two.Goals as goal

pub returns-in-Err-clause-names : goal.returns-in-Err-clause-names
returns-in-Err-clause-names g c told =
    let v = g.P.Pages.view in
    let old = v c.args.pages.now in
    let within = c.requires.within in
    child_unfit Unit Leaf (pairs_in Inner c.args.parent.now) c.child_at.result old.page old.page (v c.load.new.pages).page old.is_told c.in-Err.fault told refl
    (read_same 1 old (v c.load.new.pages) c.in-Err.fault c.in-Err.ensures.reads told)
    (child_there c.args.i c.child_at.result c.args.parent.now (omega arith) c.child_at.ensures) c.in-Err.ensures.unfit

pub returns-in-Err-load-clause-names : goal.returns-in-Err-load-clause-names
returns-in-Err-load-clause-names g c told =
    let v = g.P.Pages.view in
    let old = v c.args.pages.now in
    let mid = v c.load.new.pages in
    let reads = c.in-Ok.ensures.reads in
    let same = (reads.same (λ failed. failed) told).pages in
    let still : IsTrue mid.is_told = subst IsTrue (sym reads.counts.told) told in
    child_unfit Unit Leaf (pairs_in Inner c.args.parent.now) c.child_at-2.result old.page mid.page (v c.load-2.new.pages).page mid.is_told c.in-Err-load.fault still same
    (λ fine. read_same 1 mid (v c.load-2.new.pages) c.in-Err-load.fault c.in-Err-load.ensures.reads still fine ∙ same)
    (child_there (c.args.i + 1) c.child_at-2.result c.args.parent.now c.requires.within c.child_at-2.ensures) c.in-Err-load.ensures.unfit

pub returns-clause-evens : goal.returns-clause-evens
returns-clause-evens g c = ok_map _ _ c.share_pages.result (λ shares told parent.
    let v = g.P.Pages.view in
    let old = v c.args.pages.now in
    let one = v c.load.new.pages in
    let mid = v c.load-2.new.pages in
    let reads = c.in-Ok.ensures.reads in
    let still : IsTrue one.is_told = subst IsTrue (sym reads.counts.told) told in
    let reads_too = c.in-Ok-load.ensures.reads in
    let again : IsTrue mid.is_told = subst IsTrue (sym reads_too.counts.told) still in
    let same_too = reads_too.same (λ failed. failed) still in
    let same = same_twice old one mid (reads.same (λ failed. failed) told) same_too in
    let left : c.load.new.buf ≡ mid.page (child_in c.args.parent.now c.args.i) =
    c.in-Ok.ensures.bytes told ∙ ap old.page c.child_at.ensures ∙ (λ j. sym same.pages j (child_in c.args.parent.now c.args.i)) in
    let right : c.load-2.new.buf ≡ mid.page (child_in c.args.parent.now (c.args.i + 1)) =
    c.in-Ok-load.ensures.bytes still ∙ ap one.page c.child_at-2.ensures ∙ (λ j. sym same_too.pages j (child_in c.args.parent.now (c.args.i + 1))) in
    let both : pairs_in Leaf c.load.new.buf ++ pairs_in Leaf c.load-2.new.buf ≡ both_in Leaf mid.page c.args.parent.now c.args.i = (λ j. pairs_in Leaf (left j) ++ pairs_in Leaf (right j)) in
    inr (record {
      mid = mid;
      same = same;
      shared = shares again (parent ∙ (λ j. sym same.pages j c.args.page)) left (λ n f. subst (IsForm Leaf n) (sym right) f) both;
    }))
    c.share_pages.ensures.shares

pub returns-then-first-gt-MOST-clause-along : goal.returns-then-first-gt-MOST-clause-along
returns-then-first-gt-MOST-clause-along g c told parent top =
    let v = g.P.Pages.view in
    along_same (v c.args.pages.now) (v c.load.new.pages) (c.in-Ok.ensures.reads.same (λ failed. failed) told)

pub returns-then-first-second-clause-along : goal.returns-then-first-second-clause-along
returns-then-first-second-clause-along g c told parent top =
    let v = g.P.Pages.view in
    let reads = c.in-Ok.ensures.reads in
    let still : IsTrue (v c.load.new.pages).is_told = subst IsTrue (sym reads.counts.told) told in
    along_same (v c.args.pages.now) (v c.load-2.new.pages)
    (same_twice (v c.args.pages.now) (v c.load.new.pages) (v c.load-2.new.pages) (reads.same (λ failed. failed) told) (c.in-Ok-load.ensures.reads.same (λ failed. failed) still))

pub returns-clause-along : goal.returns-clause-along
returns-clause-along g c = ok_map _ _ c.share_pages.result (λ along told parent top.
    let v = g.P.Pages.view in
    let old = v c.args.pages.now in
    let one = v c.load.new.pages in
    let mid = v c.load-2.new.pages in
    let reads = c.in-Ok.ensures.reads in
    let still : IsTrue one.is_told = subst IsTrue (sym reads.counts.told) told in
    let reads_too = c.in-Ok-load.ensures.reads in
    let again : IsTrue mid.is_told = subst IsTrue (sym reads_too.counts.told) still in
    let same_too = reads_too.same (λ failed. failed) still in
    let same = same_twice old one mid (reads.same (λ failed. failed) told) same_too in
    let page = c.args.page in
    let left : c.load.new.buf ≡ mid.page (child_in c.args.parent.now c.args.i) =
    c.in-Ok.ensures.bytes told ∙ ap old.page c.child_at.ensures ∙ (λ j. sym same.pages j (child_in c.args.parent.now c.args.i)) in
    let right : c.load-2.new.buf ≡ mid.page (child_in c.args.parent.now (c.args.i + 1)) =
    c.in-Ok-load.ensures.bytes still ∙ ap one.page c.child_at-2.ensures ∙ (λ j. sym same_too.pages j (child_in c.args.parent.now (c.args.i + 1))) in
    let is_left = c.in-Ok.ensures.own.0 in
    let is_right = c.in-Ok-load.ensures.own.0 in
    along_over 0 old mid (v c.share_pages.new.pages) same
    (along again (none_free Inner mid page c.args.parent.now (parent ∙ (λ j. sym same.pages j page)) top)
    (none_free Leaf mid (child_in c.args.parent.now c.args.i) c.load.new.buf left is_left)
    (none_free Leaf mid (child_in c.args.parent.now (c.args.i + 1)) c.load-2.new.buf right is_right) top is_left is_right))
    c.share_pages.ensures.along
