use Rattle.std.proofs.Common.{inl, ◌≡◌, ◌+◌, ◌++◌, ◌∙◌, ℕ, List, refl, sym, ap, subst}
use Rattle.std.specs.Prelude.{IsTrue}
use Rattle.gaz_page.specs.Pages.{PagesView, SamePages}
use Rattle.gaz_leaf.specs.declared.kind.Kind.{Kind}
use Rattle.gaz_leaf.specs.Node.{IsForm, pairs_in}
use Rattle.gaz_tree.specs.Remove.{child_in, key_in_page, raised, both_in}
use Rattle.gaz_tree.proofs.Answered.{same_twice}
use Rattle.gaz_leaf.specs.declared.kind.Kind.TheVariants.{Inner}
use Rattle.gaz_leaf.specs.Node.{count_of}
use Rattle.gaz_tree.specs.declared.shrunk.Shrunk.{Shrunk}
use Rattle.std.proofs.Common.{arith}
use Rattle.gaz_tree.proofs.Ways.{child_there}
use Rattle.gaz_tree.proofs.Named.{child_unfit, child_fine, read_same}
use Rattle.gaz_tree.proofs.Removes.{ok_of}
use Rattle.gaz_tree.proofs.mend.mend_two.Goals as goal

-- what was read of the two
record IsRead (old mid : PagesView) (kind : Kind) (parent : List ℕ) (i : ℕ) (left right raised_right : List ℕ) : Type 0 where
  same : SamePages old mid
  left_is : left ≡ mid.page (child_in parent i)
  right_is : right ≡ mid.page (child_in parent (i + 1))
  both : pairs_in kind left ++ pairs_in kind raised_right ≡ both_in kind mid.page parent i

is_read : (old one mid : PagesView) (kind : Kind) (parent : List ℕ) (i first_page second_page key : ℕ) (left right raised_right : List ℕ) → SamePages old one → SamePages one mid
    → first_page ≡ child_in parent i → second_page ≡ child_in parent (i + 1) → left ≡ old.page first_page → right ≡ one.page second_page
    → key ≡ key_in_page parent (i + 1) → pairs_in kind raised_right ≡ raised kind key (pairs_in kind right) → IsRead old mid kind parent i left right raised_right
is_read old one mid kind parent i first_page second_page key left right raised_right same same_too at_first at_second left_was right_was key_is pairs =
    let both_same = same_twice old one mid same same_too in
    let left_is : left ≡ mid.page (child_in parent i) = left_was ∙ ap old.page at_first ∙ (λ j. sym both_same.pages j (child_in parent i)) in
    let right_is : right ≡ mid.page (child_in parent (i + 1)) = right_was ∙ ap one.page at_second ∙ (λ j. sym same_too.pages j (child_in parent (i + 1))) in
    record {
      same = both_same;
      left_is = left_is;
      right_is = right_is;
      both = (λ j. pairs_in kind (left_is j) ++ (pairs ∙ (λ k. raised kind (key_is k) (pairs_in kind (right_is k)))) j);
    }

pub returns-then-first-second-clause-mends : goal.returns-then-first-second-clause-mends
returns-then-first-second-clause-mends g c = ok_of _ c.join_pages.result (λ told parent.
    let v = g.P.Pages.view in
    let old = v c.args.pages.now in
    let reads = c.in-Ok.ensures.reads in
    let still : IsTrue (v c.load.new.pages).is_told = subst IsTrue (sym reads.counts.told) told in
    let reads_too = c.in-Ok-load.ensures.reads in
    let again : IsTrue (v c.load-2.new.pages).is_told = subst IsTrue (sym reads_too.counts.told) still in
    let r = is_read old (v c.load.new.pages) (v c.load-2.new.pages) c.args.kind c.args.parent.now c.args.i c.child_at.result c.child_at-2.result _ c.load.new.buf c.load-2.new.buf c.raise.new.right
    (reads.same (λ failed. failed) told) (reads_too.same (λ failed. failed) still) c.child_at.ensures c.child_at-2.ensures (c.in-Ok.ensures.bytes told) (c.in-Ok-load.ensures.bytes still) c.key_bytes.ensures c.raise.ensures.pairs in
    record {
      mid = v c.load-2.new.pages;
      same = r.same;
      mends = c.join_pages.ensures.mends again (parent ∙ (λ j. sym r.same.pages j c.args.page)) r.left_is r.both;
    })

pub returns-in-Ok-share_pages-clause-mends : goal.returns-in-Ok-share_pages-clause-mends
returns-in-Ok-share_pages-clause-mends g c told parent =
    let v = g.P.Pages.view in
    let old = v c.args.pages.now in
    let reads = c.in-Ok.ensures.reads in
    let still : IsTrue (v c.load.new.pages).is_told = subst IsTrue (sym reads.counts.told) told in
    let reads_too = c.in-Ok-load.ensures.reads in
    let again : IsTrue (v c.load-2.new.pages).is_told = subst IsTrue (sym reads_too.counts.told) still in
    let r = is_read old (v c.load.new.pages) (v c.load-2.new.pages) c.args.kind c.args.parent.now c.args.i c.child_at.result c.child_at-2.result _ c.load.new.buf c.load-2.new.buf c.raise.new.right
    (reads.same (λ failed. failed) told) (reads_too.same (λ failed. failed) still) c.child_at.ensures c.child_at-2.ensures (c.in-Ok.ensures.bytes told) (c.in-Ok-load.ensures.bytes still) c.key_bytes.ensures c.raise.ensures.pairs in
    record {
      mid = v c.load-2.new.pages;
      same = r.same;
      mends = inl (c.in-Ok-share_pages.ensures.shares again (parent ∙ (λ j. sym r.same.pages j c.args.page)) r.left_is
          (λ n f. c.raise.ensures.form n (subst (IsForm c.args.kind n) (sym r.right_is) f)) r.both);
    }

pub returns-in-Err-clause-names : goal.returns-in-Err-clause-names
returns-in-Err-clause-names g c told =
    let v = g.P.Pages.view in
    let old = v c.args.pages.now in
    let within = c.requires.within in
    child_unfit Shrunk c.args.kind (pairs_in Inner c.args.parent.now) c.child_at.result old.page old.page (v c.load.new.pages).page old.is_told c.in-Err.fault told refl
    (read_same 1 old (v c.load.new.pages) c.in-Err.fault c.in-Err.ensures.reads told)
    (child_there c.args.i c.child_at.result c.args.parent.now (omega arith) c.child_at.ensures) c.in-Err.ensures.unfit

pub returns-in-Err-load-clause-names : goal.returns-in-Err-load-clause-names
returns-in-Err-load-clause-names g c told =
    let v = g.P.Pages.view in
    let old = v c.args.pages.now in
    let mid = v c.load.new.pages in
    let reads = c.in-Ok.ensures.reads in
    let same = (reads.same (λ failed. failed) told).pages in
    let still : IsTrue mid.is_told = subst IsTrue (sym reads.counts.told) told in
    child_unfit Shrunk c.args.kind (pairs_in Inner c.args.parent.now) c.child_at-2.result old.page mid.page (v c.load-2.new.pages).page mid.is_told c.in-Err-load.fault still same
    (λ fine. read_same 1 mid (v c.load-2.new.pages) c.in-Err-load.fault c.in-Err-load.ensures.reads still fine ∙ same)
    (child_there (c.args.i + 1) c.child_at-2.result c.args.parent.now c.requires.within c.child_at-2.ensures) c.in-Err-load.ensures.unfit

pub returns-then-second-eq0-clause-names : goal.returns-then-second-eq0-clause-names
returns-then-second-eq0-clause-names g c told =
    let v = g.P.Pages.view in
    let old = v c.args.pages.now in
    let mid = v c.load.new.pages in
    let reads = c.in-Ok.ensures.reads in
    let same = (reads.same (λ failed. failed) told).pages in
    let still : IsTrue mid.is_told = subst IsTrue (sym reads.counts.told) told in
    let reads_too = c.in-Ok-load.ensures.reads in
    let page = c.child_at-then-second-eq0.result in
    let is : c.child_at-2.result ≡ page = c.child_at-2.ensures ∙ sym c.child_at-then-second-eq0.ensures in
    let bytes : c.load-2.new.buf ≡ old.page page = c.in-Ok-load.ensures.bytes still ∙ (λ j. same j c.child_at-2.result) ∙ ap old.page is in (
      (reads_too.same (λ failed. failed) still).pages ∙ same,
      child_there (c.args.i + 1) page c.args.parent.now c.requires.within c.child_at-then-second-eq0.ensures,
      λ form some. (let none = c.if-second-eq0.true in let count = c.in-Ok-load.ensures.count in let e = ap count_of bytes in omega arith),
    )

pub returns-then-first-second-clause-names : goal.returns-then-first-second-clause-names
returns-then-first-second-clause-names g c told =
    let v = g.P.Pages.view in
    child_fine c.args.kind (pairs_in Inner c.args.parent.now) (v c.args.pages.now).page (v c.join_pages.new.pages).page c.join_pages.result c.join_pages.ensures.fault
