use Rattle.std.proofs.Common.{◌≡◌, ◌≤◌, ◌<◌, ◌+◌, ◌-◌, ◌++◌, ◌∙◌, ℕ, List, take, drop, None, sym, ap, subst, arith, inl}
use Rattle.std.specs.Prelude.{IsTrue}
use Rattle.gaz_page.specs.Pages.{PagesView, Writes}
use Rattle.gaz_page.proofs.PageMaps.{with_same}
use Rattle.gaz_leaf.specs.declared.kind.Kind.TheVariants.{Leaf}
use Rattle.gaz_leaf.specs.Node.{IsForm, pairs_in, count_of, key_in}
use Rattle.gaz_leaf.proofs.PairEdits.{pairs_cut}
use Rattle.gaz_tree.specs.Pairs.{Within, lookup, without}
use Rattle.gaz_tree.specs.Tree.{IsHead}
use Rattle.gaz_tree.specs.Put.{HasChain}
use Rattle.gaz_tree.specs.Remove.{HasRemoved, IsCutAt}
use Rattle.gaz_tree.specs.declared.shrunk.Shrunk.{Shrunk}
use Rattle.gaz_tree.proofs.Named.{since_leaf, copy_fine}
use Rattle.gaz_tree.proofs.Ways.{searched_none}
use Rattle.gaz_tree.proofs.Answered.{chain_same}
use Rattle.gaz_tree.proofs.Thinned.{leaf_removed}
use Rattle.gaz_tree.proofs.Removes.{removed_over, searched_cut}
use Rattle.gaz_leaf.specs.Node.{IsPage}
use Rattle.gaz_leaf.proofs.Keys.{not_below}
use Rattle.gaz_tree.proofs.remove.remove_leaf.Goals as goal

pub returns-then-next-eq0-clause-removes : goal.returns-then-next-eq0-clause-removes
returns-then-next-eq0-clause-removes g c told low high head lo hi chain =
    let reads = c.in-Ok.ensures.reads in
    let bytes = c.in-Ok.ensures.bytes told in
    let key = key_in c.args.key in (
      reads.same (λ failed. failed) told,
      subst (λ (l : List ℕ). lookup key (pairs_in Leaf l) ≡ None) bytes
          (searched_none key c.first_above-next.result low high c.load.new.buf c.first_above-next.ensures lo hi
          (λ some. let none = c.if-next-eq0.true in absurd (omega arith))
          (subst (λ (l : List ℕ). Within low high (pairs_in Leaf l)) (sym bytes) head.1)),
      reads.unchanged,
    )

pub returns-then-is_below-clause-removes : goal.returns-then-is_below-clause-removes
returns-then-is_below-clause-removes g c told low high head lo hi chain =
    let reads = c.in-Ok.ensures.reads in
    let bytes = c.in-Ok.ensures.bytes told in
    let key = key_in c.args.key in (
      reads.same (λ failed. failed) told,
      subst (λ (l : List ℕ). lookup key (pairs_in Leaf l) ≡ None) bytes
          (searched_none key c.first_above-next.result low high c.load.new.buf c.first_above-next.ensures lo hi
          (λ some. subst (λ (k : ℕ). k < key) c.key_at.ensures (c.is_below.ensures.0 c.if-is_below.true))
          (subst (λ (l : List ℕ). Within low high (pairs_in Leaf l)) (sym bytes) head.1)),
      reads.unchanged,
    )

-- the key is cut out of the leaf
leaf_cut : (mid new : PagesView) (page low high key n : ℕ) (buf bytes : List ℕ) → IsHead mid.page 0 page low high → HasChain mid → buf ≡ mid.page page → IsCutAt (pairs_in Leaf buf) key n
    → pairs_in Leaf bytes ≡ take n (pairs_in Leaf buf) ++ drop (n + 1) (pairs_in Leaf buf) → ((m : ℕ) → IsForm Leaf m buf → IsForm Leaf m bytes) → Writes page bytes mid new
    → HasRemoved mid new 0 page low high key
leaf_cut mid new page low high key n buf bytes head chain is cut shows form writes =
    let at = subst (λ (l : List ℕ). IsCutAt (pairs_in Leaf l) key n) is cut in
    leaf_removed mid new page low high key head chain at.1 (record {
      bytes = bytes;
      writes = writes;
      form = form page (subst (IsForm Leaf page) (sym is) head.0);
      shows = shows ∙ sym cut.0 ∙ ap (λ (l : List ℕ). without key (pairs_in Leaf l)) is;
    })

pub returns-then-count-least-clause-removes : goal.returns-then-count-least-clause-removes
returns-then-count-least-clause-removes g c told low high head lo hi chain =
    let v = g.P.Pages.view in
    let old = v c.args.pages.now in
    let mid = v c.load.new.pages in
    let reads = c.in-Ok.ensures.reads in
    let same = reads.same (λ failed. failed) told in
    let still : IsTrue mid.is_told = subst IsTrue (sym reads.counts.told) told in
    let bytes = c.in-Ok.ensures.bytes told in
    let page = c.args.page in
    let key = key_in c.args.key in
    let n = c.first_above-next.result in
    let some = c.if-next-eq0.false in
    let next : n ≡ n - 1 + 1 = omega arith in
    let w = subst (λ (l : List ℕ). Within low high (pairs_in Leaf l)) (sym bytes) head.1 in
    let above = subst (λ (k : ℕ). key ≤ k) c.key_at.ensures (not_below (key_in c.key_at.result) key c.is_below.result c.is_below.ensures c.if-is_below.false) in
    removed_over old mid (v c.write.new.self) 0 page low high key same
    (leaf_cut mid (v c.write.new.self) page low high key (n - 1) c.load.new.buf c.cut.new.page
    (subst (λ (m : ℕ → List ℕ). IsHead m 0 page low high) (sym same.pages) head) (chain_same old mid same chain)
    (bytes ∙ (λ j. sym same.pages j page)) (searched_cut key n low high c.load.new.buf c.first_above-next.ensures (omega arith) above w)
    (pairs_cut Leaf (n - 1) n c.load.new.buf c.cut.new.page c.cut.ensures.entries ∙ ap (λ (k : ℕ). take (n - 1) (pairs_in Leaf c.load.new.buf) ++ drop k (pairs_in Leaf c.load.new.buf)) next)
    c.cut.ensures.form (c.in-Ok-write.ensures.written still))

pub returns-clause-removes : goal.returns-clause-removes
returns-clause-removes g c told low high head lo hi chain =
    let v = g.P.Pages.view in
    let old = v c.args.pages.now in
    let mid = v c.load.new.pages in
    let reads = c.in-Ok.ensures.reads in
    let same = reads.same (λ failed. failed) told in
    let still : IsTrue mid.is_told = subst IsTrue (sym reads.counts.told) told in
    let bytes = c.in-Ok.ensures.bytes told in
    let page = c.args.page in
    let key = key_in c.args.key in
    let n = c.first_above-next.result in
    let some = c.if-next-eq0.false in
    let next : n ≡ n - 1 + 1 = omega arith in
    let w = subst (λ (l : List ℕ). Within low high (pairs_in Leaf l)) (sym bytes) head.1 in
    let above = subst (λ (k : ℕ). key ≤ k) c.key_at.ensures (not_below (key_in c.key_at.result) key c.is_below.result c.is_below.ensures c.if-is_below.false) in
    let written = c.in-Ok-write.ensures.written still in
    let here : (v c.write.new.self).page page ≡ c.cut.new.page = (λ j. written.pages j page) ∙ with_same page c.cut.new.page mid.page in (
      removed_over old mid (v c.write.new.self) 0 page low high key same
          (leaf_cut mid (v c.write.new.self) page low high key (n - 1) c.load.new.buf c.cut.new.page
          (subst (λ (m : ℕ → List ℕ). IsHead m 0 page low high) (sym same.pages) head) (chain_same old mid same chain)
          (bytes ∙ (λ j. sym same.pages j page)) (searched_cut key n low high c.load.new.buf c.first_above-next.ensures (omega arith) above w)
          (pairs_cut Leaf (n - 1) n c.load.new.buf c.cut.new.page c.cut.ensures.entries ∙ ap (λ (k : ℕ). take (n - 1) (pairs_in Leaf c.load.new.buf) ++ drop k (pairs_in Leaf c.load.new.buf)) next)
          c.cut.ensures.form written),
      inl (let a = c.if-count-least.false in let b = c.least.ensures in let d = c.in-Ok.ensures.count in let e = c.cut.ensures.count in let f = ap count_of here in omega arith),
    )

pub returns-in-Err-clause-fine : goal.returns-in-Err-clause-fine
returns-in-Err-clause-fine g c told low high head =
    let old = g.P.Pages.view c.args.pages.now in
    copy_fine Leaf c.args.page (old.page c.args.page) old.is_told c.in-Err.fault told head.0 c.in-Err.ensures.unfit

pub returns-in-Err-clause-names : goal.returns-in-Err-clause-names
returns-in-Err-clause-names g c told =
    let v = g.P.Pages.view in
    let old = v c.args.pages.now in
    since_leaf Shrunk old.page (v c.load.new.pages).page c.args.page old.is_told c.in-Err.fault told c.in-Err.ensures.unfit

pub returns-then-next-eq0-clause-own : goal.returns-then-next-eq0-clause-own
returns-then-next-eq0-clause-own g c told = subst (IsPage Leaf c.args.page) (c.in-Ok.ensures.bytes told) c.in-Ok.ensures.own

pub returns-then-is_below-clause-own : goal.returns-then-is_below-clause-own
returns-then-is_below-clause-own g c told = subst (IsPage Leaf c.args.page) (c.in-Ok.ensures.bytes told) c.in-Ok.ensures.own

pub returns-then-count-least-clause-own : goal.returns-then-count-least-clause-own
returns-then-count-least-clause-own g c told = subst (IsPage Leaf c.args.page) (c.in-Ok.ensures.bytes told) c.in-Ok.ensures.own

pub returns-clause-own : goal.returns-clause-own
returns-clause-own g c told = subst (IsPage Leaf c.args.page) (c.in-Ok.ensures.bytes told) c.in-Ok.ensures.own
