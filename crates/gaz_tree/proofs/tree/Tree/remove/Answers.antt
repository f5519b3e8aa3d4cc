use Rattle.std.proofs.Common.{◌≡◌, ◌-◌, ◌^◌, ◌∙◌, ℕ, List, sym, ap, subst, arith}
use Rattle.std.specs.Prelude.{IsTrue, Ok}
use Rattle.gaz_leaf.specs.Node.{count_of, key_of, key_in}
use Rattle.gaz_tree.specs.declared.shrunk.Shrunk.{Shrunk}
use Rattle.gaz_tree.specs.declared.shrunk.Shrunk.TheVariants.{Absent, Fine, Low}
use Rattle.gaz_tree.specs.Remove.{child_in}
use Rattle.gaz_tree.proofs.Roots.{at_level}
use Rattle.gaz_tree.proofs.Removes.{removed_then}
use Rattle.gaz_tree.proofs.Lowered.{below_removed, without_absent, without_fine, without_kept, leaf_two, other_two, lowered}
use Rattle.std.proofs.Common.{suc, refl}
use Rattle.std.specs.Prelude.{Result, Err, Bool}
use Rattle.gaz_page.specs.declared.pages.PageFault.{PageFault}
use Rattle.gaz_page.specs.declared.pages.PageFault.TheVariants.{Damaged}
use Rattle.gaz_leaf.specs.declared.kind.Kind.{Kind}
use Rattle.gaz_leaf.specs.declared.kind.Kind.TheVariants.{Inner}
use Rattle.gaz_leaf.specs.Node.{IsForm}
use Rattle.gaz_tree.specs.Tree.{kind_at}
use Rattle.gaz_tree.specs.Calls.{NamesSinceOf}
use Rattle.gaz_tree.proofs.Changed.{head_form}
use Rattle.gaz_tree.proofs.Named.{since_whole, since_failed, since_top, since_fine, copy_fine, read_same}
use Rattle.gaz_page.specs.Pages.{PagesView}
use Rattle.gaz_leaf.specs.Node.{Pair}
use Rattle.gaz_tree.specs.declared.tree.Tree.{Tree}
use Rattle.gaz_tree.specs.Stands.{Stands}
use Rattle.gaz_tree.specs.Remove.{HasRemoved}
use Rattle.gaz_tree.proofs.tree.Tree.remove.Given.{Over}
use Rattle.gaz_tree.proofs.tree.Tree.remove.Goals.{In-Ok, In-Ok-Low}
use Rattle.gaz_tree.proofs.tree.Tree.remove.Goals as goal

-- the key was taken out below the topmost page, which has lost an entry
low : (g : Over) (c : In-Ok-Low g) (pairs : List Pair) → IsTrue (g.P.Pages.view c.args.pages.now).is_told → Stands (g.P.Pages.view c.args.pages.now) c.args.self.now pairs
    → HasRemoved (g.P.Pages.view c.args.pages.now) (g.P.Pages.view c.remove_below.new.pages) (c.args.self.now.height - 1) c.args.self.now.top 0 (2 ^ 256) (key_of c.args.key.now)
low g c pairs told s =
    let v = g.P.Pages.view in
    below_removed (v c.args.pages.now) (v c.remove_below.new.pages) c.args.self.now (key_of c.args.key.now) (key_in c.read.result) pairs (Ok c.in-Ok-Low.field-0) (Ok Low) s c.read.ensures.is c.read.ensures.fits
    (ap (λ (f : Shrunk). Ok f) c.in-Ok-Low.field-0-is) (c.in-Ok-Low.ensures.removes told)

-- the topmost page was read then
record IsCounted (old last : PagesView) (tree : Tree) (key entries : ℕ) (buf : List ℕ) : Type 0 where
  pub still : IsTrue last.is_told
  pub bytes : buf ≡ last.page tree.top
  pub count : entries ≡ count_of (last.page tree.top)
  pub then : HasRemoved old last (tree.height - 1) tree.top 0 (2 ^ 256) key

counted : (g : Over) (c : In-Ok g) (removed : HasRemoved (g.P.Pages.view c.args.pages.now) (g.P.Pages.view c.remove_below.new.pages) (c.args.self.now.height - 1) c.args.self.now.top 0 (2 ^ 256) (key_of c.args.key.now))
    → IsTrue (g.P.Pages.view c.args.pages.now).is_told → IsCounted (g.P.Pages.view c.args.pages.now) (g.P.Pages.view c.load.new.pages) c.args.self.now (key_of c.args.key.now) c.in-Ok.count c.load.new.buf
counted g c removed told =
    let v = g.P.Pages.view in
    let old = v c.args.pages.now in
    let mid = v c.remove_below.new.pages in
    let last = v c.load.new.pages in
    let tree = c.args.self.now in
    let reads = c.in-Ok.ensures.reads in
    let still : IsTrue mid.is_told = subst IsTrue (sym c.remove_below.ensures.counts.told) told in
    let same = reads.same (λ failed. failed) still in
    let bytes : c.load.new.buf ≡ last.page tree.top = c.in-Ok.ensures.bytes still ∙ (λ j. sym same.pages j tree.top) in
    record {
      still = subst IsTrue (sym reads.counts.told) still;
      bytes = bytes;
      count = c.in-Ok.ensures.count ∙ ap count_of bytes;
      then = removed_then old mid last (tree.height - 1) tree.top 0 (2 ^ 256) (key_of c.args.key.now) same removed;
    }

pub returns-in-Ok-Absent-clause-removed : goal.returns-in-Ok-Absent-clause-removed
returns-in-Ok-Absent-clause-removed g c told pairs s =
    let v = g.P.Pages.view in
    let old = v c.args.pages.now in
    let mid = v c.remove_below.new.pages in
    let tree = c.args.self.now in
    let key = key_of c.args.key.now in
    let removed = below_removed old mid tree key (key_in c.read.result) pairs (Ok c.in-Ok-Absent.field-0) (Ok Absent) s c.read.ensures.is c.read.ensures.fits (ap (λ (f : Shrunk). Ok f) c.in-Ok-Absent.field-0-is)
    (c.in-Ok-Absent.ensures.removes told) in
    without_absent old mid tree key pairs s removed

pub returns-in-Ok-Fine-clause-removed : goal.returns-in-Ok-Fine-clause-removed
returns-in-Ok-Fine-clause-removed g c told pairs s =
    let v = g.P.Pages.view in
    let old = v c.args.pages.now in
    let mid = v c.remove_below.new.pages in
    let tree = c.args.self.now in
    let key = key_of c.args.key.now in
    let removed = below_removed old mid tree key (key_in c.read.result) pairs (Ok c.in-Ok-Fine.field-0) (Ok Fine) s c.read.ensures.is c.read.ensures.fits (ap (λ (f : Shrunk). Ok f) c.in-Ok-Fine.field-0-is)
    (c.in-Ok-Fine.ensures.removes told) in
    without_fine old mid tree key pairs s removed

pub returns-then-self-eq1-clause-removed : goal.returns-then-self-eq1-clause-removed
returns-then-self-eq1-clause-removed g c told pairs s =
    let v = g.P.Pages.view in
    let mid = v c.remove_below.new.pages in
    let tree = c.args.self.now in
    let one = c.if-self-eq1.true in
    without_kept (v c.args.pages.now) mid tree (key_of c.args.key.now) pairs s (low g (goal.at.returns-then-self-eq1-clause-removed g c).In-Ok-Low pairs told s) (leaf_two mid (tree.height - 1) tree.top (omega arith))

pub returns-then-count-ne1-clause-removed : goal.returns-then-count-ne1-clause-removed
returns-then-count-ne1-clause-removed g c told pairs s =
    let v = g.P.Pages.view in
    let last = v c.load.new.pages in
    let tree = c.args.self.now in
    let at = goal.at.returns-then-count-ne1-clause-removed g c in
    let n = counted g at.In-Ok (low g at.In-Ok-Low pairs told s) told in
    without_kept (v c.args.pages.now) last tree (key_of c.args.key.now) pairs s n.then (other_two last (tree.height - 1) tree.top 0 (2 ^ 256) c.in-Ok.count n.then.head n.count c.if-count-ne1.true)

pub returns-clause-removed : goal.returns-clause-removed
returns-clause-removed g c told pairs s =
    let v = g.P.Pages.view in
    let at = goal.at.returns-clause-removed g c in
    let n = counted g at.In-Ok (low g at.In-Ok-Low pairs told s) told in
    let one = c.if-count-ne1.false in
    lowered (v c.args.pages.now) (v c.load.new.pages) (v c.give.new.self) c.args.self.now c.child_at-self.result (key_of c.args.key.now) pairs c.if-self-eq1.false s n.then (sym n.count ∙ one)
    (c.child_at-self.ensures ∙ ap (λ (l : List ℕ). child_in l 0) n.bytes) (c.in-Ok-give.ensures.given n.still)

pub returns-then-self-eq0-clause-damaged : goal.returns-then-self-eq0-clause-damaged
returns-then-self-eq0-clause-damaged g c told pairs s = let tall = s.top.tall in let none = c.if-self-eq0.true in absurd (omega arith)

pub returns-in-Err-clause-damaged : goal.returns-in-Err-clause-damaged
returns-in-Err-clause-damaged g c told pairs s =
    let a = at_level (g.P.Pages.view c.args.pages.now) c.args.self.now pairs s in
    c.in-Err.ensures.fine told 0 (2 ^ 256) a.head a.two (omega arith) c.read.ensures.fits a.lies a.chain

pub returns-in-Err-load-clause-damaged : goal.returns-in-Err-load-clause-damaged
returns-in-Err-load-clause-damaged g c told pairs s =
    let v = g.P.Pages.view in
    let old = v c.args.pages.now in
    let mid = v c.remove_below.new.pages in
    let tree = c.args.self.now in
    let key = key_of c.args.key.now in
    let removed = below_removed old mid tree key (key_in c.read.result) pairs (Ok c.in-Ok-Low.field-0) (Ok Low) s c.read.ensures.is c.read.ensures.fits (ap (λ (f : Shrunk). Ok f) c.in-Ok-Low.field-0-is)
    (c.in-Ok-Low.ensures.removes told) in
    let still : IsTrue mid.is_told = subst IsTrue (sym c.remove_below.ensures.counts.told) told in
    let tall = s.top.tall in
    let more = c.if-self-eq1.false in
    let level : tree.height - 1 ≡ suc (tree.height - 2) = omega arith in
    let form = subst (λ (k : Kind). IsForm k tree.top (mid.page tree.top)) (ap kind_at level) (head_form mid.page (tree.height - 1) tree.top 0 (2 ^ 256) removed.head) in
    copy_fine Inner tree.top (mid.page tree.top) mid.is_told c.in-Err-load.fault still form c.in-Err-load.ensures.unfit

pub returns-then-self-eq0-clause-names : goal.returns-then-self-eq0-clause-names
returns-then-self-eq0-clause-names g c told =
    let pages = (g.P.Pages.view c.args.pages.now).page in
    let damaged : Result Bool PageFault = Err (Damaged c.args.self.now.top) in
    subst (λ (h : ℕ). NamesSinceOf pages pages h c.args.self.now.top damaged) (sym c.if-self-eq0.true) refl

pub returns-in-Err-clause-names : goal.returns-in-Err-clause-names
returns-in-Err-clause-names g c told =
    let v = g.P.Pages.view in
    let old = (v c.args.pages.now).page in
    let new = (v c.remove_below.new.pages).page in
    let tree = c.args.self.now in
    let some = c.if-self-eq0.false in
    let tall : tree.height ≡ suc (tree.height - 1) = omega arith in
    let result : Result Bool PageFault = Err c.in-Err.fault in
    since_whole old new tree.height (tree.height - 1) tree.top result tall (since_failed Shrunk Bool old new (tree.height - 1) tree.top c.in-Err.fault (c.in-Err.ensures.names told))

pub returns-in-Err-load-clause-names : goal.returns-in-Err-load-clause-names
returns-in-Err-load-clause-names g c told =
    let v = g.P.Pages.view in
    let mid = v c.remove_below.new.pages in
    let new = v c.load.new.pages in
    let tree = c.args.self.now in
    let still : IsTrue mid.is_told = subst IsTrue (sym c.remove_below.ensures.counts.told) told in
    let some = c.if-self-eq0.false in
    let more = c.if-self-eq1.false in
    let tall : tree.height ≡ suc (suc (tree.height - 2)) = omega arith in
    since_top Bool (v c.args.pages.now).page mid.page new.page tree.height (tree.height - 2) tree.top mid.is_told c.in-Err-load.fault tall
    (read_same 1 mid new c.in-Err-load.fault c.in-Err-load.ensures.reads still) still c.in-Err-load.ensures.unfit

pub returns-in-Err-give-clause-names : goal.returns-in-Err-give-clause-names
returns-in-Err-give-clause-names g c told =
    let v = g.P.Pages.view in
    let tree = c.args.self.now in
    let some = c.if-self-eq0.false in
    let tall : tree.height ≡ suc (tree.height - 1) = omega arith in
    since_fine Bool (v c.args.pages.now).page (v c.give.new.self).page tree.height (tree.height - 1) tree.top c.in-Err-give.fault tall c.in-Err-give.ensures.fault
