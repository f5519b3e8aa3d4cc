use Rattle.std.proofs.Common.{◌≡◌, ◌-◌, ◌^◌, ◌∙◌, ℕ, refl, sym, subst, arith, ap}
use Rattle.gaz_leaf.specs.Node.{key_of, key_in}
use Rattle.gaz_tree.specs.Tree.{IsHead, tree_pairs}
use Rattle.gaz_tree.specs.Pairs.{lookup}
use Rattle.std.proofs.Common.{suc}
use Rattle.gaz_tree.specs.Calls.{NamesOf}
use Rattle.std.specs.Prelude.{Result, Err, Option}
use Rattle.gaz_page.specs.declared.pages.PageFault.{PageFault}
use Rattle.gaz_page.specs.declared.pages.PageFault.TheVariants.{Damaged}
use Rattle.gaz_tree.proofs.Gets.{got_same}
use Rattle.gaz_tree.proofs.Named.{names_whole}
use Rattle.std.specs.Prelude.{IfOk, IsTrue}
use Rattle.gaz_tree.specs.Tree.{leaf_of}
use Rattle.gaz_tree.specs.Calls.{LeadsDown, StandsIn}
use Rattle.gaz_tree.proofs.tree.Tree.get.Goals as goal

pub returns-then-self-eq0-clause-got : goal.returns-then-self-eq0-clause-got
returns-then-self-eq0-clause-got g c told pairs top = let tall = top.tall in let none = c.if-self-eq0.true in absurd (omega arith)

pub returns-then-self-eq0-clause-reads : goal.returns-then-self-eq0-clause-reads
returns-then-self-eq0-clause-reads g c = record {
  same = λ fine told. record { pages = refl; free = refl; fresh = refl };
  counts = record { told = refl; read_only = refl; reads_grow = omega arith; reads = omega arith; changed = omega arith };
  unchanged = refl;
  cause = record { grows = omega arith; counted = refl; starved = refl };
}

pub returns-then-self-eq0-clause-keeps : goal.returns-then-self-eq0-clause-keeps
returns-then-self-eq0-clause-keeps g c = g.met.P.Pages.keeps_same c.args.pages.now

pub returns-clause-got : goal.returns-clause-got
returns-clause-got g c told pairs top =
    let pages = (g.P.Pages.view c.args.pages.now).page in
    let tall = top.tall in
    let level : top.level ≡ c.args.self.height - 1 = omega arith in
    let head = subst (λ (l : ℕ). IsHead pages l c.args.self.top 0 (2 ^ 256)) level top.head in
    let holds = ap (λ (l : ℕ). tree_pairs pages l c.args.self.top) (sym level) ∙ top.holds in
    got_same (lookup (key_of c.args.key.now) pairs) (lookup (key_in c.read.result) (tree_pairs pages (c.args.self.height - 1) c.args.self.top)) c.get_below.result
    (sym ((λ i. lookup (c.read.ensures.is i) (holds i))))
    (c.get_below.ensures.got told 0 (2 ^ 256) head (omega arith) c.read.ensures.fits)

pub returns-then-self-eq0-clause-names : goal.returns-then-self-eq0-clause-names
returns-then-self-eq0-clause-names g c told =
    let damaged : Result (Option ℕ) PageFault = Err (Damaged c.args.self.top) in
    subst (λ (h : ℕ). NamesOf (g.P.Pages.view c.args.pages.now).page h c.args.self.top damaged) (sym c.if-self-eq0.true) refl

pub returns-clause-names : goal.returns-clause-names
returns-clause-names g c told =
    let some = c.if-self-eq0.false in
    let tall : c.args.self.height ≡ suc (c.args.self.height - 1) = omega arith in
    names_whole (g.P.Pages.view c.args.pages.now).page c.args.self.height (c.args.self.height - 1) c.args.self.top c.get_below.result tall (c.get_below.ensures.names told)

pub returns-clause-down : goal.returns-clause-down
returns-clause-down g c =
    let v = g.P.Pages.view c.args.pages.now in
    let tree = c.args.self in
    subst (λ (k : ℕ). IfOk c.get_below.result (λ found. IsTrue v.is_told → LeadsDown v.page (λ leaf. StandsIn (leaf_of v.page leaf) k found) (tree.height - 1) tree.top)) c.read.ensures.is c.get_below.ensures.down
