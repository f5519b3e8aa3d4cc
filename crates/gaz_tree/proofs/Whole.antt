-- A put into a whole tree: what it makes of it.
use Rattle.std.proofs.Common.{◌≡◌, ◌<◌, ◌+◌, ◌-◌, ◌^◌, ℕ, List, Ok, ◌∙◌, ap, arith}
use Rattle.std.specs.Prelude.{Result}
use Rattle.gaz_page.specs.declared.pages.PageFault.{PageFault}
use Rattle.gaz_page.specs.Pages.{PagesView}
use Rattle.gaz_leaf.specs.Node.{Pair}
use Rattle.gaz_tree.specs.declared.grown.Half.{Half}
use Rattle.gaz_tree.specs.declared.grown.Grown.{Grown}
use Rattle.gaz_tree.specs.declared.grown.Grown.TheVariants.{Same, Kept, Split}
use Rattle.gaz_tree.specs.declared.tree.Tree.{Tree}
use Rattle.gaz_tree.specs.Pairs.{lookup}
use Rattle.gaz_tree.specs.Stands.{Stands, OfTree, IsRooted, IsWith}
use Rattle.gaz_tree.proofs.Fans.{reaches_itself}
use Rattle.gaz_tree.proofs.Trading.{few_same}
use Rattle.gaz_tree.proofs.Roots.{PutsBelow, at_level, below_put, kept_few, rooted_few, stands_same, stands_kept, stands_rooted, same_changes, rooted_changes, kept_trades, same_trades, rooted_trades}

-- the topmost page stands where it stood
pub with_kept : (old new : PagesView) (tree : Tree) (p : Pair) (pairs : List Pair) (result : Result Grown PageFault) → result ≡ Ok Kept → p.key < 2 ^ 256 → PutsBelow old new tree p result → Stands old tree pairs → IsWith old new tree tree p pairs
with_kept old new tree p pairs result is fits puts s =
    let h = below_put old new tree p pairs result (Ok Kept) s fits is puts in
    record {
      stands = stands_kept old new tree p pairs s h;
      same = λ there. absurd (h.differs (ap (lookup p.key) (at_level old tree pairs s).holds ∙ there));
      others = h.changes;
      trades = kept_trades old new (tree.height - 1) tree.top p h;
      takes = kept_few old new tree p pairs s h;
    }

-- nothing was written
pub with_same : (old new : PagesView) (tree : Tree) (p : Pair) (pairs : List Pair) (result : Result Grown PageFault) → result ≡ Ok Same → p.key < 2 ^ 256 → PutsBelow old new tree p result → Stands old tree pairs → IsWith old new tree tree p pairs
with_same old new tree p pairs result is fits puts s =
    let h = below_put old new tree p pairs result (Ok Same) s fits is puts in
    record {
      stands = stands_same old new tree p pairs s h;
      same = λ there. (h.0, h.2);
      others = same_changes (OfTree old.page tree) old new h.0;
      trades = same_trades old new tree h.0;
      takes = few_same 7 old new h.0;
    }

-- a page was taken above the topmost one and the one that was split off from it
pub with_root : (old mid new : PagesView) (tree : Tree) (number : ℕ) (p : Pair) (pairs : List Pair) (half : Half) (result : Result Grown PageFault) → result ≡ Ok (Split half) → p.key < 2 ^ 256 → PutsBelow old mid tree p result
    → tree.height < 6 → IsRooted mid new tree.top half number → Stands old tree pairs → IsWith old new tree (record { top = number; height = tree.height + 1 }) p pairs
with_root old mid new tree number p pairs half result is fits puts less r s =
    let h = below_put old mid tree p pairs result (Ok (Split half)) s fits is puts in
    let first = s.lies tree.top (reaches_itself old.page (tree.height - 1) tree.top) in
    let tall = s.top.tall in
    record {
      stands = stands_rooted old mid new tree number p pairs half less s h r;
      same = λ there. absurd (h.differs (ap (lookup p.key) (at_level old tree pairs s).holds ∙ there));
      others = rooted_changes (OfTree old.page tree) old mid new tree.top number half h.changes r;
      trades = rooted_trades old mid new tree number p half (omega (arith, first.start, first.end)) h r (λ none. omega (arith, none, tall));
      takes = rooted_few old mid new tree number p pairs half s h r;
    }
