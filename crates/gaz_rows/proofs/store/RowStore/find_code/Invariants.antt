use Rattle.std.proofs.Common.{◌≡◌, ◌+◌, ◌*◌, length, Ok}
use Rattle.gaz_scan.specs.Scan.{tree_of}
use Rattle.gaz_rows.specs.Store.{HasAsked}
use Rattle.gaz_rows.specs.Found.{OverRange}
use Rattle.gaz_rows.proofs.Searched.{ArePassed}
use Rattle.gaz_rows.proofs.store.RowStore.find_code.Given as goal

abbrev pub invariant-loop-turn : goal.invariant-loop-turn
invariant-loop-turn g l = record {
  passed : OverRange l.fn.self.root.counts.codes (g.P.Pages.view l.fn.self.pages) l.fn.scan (λ left. ArePassed l._turn l.free l.code (g.P.Pages.view l.fn.self.pages).page (g.P.Pages.view l.self.pages).page l.scan left);
  asked : HasAsked {T = Unit} ((2 * (tree_of l.fn.scan).height + 17) * l._turn) (g.P.Pages.view l.fn.self.pages) (g.P.Pages.view l.self.pages) (Ok tt);
  tree : tree_of l.scan ≡ tree_of l.fn.scan;
  size : length l.buf ≡ length l.fn.buf;
  root : l.self.root ≡ l.fn.self.root;
  keeps : g.P.Pages.keeps l.fn.self.pages l.self.pages;
}
