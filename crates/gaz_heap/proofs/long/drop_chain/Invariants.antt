use Rattle.std.proofs.Common.{◌≡◌, ◌-◌, ℕ, List, Some}
use Rattle.std.specs.Prelude.{IsTrue}
use Rattle.gaz_heap.specs.Chain.{chain_at, chain_pages}
use Rattle.gaz_page.specs.Chains.{Each, InUse, IsFreeChain}
use Rattle.gaz_heap.specs.Facts.{Given}
use Rattle.gaz_heap.proofs.Changed.{ChangedSoFar}
use Rattle.gaz_heap.proofs.Walks.{Walked}
use Rattle.gaz_heap.proofs.long.drop_chain.Given as goal

abbrev pub invariant-loop-turn : goal.invariant-loop-turn
invariant-loop-turn g l = record {
  changed : ChangedSoFar l._turn l._turn (g.P.Pages.view l.fn.pages) (g.P.Pages.view l.pages);
  keeps : g.P.Pages.keeps l.fn.pages l.pages;
  walked : IsTrue (g.P.Pages.view l.fn.pages).is_told → Walked (g.P.Pages.view l.fn.pages) (g.P.Pages.view l.pages) l.first l.page l._turn;
  given : IsTrue (g.P.Pages.view l.fn.pages).is_told → (free bytes : List ℕ) → IsFreeChain (g.P.Pages.view l.fn.pages) (g.P.Pages.view l.fn.pages).free free → Each (InUse (g.P.Pages.view l.fn.pages)) (chain_pages 17 (g.P.Pages.view l.fn.pages).page l.first) → chain_at 17 (g.P.Pages.view l.fn.pages).page l.first ≡ Some bytes
      → Given (g.P.Pages.view l.fn.pages) (g.P.Pages.view l.pages) free (chain_pages 17 (g.P.Pages.view l.fn.pages).page l.first) (chain_pages (17 - l._turn) (g.P.Pages.view l.fn.pages).page l.page)
      × ((rest : List ℕ) × (chain_at (17 - l._turn) (g.P.Pages.view l.fn.pages).page l.page ≡ Some rest));
}
