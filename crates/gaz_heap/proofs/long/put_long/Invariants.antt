use Rattle.std.proofs.Common.{◌≡◌, ◌≢◌, ◌≤◌, ◌*◌, ◌-◌, ◌%◌, ℕ, List, length, drop}
use Rattle.std.specs.Prelude.{IsTrue}
use Rattle.gaz_page.specs.Chains.{IsFreeChain, TakesAlong}
use Rattle.gaz_heap.proofs.Changed.{ChangedSoFar}
use Rattle.gaz_heap.proofs.LongPuts.{Chaining}
use Rattle.gaz_heap.proofs.long.put_long.Given as goal

abbrev pub invariant-loop-turn : goal.invariant-loop-turn
invariant-loop-turn g l = record {
  changed : ChangedSoFar l._turn (2 * l._turn) (g.P.Pages.view l.fn.pages) (g.P.Pages.view l.pages);
  keeps : g.P.Pages.keeps l.fn.pages l.pages;
  end : l.end ≤ length l.bytes;
  room : l.end ≤ 4080 * (17 - l._turn);
  whole : l._turn ≢ 0 → l.end % 4080 ≡ 0;
  along : IsTrue (g.P.Pages.view l.fn.pages).is_told → TakesAlong l._turn (g.P.Pages.view l.fn.pages) (g.P.Pages.view l.pages);
  pieces : IsTrue (g.P.Pages.view l.fn.pages).is_told → (free : List ℕ) → 1 ≤ (g.P.Pages.view l.fn.pages).fresh → IsFreeChain (g.P.Pages.view l.fn.pages) (g.P.Pages.view l.fn.pages).free free → Chaining (g.P.Pages.view l.fn.pages) (g.P.Pages.view l.pages) free l.next l._turn (drop l.end l.bytes);
}
