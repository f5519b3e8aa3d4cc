use Rattle.std.proofs.Common.{◌≤◌}
use Rattle.std.specs.Prelude.{IsTrue}
use Rattle.gaz_heap.specs.Chain.{chain_at, long_enough}
use Rattle.gaz_heap.proofs.Pieces.{Rest}
use Rattle.gaz_heap.proofs.Asked.{AskedSoFar}
use Rattle.gaz_heap.proofs.heap.get_chain.Given as goal

abbrev pub invariant-loop-turn : goal.invariant-loop-turn
invariant-loop-turn g l = record {
  rest : IsTrue (g.P.Pages.view l.fn.pages).is_told → Rest l._turn (g.P.Pages.view l.fn.pages).page l.page l.at l.buf (long_enough (chain_at 17 (g.P.Pages.view l.fn.pages).page l.first));
  asked : AskedSoFar l._turn (g.P.Pages.view l.fn.pages) (g.P.Pages.view l.pages);
  keeps : g.P.Pages.keeps l.fn.pages l.pages;
  at : l.at ≤ 65535;
}
