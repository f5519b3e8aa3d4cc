use Rattle.std.proofs.Common.{◌≡◌, length, take, Ok}
use Rattle.gaz_pick.specs.Asked.{asked}
use Rattle.gaz_kin.specs.Over.{HasOnlyAsked, OverStore}
use Rattle.gaz_plan.specs.Gathered.{AreLedTo, is_gathered}
use Rattle.gaz_plan.specs.Seen.{SeesMore}
use Rattle.gaz_plan.proofs.Sorted.{HasVisited}
use Rattle.gaz_plan.proofs.gather.offer_sorted.Given as goal

-- the rows of the candidates so far were offered, those of each place once
abbrev pub invariant-loop-at : goal.invariant-loop-at
invariant-loop-at g l = record {
  keep : l.best.keep ≡ l.fn.best.keep;
  more : OverStore (g.P.Pages.view l.fn.store.pages) l.fn.store.root (λ gaz. AreLedTo gaz (asked l.query) l.candidates
      → SeesMore gaz (asked l.query) l.fn.best.keep (is_gathered (asked l.query) (take l.at l.candidates)) l.fn.best.pairs l.best.pairs);
  visited : OverStore (g.P.Pages.view l.fn.store.pages) l.fn.store.root (λ gaz. HasVisited l.candidates l.at (g.P.Pages.view l.fn.store.pages).reads (g.P.Pages.view l.store.pages).reads);
  asked : HasOnlyAsked {T = Unit} (g.P.Pages.view l.fn.store.pages) (g.P.Pages.view l.store.pages) (Ok tt);
  size : length l.buf ≡ length l.fn.buf;
  root : l.store.root ≡ l.fn.store.root;
  keeps : g.P.Pages.keeps l.fn.store.pages l.store.pages;
}
