use Rattle.std.proofs.Common.{◌≡◌, ◌≤◌, ◌+◌, ◌-◌, ◌*◌, length, filter, Ok}
use Rattle.gaz_box.specs.View.{edges_of}
use Rattle.gaz_pick.specs.Asked.{asked}
use Rattle.gaz_kin.specs.Over.{OverStore, HasOnlyAsked}
use Rattle.gaz_plan.specs.Seen.{SeesMore}
use Rattle.gaz_plan.specs.Boxes.{is_in_bands}
use Rattle.gaz_plan.proofs.boxes.offer_box.Given as goal

-- the rows of the bands so far were offered
abbrev pub invariant-loop-band : goal.invariant-loop-band
invariant-loop-band g l = record {
  keep : l.best.keep ≡ l.fn.best.keep;
  more : OverStore (g.P.Pages.view l.fn.store.pages) l.fn.store.root
      (λ gaz. SeesMore gaz (asked l.query) l.fn.best.keep (is_in_bands l.south l.band (edges_of l.edges)) l.fn.best.pairs l.best.pairs);
  from : l.south ≤ l.band;
  reads : OverStore (g.P.Pages.view l.fn.store.pages) l.fn.store.root
      (λ gaz. (g.P.Pages.view l.store.pages).reads ≤ (g.P.Pages.view l.fn.store.pages).reads + 64 * (length (filter (is_in_bands l.south l.band (edges_of l.edges)) gaz.rows) + 2 * (l.band - l.south)));
  asked : HasOnlyAsked {T = Unit} (g.P.Pages.view l.fn.store.pages) (g.P.Pages.view l.store.pages) (Ok tt);
  size : length l.buf ≡ length l.fn.buf;
  root : l.store.root ≡ l.fn.store.root;
  keeps : g.P.Pages.keeps l.fn.store.pages l.store.pages;
}
