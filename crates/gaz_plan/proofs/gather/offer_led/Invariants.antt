use Rattle.std.proofs.Common.{◌≡◌, length, Ok}
use Rattle.gaz_plain.specs.Gazetteer.{IsGazetteer}
use Rattle.gaz_pick.specs.Asked.{asked}
use Rattle.gaz_kin.specs.Over.{HasOnlyAsked}
use Rattle.gaz_plan.specs.Searched.{OverTagged}
use Rattle.gaz_plan.proofs.Gathering.{IsGathering}
use Rattle.gaz_plan.proofs.gather.offer_led.Given as goal

-- what the keys so far led to is gathered, or its rows were offered
abbrev pub invariant-loop-turn : goal.invariant-loop-turn
invariant-loop-turn g l = record {
  keep : l.best.keep ≡ l.fn.best.keep;
  pending : OverTagged (g.P.Pages.view l.fn.store.pages) l.fn.store.root l.fn.scan 7
      (λ gaz left. (is : IsGazetteer gaz) → IsGathering gaz is (asked l.query) l.fn.best.keep l._turn (g.P.Pages.view l.store.pages).page l.scan left l.candidates.items l.fn.best.pairs l.best.pairs
      (g.P.Pages.view l.fn.store.pages).reads (g.P.Pages.view l.store.pages).reads);
  asked : HasOnlyAsked {T = Unit} (g.P.Pages.view l.fn.store.pages) (g.P.Pages.view l.store.pages) (Ok tt);
  size : length l.buf ≡ length l.fn.buf;
  root : l.store.root ≡ l.fn.store.root;
  keeps : g.P.Pages.keeps l.fn.store.pages l.store.pages;
}
