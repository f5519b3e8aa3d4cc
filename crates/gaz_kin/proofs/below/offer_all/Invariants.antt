use Rattle.std.proofs.Common.{◌≡◌, ◌≤◌, ◌+◌, ◌*◌, length, Ok}
use Rattle.gaz_kin.specs.Ids.{OverFew}
use Rattle.gaz_scan.specs.Scan.{tree_of}
use Rattle.gaz_kin.specs.Over.{OverStore, HasOnlyAsked}
use Rattle.gaz_plain.specs.Kin.{lists_of}
use Rattle.gaz_kin.specs.Kept.{IsKept}
use Rattle.gaz_kin.specs.Reads.{most_sought}
use Rattle.gaz_kin.proofs.Offered.{ArePending}
use Rattle.gaz_plain.specs.Gazetteer.{IsGazetteer}
use Rattle.gaz_kin.proofs.below.offer_all.Given as goal

-- the children among the rows so far were offered, and what is remembered of them is so
abbrev pub invariant-loop-turn : goal.invariant-loop-turn
invariant-loop-turn g l = record {
  keep : l.best.keep ≡ l.fn.best.keep;
  part : l.candidates.part ≡ l.fn.candidates.part;
  pending : OverFew l.fn.candidates.most (g.P.Pages.view l.fn.store.pages) l.fn.store.root l.fn.candidates.scan
      (λ gaz left. (is : IsGazetteer gaz) → ArePending gaz is l.id l.fn.best.keep l.fn.candidates.part l._turn (g.P.Pages.view l.store.pages).page l.candidates.scan left l.fn.best.pairs l.best.pairs);
  kept : OverStore (g.P.Pages.view l.fn.store.pages) l.fn.store.root (λ gaz. IsKept (lists_of gaz) l.kept);
  tree : tree_of l.candidates.scan ≡ tree_of l.fn.candidates.scan;
  few : OverStore (g.P.Pages.view l.fn.store.pages) l.fn.store.root
      (λ gaz. (g.P.Pages.view l.store.pages).reads ≤ (g.P.Pages.view l.fn.store.pages).reads + (2 * (tree_of l.fn.candidates.scan).height + (35 * most_sought gaz + 153)) * l._turn);
  asked : HasOnlyAsked {T = Unit} (g.P.Pages.view l.fn.store.pages) (g.P.Pages.view l.store.pages) (Ok tt);
  line_size : length l.line ≡ length l.fn.line;
  size : length l.buf ≡ length l.fn.buf;
  root : l.store.root ≡ l.fn.store.root;
  keeps : g.P.Pages.keeps l.fn.store.pages l.store.pages;
}
