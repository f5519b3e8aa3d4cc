use Rattle.std.proofs.Common.{◌≡◌, ◌+◌, ◌*◌, List, length, Ok}
use Rattle.std.specs.Prelude.{IsTrue}
use Rattle.gaz_plain.specs.Gazetteer.{Gazetteer}
use Rattle.gaz_leaf.specs.Node.{Pair}
use Rattle.gaz_scan.specs.Scan.{Comes, tree_of}
use Rattle.gaz_rows.specs.Store.{IsStore}
use Rattle.gaz_kin.specs.Named.{AreCountries}
use Rattle.gaz_kin.specs.Over.{HasOnlyAsked}
use Rattle.gaz_kin.specs.Reads.{most_sought, rows_of_pairs}
use Rattle.gaz_kin.proofs.Countries.{AreWaiting, one_country}
use Rattle.gaz_kin.proofs.Summed.{ReadSoFar}
use Rattle.gaz_kin.proofs.below.offer_countries.Given as goal

-- the children of the countries so far that name the place were offered
abbrev pub invariant-loop-turn : goal.invariant-loop-turn
invariant-loop-turn g l = record {
  keep : l.best.keep ≡ l.fn.best.keep;
  waiting : IsTrue (g.P.Pages.view l.fn.store.pages).is_told → (gaz : Gazetteer) → (stands : IsStore gaz (g.P.Pages.view l.fn.store.pages) l.fn.store.root)
      → (left : List Pair) → Comes (g.P.Pages.view l.fn.store.pages).page l.fn.scan left → AreCountries stands.pairs left
      → (p : AreWaiting gaz stands.is_gazetteer (one_country gaz (g.P.Pages.view l.fn.store.pages) l.fn.store.root stands) l.id l.fn.best.keep l._turn (g.P.Pages.view l.store.pages).page l.scan left l.fn.best.pairs l.best.pairs)
      × ReadSoFar (2 * (tree_of l.fn.scan).height + 29) (most_sought gaz) (rows_of_pairs gaz l.id left) (rows_of_pairs gaz l.id p.rest) l._turn (g.P.Pages.view l.fn.store.pages).reads (g.P.Pages.view l.store.pages).reads;
  tree : tree_of l.scan ≡ tree_of l.fn.scan;
  asked : HasOnlyAsked {T = Unit} (g.P.Pages.view l.fn.store.pages) (g.P.Pages.view l.store.pages) (Ok tt);
  line_size : length l.line ≡ length l.fn.line;
  size : length l.buf ≡ length l.fn.buf;
  root : l.store.root ≡ l.fn.store.root;
  keeps : g.P.Pages.keeps l.fn.store.pages l.store.pages;
}
