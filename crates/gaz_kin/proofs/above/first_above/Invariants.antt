use Rattle.std.proofs.Common.{◌≡◌, ◌*◌, length, true, Ok}
use Rattle.gaz_scan.specs.Scan.{tree_of}
use Rattle.gaz_rows.specs.Store.{HasAsked}
use Rattle.gaz_kin.specs.declared.ids.Part.TheVariants.{Last}
use Rattle.gaz_kin.specs.Above.{is_above, fits_at, may_be_above}
use Rattle.gaz_kin.specs.Ids.{OverFew}
use Rattle.gaz_kin.specs.Over.{each_of}
use Rattle.gaz_kin.proofs.Walked.{ArePassed}
use Rattle.gaz_kin.proofs.above.first_above.Given as goal

-- the ids so far don't fit, nor as such where none was the row's own
abbrev pub invariant-loop-turn : goal.invariant-loop-turn
invariant-loop-turn g l = record {
  passed : OverFew l.fn.store.root.counts.rows (g.P.Pages.view l.fn.store.pages) l.fn.store.root l.fn.scan (λ gaz left. ArePassed Last (fits_at gaz (may_be_above l.level l.row)) l._turn (g.P.Pages.view l.store.pages).page l.scan left);
  common : OverFew l.fn.store.root.counts.rows (g.P.Pages.view l.fn.store.pages) l.fn.store.root l.fn.scan (λ gaz left. l.is_common ≡ true → ArePassed Last (fits_at gaz (is_above l.level l.row)) l._turn (g.P.Pages.view l.store.pages).page l.scan left);
  asked : HasAsked {T = Unit} (each_of l.fn.scan l.fn.store.root * l._turn) (g.P.Pages.view l.fn.store.pages) (g.P.Pages.view l.store.pages) (Ok tt);
  tree : tree_of l.scan ≡ tree_of l.fn.scan;
  size : length l.buf ≡ length l.fn.buf;
  root : l.store.root ≡ l.fn.store.root;
  keeps : g.P.Pages.keeps l.fn.store.pages l.store.pages;
}
