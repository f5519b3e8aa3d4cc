use Rattle.std.proofs.Common.{◌≡◌, ◌+◌, ◌-◌, ◌*◌, ◌≤◌, [], take, length, Ok}
use Rattle.gaz_parent.specs.Chain.{upwards}
use Rattle.gaz_plain.specs.Kin.{lists_of}
use Rattle.gaz_plain.proofs.Climbed.{IsOnWay}
use Rattle.gaz_kin.specs.Over.{OverStore, HasOnlyAsked}
use Rattle.gaz_kin.specs.Reads.{most_sought}
use Rattle.gaz_kin.proofs.chains.climb.Given as goal

-- what is written, and then all upwards from the next, are all
abbrev pub invariant-loop-count : goal.invariant-loop-count
invariant-loop-count g l = record {
  count : l.count ≤ 64;
  long : length l.out ≡ 64;
  way : OverStore (g.P.Pages.view l.fn.store.pages) l.fn.store.root (λ gaz. IsOnWay (lists_of gaz) (upwards 64 (lists_of gaz) [] l.fn.first) (take l.count l.out) (64 - l.count) l.next);
  few : OverStore (g.P.Pages.view l.fn.store.pages) l.fn.store.root (λ gaz. (g.P.Pages.view l.store.pages).reads ≤ (g.P.Pages.view l.fn.store.pages).reads + 64 * (l.count * (most_sought gaz + 4)));
  asked : HasOnlyAsked {T = Unit} (g.P.Pages.view l.fn.store.pages) (g.P.Pages.view l.store.pages) (Ok tt);
  line_size : length l.line ≡ length l.fn.line;
  size : length l.buf ≡ length l.fn.buf;
  root : l.store.root ≡ l.fn.store.root;
  keeps : g.P.Pages.keeps l.fn.store.pages l.store.pages;
}

abbrev pub decreases-loop-count : goal.decreases-loop-count
decreases-loop-count g l = 64 - l.count
