use Rattle.std.proofs.Common.{◌≡◌, map}
use Rattle.gaz_plain.specs.Children.{is_named_in, SeesMore}
use Rattle.gaz_plain.proofs.plain_gaz.PlainGaz.offer_named.Given as goal

-- the children of the countries so far were offered
abbrev pub invariant-loop-line : goal.invariant-loop-line
invariant-loop-line l = record {
  keep : l.best.keep ≡ l.fn.best.keep;
  more : SeesMore l.self l.id l.fn.best.keep (is_named_in (map (λ line. line.now) l.yielded) l.id l.own) l.fn.best.pairs l.best.pairs;
}
