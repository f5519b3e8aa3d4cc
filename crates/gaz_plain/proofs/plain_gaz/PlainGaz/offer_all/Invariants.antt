use Rattle.std.proofs.Common.{◌≡◌, map}
use Rattle.gaz_row.specs.Row.{id_of}
use Rattle.gaz_plain.specs.Ordered.{has_id}
use Rattle.gaz_plain.specs.Children.{SeesMore}
use Rattle.gaz_plain.proofs.plain_gaz.PlainGaz.offer_all.Given as goal

-- the children among those so far were offered
abbrev pub invariant-loop-child : goal.invariant-loop-child
invariant-loop-child l = record {
  keep : l.best.keep ≡ l.fn.best.keep;
  more : SeesMore l.self l.id l.fn.best.keep (λ row. has_id (map (λ pair. pair.now) l.yielded) (id_of row)) l.fn.best.pairs l.best.pairs;
}
