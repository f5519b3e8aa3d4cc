use Rattle.std.proofs.Common.{List, ℕ, subst}
use Rattle.std.specs.Map.Iter.{deref}
use Rattle.std.proofs.lemmas.Map.Iter.{iter_end}
use Rattle.gaz_row.specs.Row.{id_of}
use Rattle.gaz_plain.specs.Ordered.{has_id}
use Rattle.gaz_plain.specs.Children.{SeesMore}
use Rattle.gaz_plain.proofs.plain_gaz.PlainGaz.offer_all.Goals as goal

-- all ids came
pub returns-clause-more : goal.returns-clause-more
returns-clause-more c =
    let ended = iter_end deref c.args.ids c.loop-child.yielded c.into_iter-child-iterator.result c.loop-child.child-iterator c.next.new.self c.next.result c.into_iter-child-iterator.ensures.into_iter_gives c.loop-child.yielded_by c.in-None.is c.next.ensures.steps in
    subst (λ (ids : List (ℕ × ℕ)). SeesMore c.args.self.now c.args.id c.args.best.now.keep (λ row. has_id ids (id_of row)) c.args.best.now.pairs c.loop-child.best.pairs) ended.0 c.loop-child.invariant.more
