use Rattle.std.proofs.Common.{List, ℕ, subst, ◌∙◌}
use Rattle.std.specs.Map.Iter.{deref}
use Rattle.std.proofs.lemmas.Map.Iter.{iter_end}
use Rattle.gaz_plain.specs.Children.{is_named_in, SeesMore}
use Rattle.gaz_plain.proofs.plain_gaz.PlainGaz.offer_named.Goals as goal

-- all countries came
pub returns-clause-more : goal.returns-clause-more
returns-clause-more c =
    let ended = iter_end deref c.args.self.now.countries c.loop-line.yielded c.into_iter-line-iterator.result c.loop-line.line-iterator c.next.new.self c.next.result (c.into_iter-line-iterator.ensures.into_iter_gives ∙ c.lines-line-items.ensures) c.loop-line.yielded_by c.in-None.is c.next.ensures.steps in
    subst (λ (lines : List (List ℕ)). SeesMore c.args.self.now c.args.id c.args.best.now.keep (is_named_in lines c.args.id c.args.own.now) c.args.best.now.pairs c.loop-line.best.pairs) ended.0 c.loop-line.invariant.more
