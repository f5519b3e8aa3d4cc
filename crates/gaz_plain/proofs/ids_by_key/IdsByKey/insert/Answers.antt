use Rattle.std.proofs.Common.{◌<◌, ◌^◌, true}
use Rattle.std.proofs.lemmas.Map.Views.{All-insert_key}
use Rattle.gaz_plain.proofs.PlacedLemmas.{pair_cmp, edit_told}
use Rattle.gaz_plain.proofs.ids_by_key.IdsByKey.insert.Goals as goal

pub invariant_of-self-2 : goal.invariant_of-self-2
invariant_of-self-2 c = rw c.in_ok-insert.ensures.keys (All-insert_key pair_cmp (c.args.key, c.args.id) (λ pair. pair.1 < 2 ^ 32) c.self.inside.pairs.keys c.self.invariant c.ranges.id.fits)

pub returns-clause-ok : goal.returns-clause-ok
returns-clause-ok c = rw (← c.self.view_is) (edit_told true c.args.key c.args.id c.self.inside.pairs.keys c.insert.new.self.keys c.in_ok-insert.ensures.updates.0)
