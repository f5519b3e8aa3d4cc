use Rattle.std.proofs.Common.{◌<◌, ◌^◌, false}
use Rattle.std.specs.BTreeMap.{is_at}
use Rattle.std.proofs.lemmas.Map.Views.{All-remove_key}
use Rattle.gaz_plain.proofs.PlacedLemmas.{pair_cmp, edit_told}
use Rattle.gaz_plain.proofs.ids_by_key.IdsByKey.remove.Goals as goal

pub invariant_of-self : goal.invariant_of-self
invariant_of-self c = rw c.remove.ensures.keys (All-remove_key (is_at (pair_cmp (c.args.key, c.args.id))) (λ pair. pair.1 < 2 ^ 32) c.self.inside.pairs.keys c.self.invariant)

pub returns : goal.returns
returns c = rw (← c.self.view_is) (edit_told false c.args.key c.args.id c.self.inside.pairs.keys c.remove.new.self.keys c.remove.ensures.updates.0)
