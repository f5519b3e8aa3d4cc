use Rattle.std.proofs.Common.{ap, ◌∙◌}
use Rattle.std.specs.Prelude.{None, map, slice_get, unwrap_or}
use Rattle.std.specs.Option.{option_copied}
use Rattle.gaz_words.proofs.Given.{value_at}
use Rattle.gaz_words.proofs.search.Values.get.Goals as goal

pub returns : goal.returns
returns c =
    value_at c.args.self.now.texts c.place.result
    ∙ ap (λ place. unwrap_or (slice_get (map option_copied c.args.self.now.texts) place) None) c.place.ensures.place
