use Rattle.std.proofs.Common.{sym, ◌∙◌}
use Rattle.std.proofs.lemmas.Bool.{and_parts}
use Rattle.gaz_box.specs.Edges.{has_latitude, has_longitude}
use Rattle.gaz_box.proofs.laws.index_finds.Goals as goal

pub returns-clause-sought : goal.returns-clause-sought
returns-clause-sought c edges latitude longitude is_box on_globe inside =
    let parts = and_parts (has_latitude edges latitude) (has_longitude edges longitude) inside in
    record {
      band = c.bands_cover.ensures edges latitude is_box parts.0;
      span = sym (c.spans_cover.ensures edges longitude on_globe) ∙ parts.1;
    }
