use Rattle.std.proofs.Common.{[], ap, sym, ◌∙◌}
use Rattle.gaz_num.specs.declared.words.Table.TheVariants.{Countries}
use Rattle.gaz_plain.specs.Gazetteer.{line_with}
use Rattle.gaz_kin.specs.Above.{place_named}
use Rattle.gaz_kin.proofs.above.named_place.Goals as goal

pub returns-in-Ok-Some-clause-named : goal.returns-in-Ok-Some-clause-named
returns-in-Ok-Some-clause-named g c told gaz stands =
    ap (λ code. place_named (line_with Countries code gaz)) (sym (c.as_bytes.ensures.value ∙ c.country.ensures))
    ∙ ap place_named (rw c.in-Ok-Some.field-0-is at (c.in-Ok-Some.ensures.line told [] gaz stands)) ∙ sym c.country_place.ensures

pub returns-in-Ok-None-clause-named : goal.returns-in-Ok-None-clause-named
returns-in-Ok-None-clause-named g c told gaz stands =
    ap (λ code. place_named (line_with Countries code gaz)) (sym (c.as_bytes.ensures.value ∙ c.country.ensures))
    ∙ ap place_named (rw c.in-Ok-None.field-0-is at (c.in-Ok-None.ensures.line told [] gaz stands))

pub returns-in-Err-clause-damaged : goal.returns-in-Err-clause-damaged
returns-in-Err-clause-damaged g c told gaz stands = c.in-Err.ensures.damaged told [] gaz stands
