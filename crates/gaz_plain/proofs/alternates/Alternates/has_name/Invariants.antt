use Rattle.std.proofs.Common.{◌≡◌, ◌∷◌, []}
use Rattle.std.specs.List.{list_any}
use Rattle.std.specs.Option.{option_copied}
use Rattle.gaz_num.specs.declared.words.Table.TheVariants.{Alternates as AltTable}
use Rattle.gaz_plain.specs.Gazetteer.{line_at}
use Rattle.gaz_plain.specs.Wanted.{fits_line, fits_any}
use Rattle.gaz_plain.proofs.alternates.Alternates.has_name.Given as goal

-- none of those so far fits
abbrev pub invariant-loop-id : goal.invariant-loop-id
invariant-loop-id l = fits_any l.wanted (option_copied l.lang) l.place l.self ≡ list_any (λ pair. fits_line l.wanted (option_copied l.lang) l.place (line_at AltTable (pair.1 ∷ []) l.self)) l.id-iterator
