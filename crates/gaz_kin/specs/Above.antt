-- Which rows may stand above another one.
use Rattle.std.specs.Prelude.{ℕ, zero, suc, Bool, true, List, [], ◌∷◌, Option, option_and_then}
use Rattle.gaz_num.specs.Numbers.{id_in}
use Rattle.gaz_num.specs.Pieces.{column}
use Rattle.gaz_num.specs.declared.words.Table.TheVariants.{Rows}
use Rattle.gaz_row.specs.Row.{id_of}
use Rattle.gaz_parent.specs.Parent.{may_be, is_division_of, is_country_of}
use Rattle.gaz_plain.specs.Gazetteer.{Gazetteer, line_with}
use Rattle.gaz_plain.specs.Ordered.{passes_at}

-- another row is the division of this level with the row's path up to it, or for level 0 a country row with its country
abbrev pub is_above : ℕ → List ℕ → List ℕ → Bool
is_above zero row other = is_country_of (column 9 row) other
is_above (suc level) row other = is_division_of (suc level) row other

-- there is a row with the id, and it may be taken
abbrev pub fits_at : Gazetteer → (List ℕ → Bool) → ℕ → Bool
fits_at gaz may id = passes_at may (line_with Rows (id ∷ []) gaz)

-- any row but the child
abbrev pub may_be_parent : ℕ → List ℕ → Bool
may_be_parent child = may_be child (λ other. true)

-- any other row that is above this one
abbrev pub may_be_above : ℕ → List ℕ → List ℕ → Bool
may_be_above level row = may_be (id_of row) (is_above level row)

-- the place that the line of a country names, if there is one
abbrev pub place_named : Option (List ℕ) → Option ℕ
place_named line = option_and_then (λ line. id_in (column 17 line)) line
