-- Which alternates each place has.
use Rattle.std.specs.Prelude.{◌≡◌, ℕ, Bool, false, ◌&&◌, List, [], ◌∷◌, Option, Some, None, All, unwrap_or, ◌==◌, if◌then◌else◌}
use Rattle.std.specs.List.{list_any}
use Rattle.gaz_num.specs.Numbers.{id_in}
use Rattle.gaz_num.specs.Pieces.{column}
use Rattle.gaz_num.specs.declared.words.Kind.TheVariants.{Alt}
use Rattle.gaz_num.specs.declared.words.Table.TheVariants.{Alternates}
use Rattle.gaz_plain.specs.Gazetteer.{IsLine, line_at}
use Rattle.gaz_plain.specs.Names.{is_of}

-- the id of the place of an alternate
abbrev pub place_in : List ℕ → ℕ
place_in alternate = unwrap_or (id_in (column 2 alternate)) 0

-- whether there is an alternate and it is one of the place
abbrev pub is_one_of : ℕ → Option (List ℕ) → Bool
is_one_of place None = false
is_one_of place (Some alternate) = is_of place alternate

-- whether the alternate with the id is one of the place
abbrev pub has_place : List (List ℕ) → ℕ → ℕ → Bool
has_place alternates place id = is_one_of place (line_at Alternates (id ∷ []) alternates)

-- whether a pair of a place and an id is there
abbrev pub has_pair : List (ℕ × ℕ) → ℕ → ℕ → Bool
has_pair pairs place id = list_any (λ pair. place == pair.0 && id == pair.1) pairs

-- The pair is there then or isn't, and all others are as they were.
abbrev pub IsEdit : Bool → ℕ → ℕ → List (ℕ × ℕ) → List (ℕ × ℕ) → Type 0
IsEdit there place id old new = (p i : ℕ) → has_pair new p i ≡ (if place == p && id == i then there else has_pair old p i)

-- The pairs are those of the alternates, each of which its check accepts.
pub record ArePlaced (alternates : List (List ℕ)) (pairs : List (ℕ × ℕ)) : Type 0 where
  pub each : All (IsLine Alt) alternates
  pub pairs_are : (place id : ℕ) → has_pair pairs place id ≡ has_place alternates place id
