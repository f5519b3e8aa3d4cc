-- Values at the places of their parameters.
use Rattle.std.proofs.Common.{◌≡◌, ℕ, zero, suc, true, false, List, [], ◌∷◌, get_or, map, refl, Option, Some, None}
use Rattle.std.specs.Prelude.{Ok, is_some, unwrap_or, slice_get, slice_set}
use Rattle.std.specs.Borrow.{Bor}
use Rattle.std.specs.Option.{option_copied}
use Rattle.std.proofs.lemmas.List.{map-set}
use Rattle.gaz_words.specs.declared.parameter.Parameter.{Parameter}
use Rattle.gaz_words.specs.Search.{value_of, place_of, is_good, with_value}

-- the value at a place
pub value_at : (texts : List (Option (Bor (List ℕ)))) (i : ℕ) → option_copied (get_or texts i None) ≡ unwrap_or (slice_get (map option_copied texts) i) None
value_at [] i = refl
value_at (x ∷ xs) zero = refl
value_at (x ∷ xs) (suc i) = value_at xs i

-- a value that is put at a place
value_put : (texts : List (Option (Bor (List ℕ)))) (i : ℕ) (value : Bor (List ℕ)) → map option_copied (slice_set texts i (Some value)) ≡ slice_set (map option_copied texts) i (Some value.now)
value_put texts i value = map-set option_copied texts i (Some value)

-- a good value of a parameter that wasn't given
pub with_good : (texts : List (Option (Bor (List ℕ)))) (value : Bor (List ℕ)) (parameter : Parameter) (place : ℕ) → place ≡ place_of parameter
    → is_some (value_of parameter (map option_copied texts)) ≡ false → is_good parameter value.now ≡ true
    → with_value (map option_copied texts) value.now parameter ≡ Ok (map option_copied (slice_set texts place (Some value)))
with_good texts value parameter place is new good = rw (new, good, is, value_put texts (place_of parameter) value) refl

pub is_some_copied : (value : Option (Bor (List ℕ))) → is_some (option_copied value) ≡ is_some value
is_some_copied None = refl
is_some_copied (Some value) = refl
