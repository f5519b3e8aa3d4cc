-- Files in a list, of which the last with a name stands.
use Rattle.std.specs.Prelude.{◌≡◌, ◌≢◌, ℕ, zero, suc, ◌<◌, Bool, true, false, List, [], ◌∷◌, Option, Some, None, IsSome, IfSome, String, Vec, if◌then◌else◌, map, slice_get, slice_index_or, string_bytes, vec_items, option_map, refl}
use Rattle.std.proofs.Common.{arith}
use Rattle.std.proofs.lemmas.Slice.Eq.{bytes_eq-Decides}
use Rattle.std.specs.Str.{bytes_eq}

-- a file's bytes, and else those of a later one
abbrev pub or_file : Option (List ℕ) → List ℕ → List ℕ → List ℕ → Option (List ℕ)
or_file (Some later) name own bytes = Some later
or_file None name own bytes = if bytes_eq own name then Some bytes else None

-- the bytes of the last file with the name
abbrev pub file_named : List (List ℕ × List ℕ) → List ℕ → Option (List ℕ)
file_named [] name = None
file_named (file ∷ files) name = or_file (file_named files name) name file.0 file.1

-- the names and bytes of these files
abbrev pub listed : {A B : Type 0} → List (String A × Vec ℕ B) → List (List ℕ × List ℕ)
listed files = map (λ file. (string_bytes file.0, vec_items file.1)) files

-- the name of the file in this place
abbrev pub name_at : List (List ℕ × List ℕ) → ℕ → Option (List ℕ)
name_at files place = option_map (λ file. file.0) (slice_get files place)

-- The last file with the name stands in this place.
pub record IsLastNamed (files : List (List ℕ × List ℕ)) (name : List ℕ) (place : ℕ) : Type 0 where
  pub named : name_at files place ≡ Some name
  pub last : (later : ℕ) → place < later → name_at files later ≢ Some name

-- the name of the file in this place, where the place is open
abbrev pub opened_in : List (List ℕ × List ℕ) → List Bool → ℕ → Option (List ℕ)
opened_in files is_open place = if slice_index_or is_open place false then name_at files place else None

-- A file that stands later is found as well.
pub later_is_named : (later : Option (List ℕ)) (name own bytes : List ℕ) → IsSome later → IsSome (or_file later name own bytes)
later_is_named (Some _) name own bytes there = refl
later_is_named None name own bytes there = cc

-- A name is found where a file has it.
pub own_is_named : (later : Option (List ℕ)) (name bytes : List ℕ) → IsSome (or_file later name name bytes)
own_is_named (Some _) name bytes = refl
own_is_named None name bytes = grind (arith, bytes_eq-Decides name name)

-- The name of a file is found.
pub is_named : (files : List (List ℕ × List ℕ)) (place : ℕ) → IfSome (name_at files place) (λ name. IsSome (file_named files name))
is_named [] place = tt
is_named (file ∷ files) zero = own_is_named (file_named files file.0) file.0 file.1
is_named (file ∷ files) (suc place) = elim (slice_get files place) as (λ found. IfSome (option_map (λ x. x.0) found) (λ name. IsSome (file_named files name)) → IfSome (option_map (λ x. x.0) found) (λ name. IsSome (file_named (file ∷ files) name))) [
  | Some found ↦ λ there. later_is_named (file_named files found.0) found.0 file.0 file.1 there
  | None ↦ λ there. tt
] (is_named files place)

-- The name for which an open place stands is found.
pub open_is_named : (files : List (List ℕ × List ℕ)) (is_open : List Bool) (place : ℕ) → IfSome (opened_in files is_open place) (λ name. IsSome (file_named files name))
open_is_named files is_open place = elim (slice_index_or is_open place false) as (λ flag. IfSome (if flag then name_at files place else None) (λ name. IsSome (file_named files name))) [
  | true ↦ is_named files place
  | false ↦ tt
]
