-- Places in a list of files, and what stands there.
use Rattle.std.proofs.Common.{◌≡◌, ◌≢◌, ℕ, ◌+◌, ◌-◌, ◌<◌, ◌≤◌, ◌⊎◌, ◌↔◌, zero, suc, inl, inr, Bool, true, false, List, [], ◌∷◌, length, take, drop, min, length-take, length-drop, Option, Some, None, refl, sym, ◌∙◌, ap, arith, slice_index_or, slice_set, IsSome, if◌then◌else◌, IfSome}
use Rattle.std.specs.Prelude.{String, Vec, string_bytes, vec_items, slice_get, is_some, option_map, option_and_then}
use Rattle.std.specs.Str.{bytes_eq}
use Rattle.std.proofs.lemmas.Slice.Eq.{bytes_eq-Decides}
use Rattle.std.proofs.lemmas.Bool.{cases_lt}
use Rattle.std.proofs.lemmas.List.{get_or-set_same, get_or-set_other, take_rest, drop_min}
use Rattle.std.proofs.lemmas.Option.{slice_get-get_or, slice_get-map, slice_get_past}
use Rattle.gaz_outside.specs.Listed.{IsLastNamed, listed, name_at, file_named, or_file, opened_in, is_named}

-- the name of a file that was read
pub name_at-listed : {A B : Type 0} (files : List (String A × Vec ℕ B)) (place : ℕ) (file : String A × Vec ℕ B) → place < length files → name_at (listed files) place ≡ Some (string_bytes (slice_index_or files place file).0)
name_at-listed files place file within =
    ap (option_map (λ x. x.0)) (slice_get-map (λ x. (string_bytes x.0, vec_items x.1)) files place ∙ ap (option_map (λ x. (string_bytes x.0, vec_items x.1))) (slice_get-get_or files place file within))

-- the same name, by the test
pub same_name : (own name : List ℕ) (is_same : Bool) → is_same ≡ bytes_eq own name → is_same ≡ true → own ≡ name
same_name own name is_same tested same = (bytes_eq-Decides own name).0 (sym tested ∙ same)

-- another name, by the test
pub other_name : (own name : List ℕ) (is_same : Bool) → is_same ≡ bytes_eq own name → is_same ≡ false → own ≢ name
other_name own name is_same tested differs equal = let same : bytes_eq own name ≡ true = (bytes_eq-Decides own name).1 equal in cc

-- One more place has not the name.
pub none_from : (files : List (List ℕ × List ℕ)) (name : List ℕ) (place : ℕ) → ((later : ℕ) → place + 1 ≤ later → name_at files later ≢ Some name) → name_at files place ≢ Some name → (later : ℕ) → place ≤ later → name_at files later ≢ Some name
none_from files name place behind here later from = elim (cases_lt place later) [
  | inl after ↦ behind later (omega arith)
  | inr before ↦ λ is. let same : later ≡ place = omega arith in here (ap (name_at files) (sym same) ∙ is)
]

-- the bytes of a file, where its name is the one
own_bytes : (own name bytes : List ℕ) → own ≡ name → or_file None name own bytes ≡ Some bytes
own_bytes own name bytes same = let yes : bytes_eq own name ≡ true = (bytes_eq-Decides own name).1 same in rw yes refl

-- none, where its name is another
not_own : (own name bytes : List ℕ) → own ≢ name → or_file None name own bytes ≡ None
not_own own name bytes differs = elim (bytes_eq own name) as (λ same. bytes_eq own name ≡ same → (if same then Some bytes else None) ≡ None) [
  | true ↦ λ is. absurd (differs ((bytes_eq-Decides own name).0 is))
  | false ↦ λ is. refl
] refl

-- A name that no file has isn't found.
pub none_named : (files : List (List ℕ × List ℕ)) (name : List ℕ) → ((place : ℕ) → name_at files place ≢ Some name) → file_named files name ≡ None
none_named [] name none = refl
none_named (file ∷ files) name none =
    rw (none_named files name (λ place. none (suc place))) (not_own file.0 name file.1 (λ same. none 0 (ap Some same)))

-- what was found stands, whatever comes before
still_found : (found : Option (List ℕ × List ℕ)) (name own bytes : List ℕ) → option_map (λ file. file.0) found ≡ Some name → or_file (option_map (λ file. file.1) found) name own bytes ≡ option_map (λ file. file.1) found
still_found (Some file) name own bytes named = refl
still_found None name own bytes named = absurd (cc)

no_name : (name : List ℕ) → None ≡ Some name → ⊥
no_name name is = cc

-- the bytes that are found are those of the last file with the name
pub last_named : (files : List (List ℕ × List ℕ)) (name : List ℕ) (place : ℕ) → IsLastNamed files name place → file_named files name ≡ option_map (λ file. file.1) (slice_get files place)
last_named [] name place last = absurd (no_name name last.named)
last_named (file ∷ files) name zero last =
    rw (none_named files name (λ place. last.last (suc place) (omega arith))) (own_bytes file.0 name file.1 (let named : Some file.0 ≡ Some name = last.named in cc))
last_named (file ∷ files) name (suc place) last =
    let found = last_named files name place (record { named = last.named; last = λ later after. last.last (suc later) (omega arith) }) in
    rw found (still_found (slice_get files place) name file.0 file.1 last.named)

-- what isn't there isn't open
not_past : (flag : Bool) (name : Option (List ℕ)) → name ≡ None → IsSome (if flag then name else None) → ⊥
not_past false name none there = cc
not_past true name none there = let no : is_some name ≡ false = ap is_some none in cc

-- No file stands past the list.
name_at_past : {A B : Type 0} (files : List (String A × Vec ℕ B)) (place : ℕ) → length files ≤ place → name_at (listed files) place ≡ None
name_at_past files place past =
    ap (option_map (λ x. x.0)) (slice_get-map (λ x. (string_bytes x.0, vec_items x.1)) files place ∙ ap (option_map (λ x. (string_bytes x.0, vec_items x.1))) (slice_get_past files place past))

-- A file that has a name stands within the list.
pub named_within : {A B : Type 0} (files : List (String A × Vec ℕ B)) (place : ℕ) (name : List ℕ) → name_at (listed files) place ≡ Some name → place < length files
named_within files place name named = elim (cases_lt place (length files)) [
  | inl within ↦ within
  | inr past ↦ absurd (no_name name (sym (name_at_past files place past) ∙ named))
]

-- An open place stands within the list.
pub open_within : {A B : Type 0} (files : List (String A × Vec ℕ B)) (is_open : List Bool) (place : ℕ) → IsSome (opened_in (listed files) is_open place) → place < length files
open_within files is_open place there = elim (cases_lt place (length files)) [
  | inl within ↦ within
  | inr past ↦ absurd (not_past (slice_index_or is_open place false) (name_at (listed files) place) (name_at_past files place past) there)
]

-- A name that a file has is found.
pub is_found : (files : List (List ℕ × List ℕ)) (name : List ℕ) (place : ℕ) → name_at files place ≡ Some name → IsSome (file_named files name)
is_found files name place named = rw named at (is_named files place)

-- no number, where nothing is found
pub none_found : {T : Type 0} (found : Option T) → found ≡ None → (false ≡ true) ↔ IsSome found
none_found None is = (λ same. same, λ same. same)
none_found (Some x) is = absurd (cc)

-- a place that is opened stands for its file's name
pub opened_in-set_same : (files : List (List ℕ × List ℕ)) (is_open : List Bool) (place : ℕ) (name : List ℕ) → place < length is_open → name_at files place ≡ Some name → opened_in files (slice_set is_open place true) place ≡ Some name
opened_in-set_same files is_open place name within named = rw (get_or-set_same is_open place true false within) named

-- the other places stand for what they stood for
pub opened_in-set_other : (files : List (List ℕ × List ℕ)) (is_open : List Bool) (place other : ℕ) → other ≢ place → opened_in files (slice_set is_open place true) other ≡ opened_in files is_open other
opened_in-set_other files is_open place other differs = rw (get_or-set_other is_open place other true false differs) refl

-- A place that was open stood for its file's name.
pub opened_before : (files : List (List ℕ × List ℕ)) (is_open : List Bool) (place : ℕ) (name : List ℕ) → name_at files place ≡ Some name → IfSome (opened_in files is_open place) (λ earlier. earlier ≡ name)
opened_before files is_open place name named = elim (slice_index_or is_open place false) as (λ flag. IfSome (if flag then name_at files place else None) (λ earlier. earlier ≡ name)) [
  | true ↦ rw named refl
  | false ↦ tt
]

-- the bytes of the file for which an open place stands
pub open_bytes : {A B : Type 0} (files : List (String A × Vec ℕ B)) (is_open : List Bool) (place : ℕ) (file : String A × Vec ℕ B) → ((open_place : ℕ) (name : List ℕ) → opened_in (listed files) is_open open_place ≡ Some name → IsLastNamed (listed files) name open_place) → IsSome (opened_in (listed files) is_open place) → place < length files → option_and_then (file_named (listed files)) (opened_in (listed files) is_open place) ≡ Some (vec_items (slice_index_or files place file).1)
open_bytes files is_open place file last there within = elim (opened_in (listed files) is_open place) as (λ opened. opened_in (listed files) is_open place ≡ opened → IsSome opened → option_and_then (file_named (listed files)) opened ≡ Some (vec_items (slice_index_or files place file).1)) [
  | Some name ↦ λ is some. last_named (listed files) name place (last place name is)
      ∙ ap (option_map (λ x. x.1)) (slice_get-map (λ x. (string_bytes x.0, vec_items x.1)) files place ∙ ap (option_map (λ x. (string_bytes x.0, vec_items x.1))) (slice_get-get_or files place file within))
  | None ↦ λ is none. absurd (cc)
] refl there

-- what was copied stands at this place of the file
pub part_copied : (bytes held buf : List ℕ) (at start n : ℕ) → held ≡ bytes → start ≡ min at (length held) → take n buf ≡ take n (take (length held - start) (drop start held)) → take n buf ≡ take n (drop at bytes)
part_copied bytes held buf at start n is begins copied =
    copied ∙ ap (take n) (take_rest held start ∙ ap (λ i. drop i held) begins ∙ drop_min at held ∙ ap (drop at) is)

-- as much is copied as there is room for and bytes
pub count_copied : (bytes held : List ℕ) (at start n room : ℕ) → held ≡ bytes → start ≡ min at (length held) → n ≡ min room (length (take (length held - start) (drop start held))) → n ≡ min room (length bytes - at)
count_copied bytes held at start n room is begins count =
    let size = length-take (length held - start) (drop start held) in
    let rest = length-drop start held in
    let same : length held ≡ length bytes = ap length is in
    grind (arith, size, rest, same, begins, count)

-- nothing is copied where there is no room or no byte
pub none_copied : (bytes : List ℕ) (at n room : ℕ) → n ≡ min room (length bytes - at) → (n ≡ 0) ↔ ((room ≡ 0) ⊎ (length bytes ≤ at))
none_copied bytes at n room count = (λ none. grind (arith, count, none), λ none. grind (arith, count, none))
