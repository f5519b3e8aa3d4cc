-- The tags of the keys of a line.
use Rattle.std.proofs.Common.{◌≡◌, ◌<◌, ℕ, zero, suc, true, false, List, [], ◌∷◌, ◌++◌, length, refl, sym, ◌∙◌, ap, subst, arith, inl, inr, Option, Some, None}
use Rattle.std.specs.Prelude.{◌⊎◌, Contains, slice_index_or, ◌==◌, ◌||◌, if◌then◌else◌}
use Rattle.gaz_num.specs.declared.words.Table.{Table}
use Rattle.gaz_num.specs.declared.words.Table.TheVariants.{Rows, Alternates, Links, Countries, Codes}
use Rattle.gaz_keys.specs.Keys.{place_key, alternate_key, link_key, reverse_key, country_key, code_key, text_key, box_key, division_key, path_key}
use Rattle.gaz_keys.specs.Parts.{tag_of, has_place}
use Rattle.gaz_keys.specs.Lines.{key_at, more_keys, division_keys, division_level, named_key, ascii_key, lying_key, divided_key, row_keys}

-- what a list contains stands at its front or behind it
pub contained : {X : Type 0} (x : X) (xs : List X) (y : X) → Contains (x ∷ xs) y → (x ≡ y) ⊎ Contains xs y
contained x xs y has = by has.0 has.1 has.2
  where
    by : (k : ℕ) → k < length (x ∷ xs) → slice_index_or (x ∷ xs) k y ≡ y → (x ≡ y) ⊎ Contains xs y
    by zero below is = inl is
    by (suc k) below is = inr (k, omega arith, is)

-- nothing is in an empty list
pub contained_none : {X : Type 0} (y : X) → Contains [] y → ⊥
contained_none y has = let below = has.1 in omega (arith, below)

-- the tag of the keys by which the lines of a table stand at their places
abbrev pub tag_for : Table → ℕ
tag_for Rows = 1
tag_for Alternates = 2
tag_for Links = 3
tag_for Countries = 5
tag_for Codes = 6

pub tag_at : (table : Table) (slot : ℕ) (line : List ℕ) → tag_of (key_at table slot line) ≡ tag_for table
unfolding place_key alternate_key link_key country_key code_key
tag_at Rows slot line = refl
tag_at Alternates slot line = refl
tag_at Links slot line = refl
tag_at Countries slot line = refl
tag_at Codes slot line = refl

pub tag_has_place : (table : Table) → has_place (tag_for table) ≡ true
tag_has_place Rows = refl
tag_has_place Alternates = refl
tag_has_place Links = refl
tag_has_place Countries = refl
tag_has_place Codes = refl

-- the table of such a key, by its tag
abbrev pub table_for : ℕ → Table
table_for tag = if tag == 2 then Alternates else if tag == 3 || tag == 4 then Links else if tag == 5 then Countries else if tag == 6 then Codes else Rows

table_back : (table : Table) → table_for (tag_for table) ≡ table
table_back Rows = refl
table_back Alternates = refl
table_back Links = refl
table_back Countries = refl
table_back Codes = refl

-- tables have different tags
pub tags_differ : (a b : Table) → tag_for a ≡ tag_for b → a ≡ b
tags_differ a b is = sym (table_back a) ∙ ap table_for is ∙ table_back b

-- The key has no place as its value.
abbrev pub IsPlaceless : List ℕ → Type 0
IsPlaceless key = has_place (tag_of key) ≡ false

-- what is in a list of one, or in the list behind the first
pub one_of : (P : List ℕ → Type 0) (x : List ℕ) (xs : List (List ℕ)) (y : List ℕ) → P x → ((z : List ℕ) → Contains xs z → P z) → Contains (x ∷ xs) y → P y
one_of P x xs y first rest has = elim (contained x xs y has) [
  | inl is ↦ subst P is first
  | inr behind ↦ rest y behind
]

none_of : (P : List ℕ → Type 0) (y : List ℕ) → Contains [] y → P y
none_of P y has = absurd (contained_none y has)

division_placeless : (line : List ℕ) (k : Option ℕ) (key : List ℕ) → Contains (division_keys line k) key → IsPlaceless key
unfolding division_key
division_placeless line None key has = none_of IsPlaceless key has
division_placeless line (Some k) key has = one_of IsPlaceless _ [] key refl (none_of IsPlaceless) has

-- what is among the keys of a row by where it lies
pub in_row_keys : (P : List ℕ → Type 0) (line key : List ℕ) → P (lying_key line) → P (divided_key line) → ((other : List ℕ) → Contains (division_keys line (division_level line)) other → P other) → Contains (row_keys line) key → P key
in_row_keys P line key lying divided divisions has = one_of P (lying_key line) _ key lying (by (division_level line) divisions) has
  where
    last : (other : List ℕ) → Contains (divided_key line ∷ []) other → P other
    last other has = one_of P (divided_key line) [] other divided (none_of P) has

    by : (level : Option ℕ) → ((other : List ℕ) → Contains (division_keys line level) other → P other) → (other : List ℕ) → Contains (division_keys line level ++ divided_key line ∷ []) other → P other
    by None each other has = last other has
    by (Some level) each other has = one_of P _ (divided_key line ∷ []) other (each _ (0, omega arith, refl)) last has

-- what is among the keys of a row but its first
pub in_more_keys : (P : List ℕ → Type 0) (line key : List ℕ) → P (named_key line) → P (ascii_key line) → P (lying_key line) → P (divided_key line) → ((other : List ℕ) → Contains (division_keys line (division_level line)) other → P other) → Contains (more_keys Rows line) key → P key
in_more_keys P line key named ascii lying divided divisions has =
    one_of P (named_key line) (ascii_key line ∷ row_keys line) key named (λ a. one_of P (ascii_key line) (row_keys line) a ascii (λ b. in_row_keys P line b lying divided divisions)) has

-- no other key of a line has the tag of one with a place
pub more_placeless : (table : Table) (line key : List ℕ) → Contains (more_keys table line) key → IsPlaceless key
unfolding text_key box_key path_key reverse_key
more_placeless Rows line key has = in_more_keys IsPlaceless line key refl refl refl refl (λ other. division_placeless line (division_level line) other) has
more_placeless Alternates line key has = one_of IsPlaceless _ [] key refl (none_of IsPlaceless) has
more_placeless Links line key has = one_of IsPlaceless _ [] key refl (none_of IsPlaceless) has
more_placeless Countries line key has = none_of IsPlaceless key has
more_placeless Codes line key has = none_of IsPlaceless key has
