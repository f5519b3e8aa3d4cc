-- Which lines have keys with the tags of rows, of names and of where rows lie.
use Rattle.std.proofs.Common.{◌≡◌, ◌⊎◌, ℕ, true≢false, List, [], refl, sym, ◌∙◌, ap, arith, inl, inr, Option, Some, None}
use Rattle.std.specs.Prelude.{Contains}
use Rattle.gaz_num.specs.Pieces.{column}
use Rattle.gaz_num.specs.declared.words.Table.{Table}
use Rattle.gaz_num.specs.declared.words.Table.TheVariants.{Rows, Alternates, Links, Countries, Codes}
use Rattle.gaz_keys.specs.Keys.{place_key, text_key, box_key, path_key, reverse_key, division_key}
use Rattle.gaz_keys.specs.Parts.{tag_of, has_place}
use Rattle.gaz_keys.specs.Lines.{id_at, key_at, division_level, division_keys, more_keys, named_key, ascii_key, lying_key, alternate_text_key}
use Rattle.gaz_keys.proofs.Tags.{contained, contained_none, tag_for, tag_at, one_of, in_more_keys, more_placeless}
use Rattle.gaz_rows.specs.Index.{Slots, line_keys}

-- ---- rows

-- The line is a row, and the key is this one.
pub record IsRowKey (table : Table) (own key : List ℕ) : Type 0 where
  pub is_row : table ≡ Rows
  pub is : key ≡ own

one_tag : (slots : Slots) (table : Table) (line key : List ℕ) → key_at table (slots (column 1 line)) line ≡ key → tag_for table ≡ 1 → IsRowKey table (place_key (id_at 1 line)) key
one_tag slots Rows line key same is = record { is_row = refl; is = sym same }
one_tag slots Alternates line key same is = absurd (omega (arith, is))
one_tag slots Links line key same is = absurd (omega (arith, is))
one_tag slots Countries line key same is = absurd (omega (arith, is))
one_tag slots Codes line key same is = absurd (omega (arith, is))

pub tagged_row : (slots : Slots) (table : Table) (line key : List ℕ) → Contains (line_keys slots table line) key → tag_of key ≡ 1 → IsRowKey table (place_key (id_at 1 line)) key
tagged_row slots table line key has tag = elim (contained _ (more_keys table line) key has) [
  | inl same ↦ one_tag slots table line key same (sym (tag_at table (slots (column 1 line)) line) ∙ ap tag_of same ∙ tag)
  | inr more ↦ absurd (true≢false (sym (ap has_place tag) ∙ more_placeless table line key more))
]

-- ---- where rows lie

eight_tag : (table : Table) → tag_for table ≡ 8 → ⊥
eight_tag Rows is = omega (arith, is)
eight_tag Alternates is = omega (arith, is)
eight_tag Links is = omega (arith, is)
eight_tag Countries is = omega (arith, is)
eight_tag Codes is = omega (arith, is)

abbrev IfEight : Table → List ℕ → List ℕ → Type 0
IfEight table line key = tag_of key ≡ 8 → IsRowKey table (lying_key line) key

none_eight : (table : Table) (line key : List ℕ) → Contains [] key → IfEight table line key
none_eight table line key has = absurd (contained_none key has)

division_eight : (line : List ℕ) (level : Option ℕ) (key : List ℕ) → Contains (division_keys line level) key → IfEight Rows line key
unfolding division_key
division_eight line None key has = none_eight Rows line key has
division_eight line (Some level) key has = one_of (IfEight Rows line) _ [] key (λ tag. absurd (omega (arith, tag))) (none_eight Rows line) has

more_eight : (table : Table) (line key : List ℕ) → Contains (more_keys table line) key → IfEight table line key
unfolding text_key path_key reverse_key
more_eight Rows line key has = in_more_keys (IfEight Rows line) line key (λ tag. absurd (omega (arith, tag))) (λ tag. absurd (omega (arith, tag))) (λ tag. record { is_row = refl; is = refl }) (λ tag. absurd (omega (arith, tag))) (λ other. division_eight line (division_level line) other) has
more_eight Alternates line key has = one_of (IfEight Alternates line) _ [] key (λ tag. absurd (omega (arith, tag))) (none_eight Alternates line) has
more_eight Links line key has = one_of (IfEight Links line) _ [] key (λ tag. absurd (omega (arith, tag))) (none_eight Links line) has
more_eight Countries line key has = none_eight Countries line key has
more_eight Codes line key has = none_eight Codes line key has

pub tagged_lying : (slots : Slots) (table : Table) (line key : List ℕ) → Contains (line_keys slots table line) key → tag_of key ≡ 8 → IsRowKey table (lying_key line) key
tagged_lying slots table line key has tag = elim (contained _ (more_keys table line) key has) [
  | inl same ↦ absurd (eight_tag table (sym (tag_at table (slots (column 1 line)) line) ∙ ap tag_of same ∙ tag))
  | inr more ↦ more_eight table line key more tag
]

-- ---- names

-- The key is that of a row's name, of its asciiname, or of an alternate name.
abbrev pub IsNameKey : Table → List ℕ → List ℕ → Type 0
IsNameKey table line key = (table ≡ Rows) × ((key ≡ named_key line) ⊎ (key ≡ ascii_key line)) ⊎ (table ≡ Alternates) × (key ≡ alternate_text_key line)

seven_tag : (table : Table) → tag_for table ≡ 7 → ⊥
seven_tag Rows is = omega (arith, is)
seven_tag Alternates is = omega (arith, is)
seven_tag Links is = omega (arith, is)
seven_tag Countries is = omega (arith, is)
seven_tag Codes is = omega (arith, is)

abbrev IfSeven : Table → List ℕ → List ℕ → Type 0
IfSeven table line key = tag_of key ≡ 7 → IsNameKey table line key

none_seven : (table : Table) (line key : List ℕ) → Contains [] key → IfSeven table line key
none_seven table line key has = absurd (contained_none key has)

division_seven : (line : List ℕ) (level : Option ℕ) (key : List ℕ) → Contains (division_keys line level) key → IfSeven Rows line key
unfolding division_key
division_seven line None key has = none_seven Rows line key has
division_seven line (Some level) key has = one_of (IfSeven Rows line) _ [] key (λ tag. absurd (omega (arith, tag))) (none_seven Rows line) has

more_seven : (table : Table) (line key : List ℕ) → Contains (more_keys table line) key → IfSeven table line key
unfolding box_key path_key reverse_key
more_seven Rows line key has = in_more_keys (IfSeven Rows line) line key (λ tag. inl (refl, inl refl)) (λ tag. inl (refl, inr refl)) (λ tag. absurd (omega (arith, tag))) (λ tag. absurd (omega (arith, tag))) (λ other. division_seven line (division_level line) other) has
more_seven Alternates line key has = one_of (IfSeven Alternates line) _ [] key (λ tag. inr (refl, refl)) (none_seven Alternates line) has
more_seven Links line key has = one_of (IfSeven Links line) _ [] key (λ tag. absurd (omega (arith, tag))) (none_seven Links line) has
more_seven Countries line key has = none_seven Countries line key has
more_seven Codes line key has = none_seven Codes line key has

pub tagged_name : (slots : Slots) (table : Table) (line key : List ℕ) → Contains (line_keys slots table line) key → tag_of key ≡ 7 → IsNameKey table line key
tagged_name slots table line key has tag = elim (contained _ (more_keys table line) key has) [
  | inl same ↦ absurd (seven_tag table (sym (tag_at table (slots (column 1 line)) line) ∙ ap tag_of same ∙ tag))
  | inr more ↦ more_seven table line key more tag
]
