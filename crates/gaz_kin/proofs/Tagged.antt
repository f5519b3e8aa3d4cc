-- Which lines have keys with the tags of a link's parent and of a row's path.
use Rattle.std.proofs.Common.{◌≡◌, ℕ, List, [], refl, sym, ◌∙◌, ap, arith, inl, inr, Option, Some, None}
use Rattle.std.specs.Prelude.{Contains}
use Rattle.gaz_num.specs.Pieces.{column}
use Rattle.gaz_num.specs.Check.{class_in}
use Rattle.gaz_num.specs.declared.words.Table.{Table}
use Rattle.gaz_num.specs.declared.words.Table.TheVariants.{Rows, Alternates, Links, Countries, Codes}
use Rattle.gaz_keys.specs.Keys.{text_key, box_key, path_key, reverse_key, division_key}
use Rattle.gaz_keys.specs.Parts.{tag_of}
use Rattle.gaz_keys.specs.Lines.{id_at, division_level, division_keys, more_keys, divided_key}
use Rattle.gaz_keys.proofs.Tags.{contained, contained_none, tag_for, tag_at, one_of, in_more_keys}
use Rattle.gaz_rows.specs.Index.{Slots, line_keys}

-- a tag is none of a key with a place
four_tag : (table : Table) → tag_for table ≡ 4 → ⊥
four_tag Rows is = omega (arith, is)
four_tag Alternates is = omega (arith, is)
four_tag Links is = omega (arith, is)
four_tag Countries is = omega (arith, is)
four_tag Codes is = omega (arith, is)

ten_tag : (table : Table) → tag_for table ≡ 10 → ⊥
ten_tag Rows is = omega (arith, is)
ten_tag Alternates is = omega (arith, is)
ten_tag Links is = omega (arith, is)
ten_tag Countries is = omega (arith, is)
ten_tag Codes is = omega (arith, is)

-- ---- links

-- The line is a link, and has the key by its parent.
pub record IsReverseKey (table : Table) (line key : List ℕ) : Type 0 where
  pub is_link : table ≡ Links
  pub is : key ≡ reverse_key (id_at 1 line) (class_in (column 3 line)) (id_at 2 line)

abbrev IfFour : Table → List ℕ → List ℕ → Type 0
IfFour table line key = tag_of key ≡ 4 → IsReverseKey table line key

none_four : (table : Table) (line key : List ℕ) → Contains [] key → IfFour table line key
none_four table line key has = absurd (contained_none key has)

division_four : (line : List ℕ) (level : Option ℕ) (key : List ℕ) → Contains (division_keys line level) key → IfFour Rows line key
unfolding division_key
division_four line None key has = none_four Rows line key has
division_four line (Some level) key has = one_of (IfFour Rows line) _ [] key (λ tag. absurd (omega (arith, tag))) (none_four Rows line) has

more_four : (table : Table) (line key : List ℕ) → Contains (more_keys table line) key → IfFour table line key
unfolding text_key box_key path_key
more_four Rows line key has = in_more_keys (IfFour Rows line) line key (λ tag. absurd (omega (arith, tag))) (λ tag. absurd (omega (arith, tag))) (λ tag. absurd (omega (arith, tag))) (λ tag. absurd (omega (arith, tag))) (λ other. division_four line (division_level line) other) has
more_four Alternates line key has = one_of (IfFour Alternates line) _ [] key (λ tag. absurd (omega (arith, tag))) (none_four Alternates line) has
more_four Links line key has = one_of (IfFour Links line) _ [] key (λ tag. record { is_link = refl; is = refl }) (none_four Links line) has
more_four Countries line key has = none_four Countries line key has
more_four Codes line key has = none_four Codes line key has

pub tagged_reverse : (slots : Slots) (table : Table) (line key : List ℕ) → Contains (line_keys slots table line) key → tag_of key ≡ 4 → IsReverseKey table line key
tagged_reverse slots table line key has tag = elim (contained _ (more_keys table line) key has) [
  | inl same ↦ absurd (four_tag table (sym (tag_at table (slots (column 1 line)) line) ∙ ap tag_of same ∙ tag))
  | inr more ↦ more_four table line key more tag
]

-- ---- paths

-- The line is a row, and has the key by its path.
pub record IsPathKey (table : Table) (line key : List ℕ) : Type 0 where
  pub is_row : table ≡ Rows
  pub is : key ≡ divided_key line

abbrev IfTen : Table → List ℕ → List ℕ → Type 0
IfTen table line key = tag_of key ≡ 10 → IsPathKey table line key

none_ten : (table : Table) (line key : List ℕ) → Contains [] key → IfTen table line key
none_ten table line key has = absurd (contained_none key has)

division_ten : (line : List ℕ) (level : Option ℕ) (key : List ℕ) → Contains (division_keys line level) key → IfTen Rows line key
unfolding division_key
division_ten line None key has = none_ten Rows line key has
division_ten line (Some level) key has = one_of (IfTen Rows line) _ [] key (λ tag. absurd (omega (arith, tag))) (none_ten Rows line) has

more_ten : (table : Table) (line key : List ℕ) → Contains (more_keys table line) key → IfTen table line key
unfolding text_key box_key reverse_key
more_ten Rows line key has = in_more_keys (IfTen Rows line) line key (λ tag. absurd (omega (arith, tag))) (λ tag. absurd (omega (arith, tag))) (λ tag. absurd (omega (arith, tag))) (λ tag. record { is_row = refl; is = refl }) (λ other. division_ten line (division_level line) other) has
more_ten Alternates line key has = one_of (IfTen Alternates line) _ [] key (λ tag. absurd (omega (arith, tag))) (none_ten Alternates line) has
more_ten Links line key has = one_of (IfTen Links line) _ [] key (λ tag. absurd (omega (arith, tag))) (none_ten Links line) has
more_ten Countries line key has = none_ten Countries line key has
more_ten Codes line key has = none_ten Codes line key has

pub tagged_path : (slots : Slots) (table : Table) (line key : List ℕ) → Contains (line_keys slots table line) key → tag_of key ≡ 10 → IsPathKey table line key
tagged_path slots table line key has tag = elim (contained _ (more_keys table line) key has) [
  | inl same ↦ absurd (ten_tag table (sym (tag_at table (slots (column 1 line)) line) ∙ ap tag_of same ∙ tag))
  | inr more ↦ more_ten table line key more tag
]
