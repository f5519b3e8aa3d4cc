-- What slots and the keys of tables have to do with the keys of the index.
use Rattle.std.proofs.Common.{◌≡◌, ◌≢◌, ◌<◌, ℕ, ◌^◌, Bool, true, false, List, [], ◌∷◌, refl, ap, arith, inl, inr, Option, Some, None}
use Rattle.std.specs.Prelude.{◌⊎◌, IsSome, unwrap_or, option_map, slice_index, if◌then◌else◌}
use Rattle.std.proofs.lemmas.Bool.{cases_eq}
use Rattle.gaz_num.specs.Numbers.{id_in}
use Rattle.gaz_num.specs.Pieces.{column}
use Rattle.gaz_num.specs.Check.{is_comment, key_in, class_in, link_key as link_numbers}
use Rattle.gaz_num.specs.declared.words.Kind.TheVariants as kind
use Rattle.gaz_num.specs.declared.words.Table.{Table}
use Rattle.gaz_num.specs.declared.words.Table.TheVariants.{Rows, Alternates, Links, Countries, Codes}
use Rattle.gaz_name.specs.Name.{first_bytes}
use Rattle.gaz_keys.specs.Keys.{place_key, alternate_key, link_key, country_key, code_key}
use Rattle.gaz_keys.specs.Lines.{key_at, kind_of}
use Rattle.gaz_keys.specs.Laws.{AreAlike}
use Rattle.gaz_keys.proofs.Tags.{tag_for, tags_differ}

-- tables are one or not
pub one_table : (a b : Table) → (a ≡ b) ⊎ (a ≢ b)
one_table a b = elim (cases_eq (tag_for a) (tag_for b)) [
  | inl same ↦ inl (tags_differ a b same)
  | inr differ ↦ inr (λ is. differ (ap tag_for is))
]

-- slots matter for codes alone
pub one_slot : (table : Table) (slot other : ℕ) (line : List ℕ) → (table ≡ Codes → slot ≡ other) → key_at table slot line ≡ key_at table other line
one_slot Rows slot other line is = refl
one_slot Alternates slot other line is = refl
one_slot Links slot other line is = refl
one_slot Countries slot other line is = refl
one_slot Codes slot other line is = ap (code_key (first_bytes 23 (column 1 line))) (is refl)

-- So each line has a slot of four bytes where codes have one.
pub record HasSlot (table : Table) (slot : ℕ) : Type 0 where
  pub other : ℕ
  pub small : other < 2 ^ 32
  pub is : table ≡ Codes → slot ≡ other

pub has_slot : (table : Table) (slot : ℕ) → (table ≡ Codes → slot < 2 ^ 32) → HasSlot table slot
has_slot Rows slot small = record { other = 0; small = omega arith; is = λ e. cc }
has_slot Alternates slot small = record { other = 0; small = omega arith; is = λ e. cc }
has_slot Links slot small = record { other = 0; small = omega arith; is = λ e. cc }
has_slot Countries slot small = record { other = 0; small = omega arith; is = λ e. cc }
has_slot Codes slot small = record { other = slot; small = small refl; is = λ e. refl }

-- Lines that are alike have one key in their table, or are codes with the same first bytes and the same slot.
pub alike_are : (table : Table) (slot other : ℕ) (line another : List ℕ) → AreAlike table slot line other another
    → (key_in (kind_of table) line ≡ key_in (kind_of table) another) ⊎ ((table ≡ Codes) × ((slot ≡ other) × (first_bytes 23 (column 1 line) ≡ first_bytes 23 (column 1 another))))
alike_are Rows slot other line another are = inl are
alike_are Alternates slot other line another are = inl are
alike_are Links slot other line another are = inl are
alike_are Countries slot other line another are = inl are
alike_are Codes slot other line another are = inr (refl, are)

some_same : {X : Type 0} (x y : X) → Some x ≡ Some y → x ≡ y
some_same x y is = ap (λ o. unwrap_or o x) is

-- ids that are there are the same where their keys are
same_id : (one other : Option ℕ) → IsSome (option_map (λ id. id ∷ []) one) → option_map (λ id. id ∷ []) one ≡ option_map (λ id. id ∷ []) other → unwrap_or one 0 ≡ unwrap_or other 0
same_id None other keyed is = absurd (cc)
same_id (Some m) None keyed is = absurd (cc)
same_id (Some m) (Some n) keyed is = ap (λ key. slice_index key 0) (some_same (m ∷ []) (n ∷ []) is)

same_link : (child parent child2 parent2 : Option ℕ) (class class2 : ℕ) → IsSome (link_numbers child class parent) → link_numbers child class parent ≡ link_numbers child2 class2 parent2
    → link_key (unwrap_or child 0) class (unwrap_or parent 0) ≡ link_key (unwrap_or child2 0) class2 (unwrap_or parent2 0)
same_link None parent child2 parent2 class class2 keyed is = absurd (cc)
same_link (Some c) None child2 parent2 class class2 keyed is = absurd (cc)
same_link (Some c) (Some p) None parent2 class class2 keyed is = absurd (cc)
same_link (Some c) (Some p) (Some d) None class class2 keyed is = absurd (cc)
same_link (Some c) (Some p) (Some d) (Some q) class class2 keyed is =
    let same = some_same (c ∷ class ∷ p ∷ []) (d ∷ class2 ∷ q ∷ []) is in
    ap (λ key. link_key (slice_index key 0) (slice_index key 1) (slice_index key 2)) same

same_text : (one other : Bool) (text text2 : List ℕ) → IsSome (if one then None else Some text) → (if one then None else Some text) ≡ (if other then None else Some text2) → text ≡ text2
same_text true other text text2 keyed is = absurd (cc)
same_text false true text text2 keyed is = absurd (cc)
same_text false false text text2 keyed is = some_same text text2 is

-- Lines with one key in their table have one key with a place, where their slots are one.
pub same_place : (table : Table) (slot : ℕ) (line another : List ℕ) → IsSome (key_in (kind_of table) line) → key_in (kind_of table) line ≡ key_in (kind_of table) another → key_at table slot line ≡ key_at table slot another
same_place Rows slot line another keyed is = ap place_key (same_id (id_in (column 1 line)) (id_in (column 1 another)) keyed is)
same_place Alternates slot line another keyed is = ap alternate_key (same_id (id_in (column 1 line)) (id_in (column 1 another)) keyed is)
same_place Links slot line another keyed is = same_link (id_in (column 2 line)) (id_in (column 1 line)) (id_in (column 2 another)) (id_in (column 1 another)) (class_in (column 3 line)) (class_in (column 3 another)) keyed is
same_place Countries slot line another keyed is = ap (λ text. country_key (first_bytes 4 text)) (same_text (is_comment kind.Country line) (is_comment kind.Country another) (column 1 line) (column 1 another) keyed is)
same_place Codes slot line another keyed is = ap (λ text. code_key (first_bytes 23 text) slot) (some_same (column 1 line) (column 1 another) is)

-- Codes with one key in their table have one text.
pub same_code : (line another : List ℕ) → key_in (kind_of Codes) line ≡ key_in (kind_of Codes) another → column 1 line ≡ column 1 another
same_code line another is = some_same (column 1 line) (column 1 another) is
