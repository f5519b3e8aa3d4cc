-- What code reads of a line makes the keys of the line.
use Rattle.std.proofs.Common.{◌≡◌, ℕ, List, [], ◌∷◌, ◌++◌, length, take, refl, sym, ◌∙◌, ap, arith, Option, Some, None}
use Rattle.std.specs.Prelude.{slice_set, slice_index, unwrap_or}
use Rattle.gaz_num.specs.Check.{key_in, class_in, link_key as link_numbers}
use Rattle.gaz_num.specs.declared.words.Kind.TheVariants.{Link}
use Rattle.gaz_num.specs.declared.words.Table.TheVariants.{Links}
use Rattle.gaz_tables.specs.declared.link.LinkKey.{LinkKey}
use Rattle.gaz_tables.specs.Keys.{key_numbers}
use Rattle.gaz_num.specs.Numbers.{id_in}
use Rattle.gaz_num.specs.Pieces.{column}
use Rattle.gaz_keys.specs.Keys.{reverse_key, reverse_key_of}
use Rattle.gaz_keys.specs.Lines.{more_keys, id_at, row_keys, lying_key, divided_key, division_keys, division_level}

-- two and three keys put into an array of three
two_put : (out : List (List ℕ)) (a b : List ℕ) → length out ≡ 3 → take 2 (slice_set (slice_set out 0 a) 1 b) ≡ a ∷ b ∷ []
two_put [] a b three = absurd (omega (arith, three))
two_put (x ∷ []) a b three = absurd (omega (arith, three))
two_put (x ∷ y ∷ rest) a b three = refl

three_put : (out : List (List ℕ)) (a b c : List ℕ) → length out ≡ 3 → take 3 (slice_set (slice_set (slice_set out 0 a) 1 b) 2 c) ≡ a ∷ b ∷ c ∷ []
three_put [] a b c three = absurd (omega (arith, three))
three_put (x ∷ []) a b c three = absurd (omega (arith, three))
three_put (x ∷ y ∷ []) a b c three = absurd (omega (arith, three))
three_put (x ∷ y ∷ z ∷ rest) a b c three = refl

-- of a division or a country row, and of another row
pub with_division : (out : List (List ℕ)) (line lying division divided : List ℕ) (level : Option ℕ) → length out ≡ 3 → lying ≡ lying_key line → divided ≡ divided_key line → level ≡ division_level line → division ∷ [] ≡ division_keys line level
    → take 3 (slice_set (slice_set (slice_set out 0 lying) 1 division) 2 divided) ≡ row_keys line
with_division out line lying division divided level three lying_is divided_is level_is division_is =
    three_put out lying division divided three
    ∙ ap (λ key. key ∷ division ∷ divided ∷ []) lying_is ∙ ap (λ key. lying_key line ∷ division ∷ key ∷ []) divided_is
    ∙ ap (λ keys. lying_key line ∷ keys ++ divided_key line ∷ []) (division_is ∙ ap (division_keys line) level_is)

pub without_division : (out : List (List ℕ)) (line lying divided : List ℕ) (level : Option ℕ) → length out ≡ 3 → lying ≡ lying_key line → divided ≡ divided_key line → level ≡ division_level line → level ≡ None
    → take 2 (slice_set (slice_set out 0 lying) 1 divided) ≡ row_keys line
without_division out line lying divided level three lying_is divided_is level_is none =
    two_put out lying divided three
    ∙ ap (λ key. key ∷ divided ∷ []) lying_is ∙ ap (λ key. lying_key line ∷ key ∷ []) divided_is
    ∙ ap (λ level. lying_key line ∷ division_keys line level ++ divided_key line ∷ []) (sym none ∙ level_is)

-- the id of a row that is read
pub id_read : (n id : ℕ) (line : List ℕ) → id_in (column n line) ≡ Some id → id ≡ id_at n line
id_read n id line is = sym (ap (λ found. unwrap_or found 0) is)

-- a link that is read
pub reversed : (link : LinkKey) (line : List ℕ) → key_in Link line ≡ Some (key_numbers link) → reverse_key_of link ∷ [] ≡ more_keys Links line
reversed link line is = by (id_in (column 2 line)) (id_in (column 1 line)) is
  where
    by : (child parent : Option ℕ) → link_numbers child (class_in (column 3 line)) parent ≡ Some (key_numbers link) → reverse_key_of link ∷ [] ≡ reverse_key (unwrap_or parent 0) (class_in (column 3 line)) (unwrap_or child 0) ∷ []
    by None parent is = absurd (cc)
    by (Some child) None is = absurd (cc)
    by (Some child) (Some parent) is =
        let numbers : child ∷ class_in (column 3 line) ∷ parent ∷ [] ≡ key_numbers link = ap (λ found. unwrap_or found []) is in
        sym (ap (λ key. reverse_key (slice_index key 2) (slice_index key 1) (slice_index key 0) ∷ []) numbers)
