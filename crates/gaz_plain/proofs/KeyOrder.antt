-- The order of keys, and what is found and kept in lists by tests of keys.
use Rattle.std.proofs.Common.{◌≡◌, ℕ, suc, Bool, true, false, List, [], ◌∷◌, filter, None, refl, sym, ap, ◌∙◌, arith}
use Rattle.std.specs.List.{find}
use Rattle.std.specs.Ordering.{is_eq}
use Rattle.std.specs.declared.cmp.Ordering.TheVariants.{Equal}
use Rattle.std.proofs.lemmas.Cmp.{nat_list_cmp_total, tied_itself}
use Rattle.std.proofs.lemmas.Map.Text.{is_eq-slice_cmp}
use Rattle.std.proofs.lemmas.Slice.Eq.{bytes_eq-Decides}
use Rattle.std.specs.Prelude.{unwrap_or, All}
use Rattle.gaz_num.specs.declared.words.Table.{Table}
use Rattle.gaz_plain.specs.Gazetteer.{key_of, key_cmp}
use Rattle.gaz_plain.specs.Places.{IsKeyOf}

-- keys that tie are one
pub same_key : (a b : List ℕ) → is_eq (key_cmp a b) ≡ true → a ≡ b
same_key a b tied = (bytes_eq-Decides a b).0 (sym (is_eq-slice_cmp a b) ∙ tied)

-- a key ties with itself
pub key_ties : (a : List ℕ) → key_cmp a a ≡ Equal
key_ties a = tied_itself nat_list_cmp_total a

-- the key of a line that has one
pub key_of_keyed : (table : Table) (key line : List ℕ) → IsKeyOf table key line → key_of table line ≡ key
key_of_keyed table key line keyed = ap (λ k. unwrap_or k []) keyed

-- what is looked for and passes a filter is found behind it
pub find-filter : {X : Type 0} (p q : X → Bool) → ((x : X) → p x ≡ true → q x ≡ true) → (xs : List X) → find p (filter q xs) ≡ find p xs
find-filter p q passes [] = refl
find-filter p q passes (x ∷ xs) = grind (arith, passes x, find-filter p q passes xs)

-- what is looked for and doesn't pass a filter isn't found behind it
pub find-filter_none : {X : Type 0} (p q : X → Bool) → ((x : X) → p x ≡ true → q x ≡ false) → (xs : List X) → find p (filter q xs) ≡ None
find-filter_none p q stops [] = refl
find-filter_none p q stops (x ∷ xs) = grind (arith, stops x, find-filter_none p q stops xs)

-- what holds of all holds of those behind the first
pub All-rest : {X : Type 0} (P : X → Type 0) (x : X) (xs : List X) → All P (x ∷ xs) → All P xs
All-rest P x xs all k d below = all (suc k) d (omega (arith, below))
