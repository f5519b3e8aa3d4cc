-- A chain is short, and has no place twice.
use Rattle.std.proofs.Common.{◌≡◌, ℕ, zero, suc, ◌≤◌, Bool, true, false, ◌&&◌, ◌||◌, List, [], ◌∷◌, length, refl, sym, ap, subst, arith, ◌∙◌, Option, Some, None, eqb-true, eq-eqb}
use Rattle.std.specs.Prelude.{not, if◌then◌else◌, ◌==◌, option_map}
use Rattle.std.specs.List.{list_any}
use Rattle.gaz_row.specs.Row.{id_of}
use Rattle.gaz_parent.specs.Parent.{Lists}
use Rattle.gaz_parent.specs.Chain.{row_with, parent_at, upwards, chain_in}
use Rattle.gaz_parent.specs.Laws.{are_distinct, ChainsEnd}
use Rattle.gaz_parent.proofs.Least.{false_true}

-- a number comes in a list
abbrev comes : ℕ → List ℕ → Bool
comes n list = list_any (λ m. m == n) list

shorter : (came : Bool) (id most : ℕ) (more : List ℕ) → length more ≤ most → length (if came then [] else (id ∷ more)) ≤ suc most
shorter true id most more short = omega arith
shorter false id most more short = omega (arith, short)

short : (most : ℕ) (lists : Lists) (before : List ℕ) (next : Option ℕ) → length (upwards most lists before next) ≤ most
short zero lists before next = omega arith
short (suc most) lists before None = omega arith
short (suc most) lists before (Some id) = shorter (comes id before) id most _ (short most lists (id ∷ before) (parent_at lists id))

same_comes : (m n : ℕ) (list : List ℕ) → (m == n) ≡ true → comes n list ≡ true → comes m list ≡ true
same_comes m n list same come = subst (λ (k : ℕ). comes k list ≡ true) (sym (eqb-true m n same)) come

-- one that came before doesn't come again
none_again : (m n : ℕ) (came : Bool) (before more : List ℕ) → comes m before ≡ came → comes n before ≡ true → (comes n (m ∷ before) ≡ true → comes n more ≡ false) → comes n (if came then [] else (m ∷ more)) ≡ false
none_again m n true before more is come later = refl
none_again m n false before more is come later = by_same (m == n) refl
  where
    by_same : (same : Bool) → (m == n) ≡ same → (same || comes n more) ≡ false
    by_same true same = absurd (false_true (sym is ∙ same_comes m n before same come))
    by_same false same = later (or_right (m == n) (comes n before) come)
      where
        or_right : (a b : Bool) → b ≡ true → (a || b) ≡ true
        or_right true b right = refl
        or_right false b right = right

again : (most : ℕ) (lists : Lists) (before : List ℕ) (next : Option ℕ) (n : ℕ) → comes n before ≡ true → comes n (upwards most lists before next) ≡ false
again zero lists before next n come = refl
again (suc most) lists before None n come = refl
again (suc most) lists before (Some id) n come =
    none_again id n (comes id before) before (upwards most lists (id ∷ before) (parent_at lists id)) refl come (λ now. again most lists (id ∷ before) (parent_at lists id) n now)

one_more : (id : ℕ) (came : Bool) (more : List ℕ) → comes id more ≡ false → are_distinct more ≡ true → are_distinct (if came then [] else (id ∷ more)) ≡ true
one_more id true more none rest = refl
one_more id false more none rest = ap (λ come. not come && are_distinct more) none ∙ rest

itself : (id : ℕ) (before : List ℕ) → comes id (id ∷ before) ≡ true
itself id before = ap (λ same. same || comes id before) (same_id id)
  where
    same_id : (id : ℕ) → (id == id) ≡ true
    same_id id = eq-eqb id id refl

distinct : (most : ℕ) (lists : Lists) (before : List ℕ) (next : Option ℕ) → are_distinct (upwards most lists before next) ≡ true
distinct zero lists before next = refl
distinct (suc most) lists before None = refl
distinct (suc most) lists before (Some id) =
    one_more id (comes id before) (upwards most lists (id ∷ before) (parent_at lists id))
    (again most lists (id ∷ before) (parent_at lists id) id (itself id before))
    (distinct most lists (id ∷ before) (parent_at lists id))

pub chains_end : ChainsEnd
unfolding chain_in
chains_end lists id = (short 64 lists [] (option_map id_of (row_with lists id)), distinct 64 lists [] (option_map id_of (row_with lists id)))
