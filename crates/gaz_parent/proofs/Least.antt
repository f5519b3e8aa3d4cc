-- The least id of some rows.
use Rattle.std.proofs.Common.{◌≡◌, ℕ, zero, suc, ◌≤◌, min, Bool, true, false, List, [], ◌∷◌, map, refl, sym, ap, subst, arith, ◌∙◌, Option, Some, None, unwrap_or, ◌⊎◌, inl, inr}
use Rattle.std.specs.Prelude.{Contains, filter, option_map}
use Rattle.std.proofs.lemmas.Bool.{cases_lt}
use Rattle.gaz_row.specs.Row.{id_of}
use Rattle.gaz_parent.specs.Parent.{least}
use Rattle.gaz_parent.specs.Laws.{IsLeast}

-- of a list and its first, which has the rest
here : (row : List ℕ) (rows : List (List ℕ)) → Contains (row ∷ rows) row
here row rows = (0, omega arith, refl)

there : (first row : List ℕ) (rows : List (List ℕ)) → Contains rows row → Contains (first ∷ rows) row
there first row rows at = let lt = at.1 in (suc at.0, omega arith, at.2)

where_at : (first row : List ℕ) (rows : List (List ℕ)) → Contains (first ∷ rows) row → (first ≡ row) ⊎ Contains rows row
where_at first row rows (zero, lt, is) = inl is
where_at first row rows (suc k, lt, is) = inr (k, omega (arith, lt), is)

pub false_true : false ≡ true → ⊥
false_true h = absurd (cc)

-- by the cases of a test
by_test : {P : Type 0} (test : Bool) → (test ≡ true → P) → (test ≡ false → P) → P
by_test true yes_case no_case = yes_case refl
by_test false yes_case no_case = no_case refl

-- the lesser of two
lesser : (m n : ℕ) → ((min m n ≡ m) × (m ≤ n)) ⊎ ((min m n ≡ n) × (n ≤ m))
lesser m n = elim (cases_lt m n) [
  | inl less ↦ inl (omega (arith, less), omega (arith, less))
  | inr less ↦ inr (omega (arith, less), less)
]

module _ (may : List ℕ → Bool) where
  -- of a row that may not be taken
  no_row : (first row : List ℕ) (rows : List (List ℕ)) → may first ≡ false → may row ≡ true → Contains (first ∷ rows) row → Contains rows row
  no_row first row rows not_may may_row at = elim (where_at first row rows at) [
    | inl same ↦ absurd (false_true (sym not_may ∙ ap may same ∙ may_row))
    | inr in_rest ↦ in_rest
  ]

  -- it changes nothing
  skipped : (first : List ℕ) (rows : List (List ℕ)) (found : Option ℕ) → may first ≡ false → IsLeast may rows found → IsLeast may (first ∷ rows) found
  skipped first rows (Some id) not_may is =
      ((is.0.0, there first is.0.0 rows is.0.1, is.0.2, is.0.3), λ row at may_row. is.1 row (no_row first row rows not_may may_row at) may_row)
  skipped first rows None not_may is = λ row at may_row. is row (no_row first row rows not_may may_row at) may_row

  -- where each row behind the first has a greater id, the first has the least
  first_least : (first : List ℕ) (rows : List (List ℕ)) → may first ≡ true → ((row : List ℕ) → Contains rows row → may row ≡ true → id_of first ≤ id_of row) → IsLeast may (first ∷ rows) (Some (id_of first))
  first_least first rows may_first below = (
    (first, here first rows, may_first, refl),
    λ row at may_row. elim (where_at first row rows at) [
      | inl same ↦ omega (arith, ap id_of same)
      | inr in_rest ↦ below row in_rest may_row
    ],
  )

  -- and else one behind it
  later_least : (first : List ℕ) (rows : List (List ℕ)) (id : ℕ) → id ≤ id_of first → IsLeast may rows (Some id) → IsLeast may (first ∷ rows) (Some id)
  later_least first rows id le is = (
    (is.0.0, there first is.0.0 rows is.0.1, is.0.2, is.0.3),
    λ row at may_row. elim (where_at first row rows at) [
      | inl same ↦ omega (arith, le, ap id_of same)
      | inr in_rest ↦ is.1 row in_rest may_row
    ],
  )

  taken : (first : List ℕ) (rows : List (List ℕ)) (found : Option ℕ) → may first ≡ true → IsLeast may rows found → IsLeast may (first ∷ rows) (Some (unwrap_or (option_map (min (id_of first)) found) (id_of first)))
  taken first rows None may_first is = first_least first rows may_first (λ row at may_row. absurd (is row at may_row))
  taken first rows (Some id) may_first is = elim (lesser (id_of first) id) [
    | inl less ↦ subst (λ (n : ℕ). IsLeast may (first ∷ rows) (Some n)) (sym less.0)
        (first_least first rows may_first (λ row at may_row. omega (arith, less.1, is.1 row at may_row)))
    | inr less ↦ subst (λ (n : ℕ). IsLeast may (first ∷ rows) (Some n)) (sym less.0) (later_least first rows id less.1 is)
  ]

  -- the least id of those that may be taken
  pub least_is : (rows : List (List ℕ)) → IsLeast may rows (least (map id_of (filter may rows)))
  least_is [] = λ row at may_row. let lt = at.1 in omega (arith, lt)
  least_is (first ∷ rows) = by_test (may first)
      (λ is. rw is (taken first rows (least (map id_of (filter may rows))) is (least_is rows)))
      (λ is. rw is (skipped first rows (least (map id_of (filter may rows))) is (least_is rows)))

  -- there is one
  pub one_least : (rows : List (List ℕ)) (a b : Option ℕ) → IsLeast may rows a → IsLeast may rows b → a ≡ b
  one_least rows None None one two = refl
  one_least rows (Some m) None one two = absurd (two one.0.0 one.0.1 one.0.2)
  one_least rows None (Some n) one two = absurd (one two.0.0 two.0.1 two.0.2)
  one_least rows (Some m) (Some n) one two =
      let le = one.1 two.0.0 two.0.1 two.0.2 in
      let ge = two.1 one.0.0 one.0.1 one.0.2 in
      ap Some (omega (arith, le, ge, one.0.3, two.0.3))
