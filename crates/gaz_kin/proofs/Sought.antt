-- How much the parent rule reads of one row, and of all rows at most.
use Rattle.std.proofs.Common.{◌≡◌, ◌≤◌, ◌+◌, ◌*◌, ℕ, zero, suc, max, List, [], ◌∷◌, ◌++◌, map, subst, arith, inl, inr, Some}
use Rattle.std.specs.Prelude.{Contains}
use Rattle.std.specs.List.{sum_by}
use Rattle.std.proofs.Math.Nat.{mul-le-mul_right, le-max_left, le-max_right}
use Rattle.std.proofs.lemmas.List.Sums.{sum_by-append, sum_by-cons}
use Rattle.gaz_num.specs.declared.words.Table.TheVariants.{Rows}
use Rattle.gaz_row.specs.Row.{id_of}
use Rattle.gaz_tables.specs.declared.link.LinkClass.TheVariants.{Adm, Plain}
use Rattle.gaz_parent.specs.Parent.{first_level}
use Rattle.gaz_parent.specs.Questions.{by_link, by_country, divisions, questions}
use Rattle.gaz_plain.specs.Gazetteer.{Gazetteer, line_with}
use Rattle.gaz_plain.proofs.Sought.{found_in}
use Rattle.gaz_keys.proofs.Tags.{contained, contained_none}
use Rattle.gaz_kin.specs.Reads.{alike_at, parents_sought, most_for, greatest, most_sought}
use Rattle.gaz_kin.proofs.Reached.{level_first_low}

module _ (gaz : Gazetteer) (row : List ℕ) where
  -- the divisions from a level downwards
  few_divisions : (level : ℕ) → level ≤ 4 → sum_by (most_for gaz) (divisions level row) + 35 * alike_at gaz row 0 ≤ 35 * sum_by (alike_at gaz row) (0 ∷ 1 ∷ 2 ∷ 3 ∷ 4 ∷ []) + 48
  few_divisions zero low = omega arith
  few_divisions (suc zero) low = omega arith
  few_divisions (suc (suc zero)) low = omega arith
  few_divisions (suc (suc (suc zero))) low = omega arith
  few_divisions (suc (suc (suc (suc zero)))) low = omega arith
  few_divisions (suc (suc (suc (suc (suc level))))) low = absurd (omega (arith, low))

  -- all questions
  pub few_questions : sum_by (most_for gaz) (questions row) ≤ 35 * parents_sought gaz row + 130
  few_questions =
      let few = few_divisions (first_level row) (level_first_low row) in
      let apart = sum_by-append (most_for gaz) (divisions (first_level row) row) (by_country row ∷ by_link (id_of row) Plain ∷ []) in
      let head = sum_by-cons (most_for gaz) (by_link (id_of row) Adm) (divisions (first_level row) row ++ by_country row ∷ by_link (id_of row) Plain ∷ []) in
      omega (arith, few, apart, head)

-- the greatest is no less than any
no_less : {X : Type 0} (of : X → ℕ) (xs : List X) (x : X) → Contains xs x → of x ≤ greatest (map of xs)
no_less of [] x has = absurd (contained_none x has)
no_less of (y ∷ ys) x has = elim (contained y ys x has) [
  | inl same ↦ subst (λ z. of z ≤ max (of y) (greatest (map of ys))) same (le-max_left (of y) (greatest (map of ys)))
  | inr later ↦ let le = no_less of ys x later in let right = le-max_right (of y) (greatest (map of ys)) in omega (arith, le, right)
]

pub at_most : (gaz : Gazetteer) (id : ℕ) (row : List ℕ) → line_with Rows (id ∷ []) gaz ≡ Some row → parents_sought gaz row ≤ most_sought gaz
unfolding most_sought
at_most gaz id row at = no_less (parents_sought gaz) gaz.rows row (found_in (id ∷ []) row gaz.rows at)

-- So many places were gone through, and there are no fewer in all.
pub gone_through : (gone long most old now : ℕ) → gone ≤ long → now ≤ old + 64 * (gone * most) → now ≤ old + 64 * (long * most)
gone_through gone long most old now fewer reads = let le = mul-le-mul_right most fewer in omega (arith, reads, le)
