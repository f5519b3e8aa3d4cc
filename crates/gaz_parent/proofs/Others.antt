-- A parent is a row of the gazetteer, and never the row itself.
use Rattle.std.proofs.Common.{◌≡◌, ◌≢◌, ℕ, Bool, true, false, ◌&&◌, List, [], ◌∷◌, map, sym, ap, subst, ◌∙◌, Option, Some, None, eq-eqb}
use Rattle.std.specs.Prelude.{Contains, IfSome, not, if◌then◌else◌, ◌==◌}
use Rattle.gaz_row.specs.Row.{id_of}
use Rattle.gaz_tables.specs.declared.link.LinkClass.{LinkClass}
use Rattle.gaz_tables.specs.declared.link.LinkClass.TheVariants.{Adm, Plain}
use Rattle.gaz_parent.specs.Parent.{Lists, first_some, may_be, least_other, linked, has_path, division, is_division_of, downwards, first_level, division_above, has_country, country_above, parent_of}
use Rattle.gaz_parent.specs.Laws.{IsLeast, ParentsAreOthers}
use Rattle.gaz_parent.proofs.Least.{false_true, least_is}

-- the id of a row, and not this one
abbrev IsAnother : Lists → ℕ → ℕ → Type 0
IsAnother lists id n = ((other : List ℕ) × Contains lists.rows other × (id_of other ≡ n)) × (n ≢ id)

and_right : (a b : Bool) → (a && b) ≡ true → b ≡ true
and_right true b both = both
and_right false b both = absurd (false_true both)

not_same : (m n : ℕ) → not (m == n) ≡ true → m ≢ n
not_same m n differs same = false_true (sym (ap not (eq-eqb m n same)) ∙ differs)

by_least : (lists : Lists) (id : ℕ) (test : List ℕ → Bool) (found : Option ℕ) → IsLeast (may_be id test) lists.rows found → IfSome found (IsAnother lists id)
by_least lists id test None is = tt
by_least lists id test (Some n) is =
    let other = is.0.0 in
    let differs = not_same (id_of other) id (and_right (test other) (not (id_of other == id)) is.0.2) in
    ((other, is.0.1, is.0.3), λ same. differs (is.0.3 ∙ same))

another : (lists : Lists) (id : ℕ) (test : List ℕ → Bool) → IfSome (least_other lists id test) (IsAnother lists id)
another lists id test = by_least lists id test (least_other lists id test) (least_is (may_be id test) lists.rows)

-- of a list of candidates
pub first_of : (P : ℕ → Type 0) (found : Option ℕ) (more : List (Option ℕ)) → IfSome found P → IfSome (first_some more) P → IfSome (first_some (found ∷ more)) P
first_of P None more one rest = rest
first_of P (Some n) more one rest = one

if_test : (P : ℕ → Type 0) (test : Bool) (found : Option ℕ) → IfSome found P → IfSome (if test then found else None) P
if_test P true found is = is
if_test P false found is = tt

module _ (lists : Lists) (row : List ℕ) where
  by_link : (class : LinkClass) → IfSome (linked lists (id_of row) class) (IsAnother lists (id_of row))
  unfolding linked
  by_link class = another lists (id_of row) _

  by_level : (level : ℕ) → IfSome (division lists level row) (IsAnother lists (id_of row))
  unfolding division
  by_level level = if_test (IsAnother lists (id_of row)) (has_path level row) (least_other lists (id_of row) (is_division_of level row)) (another lists (id_of row) (is_division_of level row))

  by_levels : (levels : List ℕ) → IfSome (first_some (map (λ k. division lists k row) levels)) (IsAnother lists (id_of row))
  by_levels [] = tt
  by_levels (level ∷ levels) = first_of (IsAnother lists (id_of row)) (division lists level row) (map (λ k. division lists k row) levels) (by_level level) (by_levels levels)

  by_country : IfSome (country_above lists row) (IsAnother lists (id_of row))
  unfolding country_above
  by_country =
      if_test (IsAnother lists (id_of row)) (has_country row) _
      (first_of (IsAnother lists (id_of row)) _ _ (another lists (id_of row) _)
      (first_of (IsAnother lists (id_of row)) _ _ (another lists (id_of row) _) tt))

  by_rules : IfSome (parent_of lists row) (IsAnother lists (id_of row))
  by_rules =
      first_of (IsAnother lists (id_of row)) (linked lists (id_of row) Adm) _ (by_link Adm)
      (first_of (IsAnother lists (id_of row)) (division_above lists (first_level row) row) _ (by_levels (downwards (first_level row)))
      (first_of (IsAnother lists (id_of row)) (country_above lists row) _ by_country
      (first_of (IsAnother lists (id_of row)) (linked lists (id_of row) Plain) [] (by_link Plain) tt)))

pub parents_others : ParentsAreOthers
parents_others lists row id is = subst (λ (found : Option ℕ). IfSome found (IsAnother lists (id_of row))) is (by_rules lists row)
