-- What leads from a row to its parent.
use Rattle.std.proofs.Common.{◌≡◌, ℕ, suc, Bool, true, false, ◌&&◌, ◌||◌, List, [], ◌∷◌, map, refl, subst, arith, Option, Some, None}
use Rattle.std.specs.Prelude.{Contains, IfSome, not, if◌then◌else◌, ◌==◌}
use Rattle.std.specs.List.{list_any}
use Rattle.gaz_num.specs.Pieces.{column}
use Rattle.gaz_row.specs.Row.{id_of}
use Rattle.gaz_tables.specs.declared.link.LinkClass.{LinkClass}
use Rattle.gaz_tables.specs.declared.link.LinkClass.TheVariants.{Adm, Plain}
use Rattle.gaz_parent.specs.Parent.{Lists, first_some, may_be, least_other, linked, is_link, has_path, division, is_division_of, downwards, first_level, division_above, has_country, names, is_country_of, country_above, parent_of}
use Rattle.gaz_parent.specs.Laws.{IsLeast, LeadsTo, by_link, by_codes, by_table, by_country, ParentsAreLedTo}
use Rattle.gaz_parent.proofs.Least.{false_true, least_is}
use Rattle.gaz_parent.proofs.Others.{first_of}

-- one that passes
abbrev AnyOf : (List ℕ → Bool) → List (List ℕ) → Type 0
AnyOf test lines = (line : List ℕ) × Contains lines line × (test line ≡ true)

in_either : (test : List ℕ → Bool) (line : List ℕ) (lines : List (List ℕ)) (passes : Bool) → test line ≡ passes → (passes || list_any test lines) ≡ true → (list_any test lines ≡ true → AnyOf test lines) → AnyOf test (line ∷ lines)
in_either test line lines true is any later = (line, (0, omega arith, refl), is)
in_either test line lines false is any later =
    let found = later any in
    let at = found.1 in
    let lt = at.1 in
    (found.0, (suc at.0, omega arith, at.2), found.2)

any_is : (test : List ℕ → Bool) (lines : List (List ℕ)) → list_any test lines ≡ true → AnyOf test lines
any_is test [] any = absurd (false_true any)
any_is test (line ∷ lines) any = in_either test line lines (test line) refl any (any_is test lines)

and_left : (a b : Bool) → (a && b) ≡ true → a ≡ true
and_left true b both = refl
and_left false b both = absurd (false_true both)

-- a row that passes a rule's test has what is to be shown
by_least : (lists : Lists) (id : ℕ) (test : List ℕ → Bool) (P : ℕ → Type 0) (found : Option ℕ)
    → ((place : List ℕ) → Contains lists.rows place → test place ≡ true → P (id_of place)) → IsLeast (may_be id test) lists.rows found → IfSome found P
by_least lists id test P None holds is = tt
by_least lists id test P (Some n) holds is = subst P is.0.3 (holds is.0.0 is.0.1 (and_left (test is.0.0) (not (id_of is.0.0 == id)) is.0.2))

by_rule : (lists : Lists) (id : ℕ) (test : List ℕ → Bool) (P : ℕ → Type 0)
    → ((place : List ℕ) → Contains lists.rows place → test place ≡ true → P (id_of place)) → IfSome (least_other lists id test) P
by_rule lists id test P holds = by_least lists id test P (least_other lists id test) holds (least_is (may_be id test) lists.rows)

-- where the row leads there
where_it_leads : (P : ℕ → Type 0) (leads : Bool) (found : Option ℕ) → (leads ≡ true → IfSome found P) → IfSome (if leads then found else None) P
where_it_leads P true found is = is refl
where_it_leads P false found is = tt

module _ (lists : Lists) (row : List ℕ) where
  abbrev Led : ℕ → Type 0
  Led id = LeadsTo lists row id

  link_leads : (class : LinkClass) → IfSome (linked lists (id_of row) class) Led
  unfolding linked
  link_leads class =
      by_rule lists (id_of row) (λ other. list_any (is_link class (id_of row) (id_of other)) lists.links) Led
      (λ place at any.
      let link = any_is (is_link class (id_of row) (id_of place)) lists.links any in
      by_link class link.0 link.1 link.2)

  codes_lead : (level : ℕ) → IfSome (division lists level row) Led
  unfolding division
  codes_lead level =
      where_it_leads Led (has_path level row) (least_other lists (id_of row) (is_division_of level row))
      (λ leads. by_rule lists (id_of row) (is_division_of level row) Led (λ place at is. by_codes level place at refl leads is))

  levels_lead : (levels : List ℕ) → IfSome (first_some (map (λ k. division lists k row) levels)) Led
  levels_lead [] = tt
  levels_lead (level ∷ levels) = first_of Led (division lists level row) (map (λ k. division lists k row) levels) (codes_lead level) (levels_lead levels)

  table_leads : has_country row ≡ true → IfSome (least_other lists (id_of row) (λ other. list_any (names (column 9 row) (id_of other)) lists.countries)) Led
  table_leads leads =
      by_rule lists (id_of row) (λ other. list_any (names (column 9 row) (id_of other)) lists.countries) Led
      (λ place at any.
      let line = any_is (names (column 9 row) (id_of place)) lists.countries any in
      by_table line.0 line.1 leads line.2)

  country_leads : has_country row ≡ true → IfSome (least_other lists (id_of row) (is_country_of (column 9 row))) Led
  country_leads leads = by_rule lists (id_of row) (is_country_of (column 9 row)) Led (λ place at is. by_country place at refl leads is)

  countries_lead : IfSome (country_above lists row) Led
  unfolding country_above
  countries_lead =
      where_it_leads Led (has_country row) _
      (λ leads. first_of Led _ _ (table_leads leads) (first_of Led _ _ (country_leads leads) tt))

  rules_lead : IfSome (parent_of lists row) Led
  rules_lead =
      first_of Led (linked lists (id_of row) Adm) _ (link_leads Adm)
      (first_of Led (division_above lists (first_level row) row) _ (levels_lead (downwards (first_level row)))
      (first_of Led (country_above lists row) _ countries_lead
      (first_of Led (linked lists (id_of row) Plain) [] (link_leads Plain) tt)))

pub parents_led_to : ParentsAreLedTo
parents_led_to lists row id is = subst (λ (found : Option ℕ). IfSome found (LeadsTo lists row)) is (rules_lead lists row)
