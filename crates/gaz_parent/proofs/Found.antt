-- What whoever answers a rule has to show: that it found the least id of the rows that may be taken.
use Rattle.std.proofs.Common.{◌≡◌, ℕ, Bool, true, false, List, [], ◌∷◌, refl, ap, ◌∙◌, Option, Some, None}
use Rattle.std.specs.List.{list_any}
use Rattle.gaz_num.specs.Pieces.{column}
use Rattle.gaz_row.specs.Row.{id_of}
use Rattle.gaz_tables.specs.declared.link.LinkClass.{LinkClass}
use Rattle.gaz_parent.specs.Parent.{Lists, first_some, may_be, least_other, is_link, linked, has_path, is_division_of, division, names, is_country_of, has_country, country_above}
use Rattle.gaz_parent.specs.Laws.{IsLeast}
use Rattle.gaz_parent.proofs.Least.{least_is, one_least}

pub is_least_other : (lists : Lists) (id : ℕ) (test : List ℕ → Bool) (found : Option ℕ) → IsLeast (may_be id test) lists.rows found → found ≡ least_other lists id test
is_least_other lists id test found is = one_least (may_be id test) lists.rows found (least_other lists id test) is (least_is (may_be id test) lists.rows)

-- the test of a parent by links
abbrev pub by_links : Lists → ℕ → LinkClass → List ℕ → Bool
by_links lists child class other = list_any (is_link class child (id_of other)) lists.links

pub is_linked : (lists : Lists) (child : ℕ) (class : LinkClass) (found : Option ℕ) → IsLeast (may_be child (by_links lists child class)) lists.rows found → found ≡ linked lists child class
unfolding linked
is_linked lists child class found is = is_least_other lists child (by_links lists child class) found is

-- a division, where the row leads to one
pub is_division : (lists : Lists) (level : ℕ) (row : List ℕ) (found : Option ℕ) → has_path level row ≡ true → IsLeast (may_be (id_of row) (is_division_of level row)) lists.rows found → found ≡ division lists level row
unfolding division
is_division lists level row found leads is = rw leads (is_least_other lists (id_of row) (is_division_of level row) found is)

pub no_division : (lists : Lists) (level : ℕ) (row : List ℕ) → has_path level row ≡ false → None ≡ division lists level row
unfolding division
no_division lists level row leads = rw leads refl

-- the test of a country by the table of countries
abbrev pub by_countries : Lists → List ℕ → List ℕ → Bool
by_countries lists row other = list_any (names (column 9 row) (id_of other)) lists.countries

-- a country that the table names, where the row leads to one
pub is_named_country : (lists : Lists) (row : List ℕ) (id : ℕ) → has_country row ≡ true → IsLeast (may_be (id_of row) (by_countries lists row)) lists.rows (Some id) → Some id ≡ country_above lists row
unfolding country_above
is_named_country lists row id leads is =
    rw leads (ap (λ found. first_some (found ∷ least_other lists (id_of row) (is_country_of (column 9 row)) ∷ [])) (is_least_other lists (id_of row) (by_countries lists row) (Some id) is))

-- one that it doesn't name
pub is_country_by_row : (lists : Lists) (row : List ℕ) (found : Option ℕ) → has_country row ≡ true → IsLeast (may_be (id_of row) (by_countries lists row)) lists.rows None → IsLeast (may_be (id_of row) (is_country_of (column 9 row))) lists.rows found → found ≡ country_above lists row
unfolding country_above
is_country_by_row lists row found leads unnamed is =
    rw leads
    (alone found
    ∙ ap (λ later. first_some (later ∷ [])) (is_least_other lists (id_of row) (is_country_of (column 9 row)) found is)
    ∙ ap (λ first. first_some (first ∷ least_other lists (id_of row) (is_country_of (column 9 row)) ∷ [])) (is_least_other lists (id_of row) (by_countries lists row) None unnamed))
  where
    alone : (one : Option ℕ) → one ≡ first_some (one ∷ [])
    alone None = refl
    alone (Some n) = refl

pub no_country : (lists : Lists) (row : List ℕ) → has_country row ≡ false → None ≡ country_above lists row
unfolding country_above
no_country lists row leads = rw leads refl
