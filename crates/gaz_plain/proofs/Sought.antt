-- The least row that passes a test, sought among ids that rise.
use Rattle.std.proofs.Common.{◌≡◌, ℕ, zero, suc, ◌<◌, ◌≤◌, Bool, true, false, true≢false, List, [], ◌∷◌, map, filter, get_or, refl, sym, ap, ap₂, subst, ◌∙◌, arith, length, Option, Some, None}
use Rattle.std.specs.Prelude.{Contains, ◌&&◌, ◌||◌, ◌==◌, is_some, unwrap_or}
use Rattle.std.specs.List.{list_any, AllByRecursion}
use Rattle.std.specs.Str.{bytes_eq}
use Rattle.std.specs.Ordering.{is_eq}
use Rattle.std.proofs.lemmas.Bool.{or_left, or_right}
use Rattle.std.proofs.lemmas.Bool.Decides.{Decides-eqb}
use Rattle.std.proofs.lemmas.Slice.Eq.{bytes_eq-Decides}
use Rattle.std.proofs.lemmas.List.Folds.{list_any-append}
use Rattle.gaz_num.specs.declared.words.Table.TheVariants.{Rows, Links}
use Rattle.gaz_num.specs.Pieces.{column}
use Rattle.gaz_row.specs.Row.{id_of}
use Rattle.gaz_tables.specs.declared.link.LinkClass.{LinkClass}
use Rattle.gaz_tables.specs.Keys.{class_number}
use Rattle.gaz_parent.specs.Parent.{is_this, least, may_be, is_link, level_of, same_path, is_division_of, is_country_row, is_country_of}
use Rattle.gaz_parent.specs.Laws.{IsLeast}
use Rattle.gaz_parent.proofs.Least.{least_is, one_least}
use Rattle.gaz_pick.proofs.OrderLemmas.{by_test}
use Rattle.gaz_plain.specs.Gazetteer.{Gazetteer, IsGazetteer, IsTable, key_of, key_cmp, line_at, line_with}
use Rattle.gaz_plain.specs.Ordered.{number_of, path_number, country_number, entity_numbers, division_numbers, row_numbers, is_one_in, passes_at, has_id, IdsRise}
use Rattle.gaz_plain.proofs.Selected.{key_is_id, found_by_key}
use Rattle.gaz_plain.proofs.Foremost.{row_at, found_id, link_found}

-- a row that is found is one of all
pub found_in : (key row : List ℕ) (rows : List (List ℕ)) → line_at Rows key rows ≡ Some row → Contains rows row
found_in key row [] at = cc
found_in key row (r ∷ rs) at =
    by_test (is_eq (key_cmp (key_of Rows r) key))
    (λ here. let same : r ≡ row = ap (λ (o : Option (List ℕ)). unwrap_or o []) (same_some r row (rw here at at)) in (0, omega arith, same))
    (λ other. let more = found_in key row rs (rw other at at) in (suc more.0, more_in more.0 more.1, more.2))
  where
    same_some : (a b : List ℕ) → Some a ≡ Some b → Some a ≡ Some b
    same_some a b same = same

    more_in : (k : ℕ) → k < length rs → suc k < length (r ∷ rs)
    more_in k below = omega (arith, below)

-- and one of all is found
pub all_found : (rows : List (List ℕ)) (row : List ℕ) → IsTable Rows rows → Contains rows row → line_at Rows (id_of row ∷ []) rows ≡ Some row
all_found rows row table at =
    let row_is : get_or rows at.0 row ≡ row = at.2 in
    let key = key_is_id (get_or rows at.0 row) (table.each at.0 row at.1) ∙ ap (λ r. id_of r ∷ []) row_is in
    ap (λ key. line_at Rows key rows) (sym key) ∙ found_by_key Rows rows at.0 row table.rising at.1 ∙ ap Some row_is

later_than : (n id : ℕ) (pairs : List (ℕ × ℕ)) → AllByRecursion (λ later. n < later.1) pairs → has_id pairs id ≡ true → n < id
later_than n id [] above there = absurd (true≢false (sym there))
later_than n id (p ∷ ps) above there =
    by_test (p.1 == id)
    (λ is. subst (λ m. n < m) ((Decides-eqb p.1 id).0 is) above.0)
    (λ isnt. later_than n id ps above.1 (rw isnt at there))

module _ (may : List ℕ → Bool) (rows : List (List ℕ)) where
  -- All rows that pass are among the ids still to come, which rise.
  pub record AreSought (rest : List (ℕ × ℕ)) : Type 0 where
    pub rising : IdsRise rest
    pub all : (id : ℕ) (row : List ℕ) → line_at Rows (id ∷ []) rows ≡ Some row → may row ≡ true → has_id rest id ≡ true

  pub sought_on : (q : ℕ × ℕ) (before rest : List (ℕ × ℕ)) → before ≡ q ∷ rest → passes_at may (line_at Rows (q.1 ∷ []) rows) ≡ false → AreSought before → AreSought rest
  sought_on q before rest steps fails sought =
      let rising = subst IdsRise steps sought.rising in record {
        rising = rising.1;
        all = λ id row at passes.
            let either : (q.1 == id || has_id rest id) ≡ true = ap (λ pairs. has_id pairs id) (sym steps) ∙ sought.all id row at passes in
            by_test (q.1 == id)
            (λ is.
            let own : passes_at may (line_at Rows (q.1 ∷ []) rows) ≡ true = ap (λ n. passes_at may (line_at Rows (n ∷ []) rows)) ((Decides-eqb q.1 id).0 is) ∙ ap (passes_at may) at ∙ passes in
            absurd (true≢false (sym own ∙ fails)))
            (λ isnt. rw isnt at either);
      }

  sought_least : (q : ℕ × ℕ) (rest : List (ℕ × ℕ)) → AreSought (q ∷ rest) → IsTable Rows rows → (found : Option (List ℕ)) → line_at Rows (q.1 ∷ []) rows ≡ found → passes_at may found ≡ true → IsLeast may rows (Some q.1)
  sought_least q rest sought table None at passes = absurd (true≢false (sym passes))
  sought_least q rest sought table (Some row) at passes = (
    (row, found_in (q.1 ∷ []) row rows at, passes, found_id q.1 rows row (row_at q.1 rows table.each ∙ at)),
    λ other in_rows other_passes.
        let there : (q.1 == id_of other || has_id rest (id_of other)) ≡ true = sought.all (id_of other) other (all_found rows other table in_rows) other_passes in
        by_test (q.1 == id_of other)
        (λ is. let same = (Decides-eqb q.1 (id_of other)).0 is in omega (arith, same))
        (λ isnt. let less = later_than q.1 (id_of other) rest sought.rising.0 (rw isnt at there) in omega (arith, less)),
  )

  pub sought_found : (q : ℕ × ℕ) (before rest : List (ℕ × ℕ)) → before ≡ q ∷ rest → passes_at may (line_at Rows (q.1 ∷ []) rows) ≡ true → AreSought before → IsTable Rows rows → Some q.1 ≡ least (map id_of (filter may rows))
  sought_found q before rest steps passes sought table =
      one_least may rows (Some q.1) (least (map id_of (filter may rows)))
      (sought_least q rest (subst AreSought steps sought) table (line_at Rows (q.1 ∷ []) rows) refl passes)
      (least_is may rows)

  pub sought_none : (rest : List (ℕ × ℕ)) → rest ≡ [] → AreSought rest → IsTable Rows rows → None ≡ least (map id_of (filter may rows))
  sought_none rest ends sought table =
      let none = subst AreSought ends sought in
      one_least may rows None (least (map id_of (filter may rows)))
      (λ row in_rows passes. true≢false (sym (none.all (id_of row) row (all_found rows row table in_rows) passes)))
      (least_is may rows)

-- ---- what passes has a number

pub left : (a b : Bool) → (a && b) ≡ true → a ≡ true
left true b both = refl
left false b both = both

pub right : (a b : Bool) → (a && b) ≡ true → b ≡ true
right true b both = both
right false b both = absurd (true≢false (sym both))

text_is : (row other : List ℕ) (n : ℕ) → bytes_eq (column n other) (column n row) ≡ true → column n other ≡ column n row
text_is row other n same = (bytes_eq-Decides (column n other) (column n row)).0 same

-- a number that is there
pub level_is : (level : ℕ) (found : Option ℕ) → is_this level found ≡ true → found ≡ Some level
level_is level None is = absurd (true≢false (sym is))
level_is level (Some n) is = ap Some ((Decides-eqb n level).0 is)

-- rows with one path have one number
module _ (row other : List ℕ) where
  abbrev same : ℕ → Bool
  same n = bytes_eq (column n other) (column n row)

  pub path_same : (level : ℕ) → level ≤ 4 → same_path level row other ≡ true → path_number level other ≡ path_number level row
  path_same zero le is = ap (number_of 0) (text_is row other 9 (left (same 9) _ is))
  path_same (suc zero) le is =
      let c = ap (number_of 0) (text_is row other 9 (left (same 9) _ is)) in
      ap₂ number_of c (text_is row other 11 (left (same 11) _ (right (same 9) _ is)))
  path_same (suc (suc zero)) le is =
      let r = right (same 9) _ is in
      let c = ap (number_of 0) (text_is row other 9 (left (same 9) _ is)) in
      let one = ap₂ number_of c (text_is row other 11 (left (same 11) _ r)) in
      ap₂ number_of one (text_is row other 12 (left (same 12) _ (right (same 11) _ r)))
  path_same (suc (suc (suc zero))) le is =
      let r = right (same 9) _ is in
      let s = right (same 11) _ r in
      let c = ap (number_of 0) (text_is row other 9 (left (same 9) _ is)) in
      let one = ap₂ number_of c (text_is row other 11 (left (same 11) _ r)) in
      let two = ap₂ number_of one (text_is row other 12 (left (same 12) _ s)) in
      ap₂ number_of two (text_is row other 13 (left (same 13) _ (right (same 12) _ s)))
  path_same (suc (suc (suc (suc zero)))) le is =
      let r = right (same 9) _ is in
      let s = right (same 11) _ r in
      let t = right (same 12) _ s in
      let c = ap (number_of 0) (text_is row other 9 (left (same 9) _ is)) in
      let one = ap₂ number_of c (text_is row other 11 (left (same 11) _ r)) in
      let two = ap₂ number_of one (text_is row other 12 (left (same 12) _ s)) in
      let three = ap₂ number_of two (text_is row other 13 (left (same 13) _ t)) in
      ap₂ number_of three (text_is row other 14 (left (same 14) _ (right (same 13) _ t)))
  path_same (suc (suc (suc (suc (suc level))))) le is = absurd (omega (arith, le))

  -- a division is found by the number of the path
  pub division_numbered : (level : ℕ) → level ≤ 4 → may_be (id_of row) (is_division_of level row) other ≡ true → is_one_in (row_numbers other) (path_number level row) ≡ true
  division_numbered level le may =
      let division = left (is_division_of level row other) _ may in
      let own : level_of other ≡ Some level = level_is level (level_of other) (left (is_this level (level_of other)) _ division) in
      let number : (path_number level other == path_number level row) ≡ true = (Decides-eqb (path_number level other) (path_number level row)).1 (path_same level le (right (is_this level (level_of other)) _ division)) in
      let mine : is_one_in (division_numbers other (level_of other)) (path_number level row) ≡ true = rw own (rw number refl) in
      or_right (path_number 0 other == path_number level row) _ (list_any-append (λ n. n == path_number level row) (entity_numbers other) (division_numbers other (level_of other)) ∙ or_right (is_one_in (entity_numbers other) (path_number level row)) _ mine)

  -- a country's row by that of the country
  pub country_numbered : may_be (id_of row) (is_country_of (column 9 row)) other ≡ true → is_one_in (row_numbers other) (country_number (column 9 row)) ≡ true
  country_numbered may =
      let country = left (is_country_of (column 9 row) other) _ may in
      let own = left (is_country_row other) _ country in
      let number : (country_number (column 9 other) == country_number (column 9 row)) ≡ true = (Decides-eqb (country_number (column 9 other)) (country_number (column 9 row))).1 (ap country_number (text_is row other 9 (right (is_country_row other) _ country))) in
      let mine : is_one_in (entity_numbers other) (country_number (column 9 row)) ≡ true = rw own (rw number refl) in
      or_right (path_number 0 other == country_number (column 9 row)) _ (list_any-append (λ n. n == country_number (column 9 row)) (entity_numbers other) (division_numbers other (level_of other)) ∙ or_left (is_one_in (entity_numbers other) (country_number (column 9 row))) _ mine)

-- ---- where it is sought

-- among the ids of a number that all that pass have
pub numbered_sought : (gaz : Gazetteer) (may : List ℕ → Bool) (number : ℕ) → ((row : List ℕ) → may row ≡ true → is_one_in (row_numbers row) number ≡ true) → (pairs : List (ℕ × ℕ)) → IdsRise pairs
    → ((id : ℕ) (row : List ℕ) → line_with Rows (id ∷ []) gaz ≡ Some row → is_one_in (row_numbers row) number ≡ true → has_id pairs id ≡ true) → AreSought may gaz.rows pairs
numbered_sought gaz may number have pairs rising all = record {
  rising = rising;
  all = λ id row at passes. all id row at (have row passes);
}

-- among the ids of the parents of a child
pub linked_sought : (gaz : Gazetteer) → IsGazetteer gaz → (child : ℕ) (class : LinkClass) (pairs : List (ℕ × ℕ)) → IdsRise pairs
    → ((parent : ℕ) (link : List ℕ) → line_with Links (child ∷ class_number class ∷ parent ∷ []) gaz ≡ Some link → has_id pairs parent ≡ true) → AreSought (may_be child (λ other. list_any (is_link class child (id_of other)) gaz.links)) gaz.rows pairs
linked_sought gaz is child class pairs rising all = record {
  rising = rising;
  all = λ id row at passes.
      let own : id_of row ≡ id = found_id id gaz.rows row (row_at id gaz.rows (is.tables Rows).each ∙ at) in
      let link : list_any (is_link class child id) gaz.links ≡ true = ap (λ n. list_any (is_link class child n) gaz.links) (sym own) ∙ left (list_any (is_link class child (id_of row)) gaz.links) _ passes in
      by_found id (line_with Links (child ∷ class_number class ∷ id ∷ []) gaz) refl (link_found class child id gaz.links (is.tables Links).each ∙ link);
}
  where
    by_found : (id : ℕ) (found : Option (List ℕ)) → line_with Links (child ∷ class_number class ∷ id ∷ []) gaz ≡ found → is_some (line_with Links (child ∷ class_number class ∷ id ∷ []) gaz) ≡ true → has_id pairs id ≡ true
    by_found id None at some = absurd (true≢false (sym some ∙ ap is_some at))
    by_found id (Some link) at some = all id link at
