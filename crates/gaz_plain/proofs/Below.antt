-- From where a parent is reached: by a link, from the same country, or by the line of a country.
use Rattle.std.proofs.Common.{◌≡◌, ℕ, Bool, true, false, true≢false, List, [], ◌∷◌, map, refl, sym, ap, subst, ◌∙◌, Option, Some, None, ◌⊎◌, inl, inr}
use Rattle.std.specs.Prelude.{◌||◌, unwrap_or, if◌then◌else◌}
use Rattle.std.specs.List.{list_any}
use Rattle.std.specs.Str.{bytes_eq}
use Rattle.std.proofs.lemmas.Bool.{or_left, or_right}
use Rattle.std.proofs.lemmas.Slice.Eq.{bytes_eq-Decides}
use Rattle.gaz_num.specs.Pieces.{column}
use Rattle.gaz_num.specs.declared.words.Table.TheVariants.{Rows}
use Rattle.gaz_row.specs.Row.{id_of}
use Rattle.gaz_tables.specs.declared.link.LinkClass.{LinkClass}
use Rattle.gaz_tables.specs.declared.link.LinkClass.TheVariants.{Adm, Plain}
use Rattle.gaz_parent.specs.Parent.{is_this, first_some, may_be, least_other, is_link, linked, has_path, level_of, is_division_of, division, downwards, first_level, division_above, names, is_country_row, is_country_of, has_country, country_above, parent_of}
use Rattle.gaz_parent.specs.Chain.{is_child}
use Rattle.gaz_parent.specs.Laws.{IsLeast}
use Rattle.gaz_parent.proofs.Least.{least_is}
use Rattle.gaz_parent.proofs.Others.{parents_others}
use Rattle.gaz_pick.proofs.OrderLemmas.{by_test}
use Rattle.gaz_plain.specs.Gazetteer.{Gazetteer, IsGazetteer, line_with}
use Rattle.gaz_plain.specs.Kin.{lists_of}
use Rattle.gaz_plain.specs.Children.{is_linked_to, is_of_country, is_named_in}
use Rattle.gaz_plain.proofs.Sought.{left, right, all_found, level_is}

-- the first of some is one of them
first_or_later : (n : ℕ) (found : Option ℕ) (more : List (Option ℕ)) → first_some (found ∷ more) ≡ Some n → (found ≡ Some n) ⊎ (first_some more ≡ Some n)
first_or_later n None more is = inr is
first_or_later n (Some m) more is = inl is

if_some : (n : ℕ) (test : Bool) (found : Option ℕ) → (if test then found else None) ≡ Some n → found ≡ Some n
if_some n true found is = is
if_some n false found is = cc

module _ (gaz : Gazetteer) (is : IsGazetteer gaz) (id : ℕ) where
  -- the row of a parent, and its test
  record IsTaken (row : List ℕ) (test : List ℕ → Bool) : Type 0 where
    other : List ℕ
    found : line_with Rows (id ∷ []) gaz ≡ Some other
    passes : test other ≡ true
    has : id_of other ≡ id

  taken : (row : List ℕ) (test : List ℕ → Bool) → least_other (lists_of gaz) (id_of row) test ≡ Some id → IsTaken row test
  taken row test at =
      let least = subst (λ (found : Option ℕ). IsLeast (may_be (id_of row) test) gaz.rows found) at (least_is (may_be (id_of row) test) gaz.rows) in
      let other = least.0.0 in record {
        other = other;
        found = ap (λ n. line_with Rows (n ∷ []) gaz) (sym least.0.3) ∙ all_found gaz.rows other (is.tables Rows) least.0.1;
        passes = left (test other) _ least.0.2;
        has = least.0.3;
      }

  module _ (place : List ℕ) (at_place : line_with Rows (id ∷ []) gaz ≡ Some place) (row : List ℕ) where
    -- whether it is reached
    abbrev reached : Bool
    reached = (is_linked_to gaz id row || is_of_country (column 9 place) row) || is_named_in gaz.countries id (column 9 place) row

    of_country : (other : List ℕ) → line_with Rows (id ∷ []) gaz ≡ Some other → bytes_eq (column 9 other) (column 9 row) ≡ true → reached ≡ true
    of_country other found same =
        let is_place : other ≡ place = ap (λ (o : Option (List ℕ)). unwrap_or o []) (sym found ∙ at_place) in
        or_left (is_linked_to gaz id row || is_of_country (column 9 place) row) _
        (or_right (is_linked_to gaz id row) _ (ap (λ r. bytes_eq (column 9 r) (column 9 row)) (sym is_place) ∙ same))

    -- a line names the place for its own country or for another one
    of_named : (lines : List (List ℕ)) → list_any (names (column 9 row) id) lines ≡ true → is_of_country (column 9 place) row ≡ false → is_named_in lines id (column 9 place) row ≡ true
    of_named [] named other = named
    of_named (line ∷ lines) named other =
        by_test (names (column 9 row) id line)
        (λ here.
        let code : column 1 line ≡ column 9 row = (bytes_eq-Decides (column 1 line) (column 9 row)).0 (left (bytes_eq (column 1 line) (column 9 row)) _ here) in
        let apart : bytes_eq (column 1 line) (column 9 place) ≡ false =
        by_test (bytes_eq (column 1 line) (column 9 place))
        (λ same.
        let own : column 9 place ≡ column 9 row = sym ((bytes_eq-Decides (column 1 line) (column 9 place)).0 same) ∙ code in
        absurd (true≢false (sym ((bytes_eq-Decides (column 9 place) (column 9 row)).1 own) ∙ other)))
        (λ isnt. isnt) in
        rw (here, apart) refl)
        (λ isnt. rw isnt (of_named lines (rw isnt at named) other))

    by_names : list_any (names (column 9 row) id) gaz.countries ≡ true → reached ≡ true
    by_names named =
        by_test (is_of_country (column 9 place) row)
        (λ own. or_left (is_linked_to gaz id row || is_of_country (column 9 place) row) _ (or_right (is_linked_to gaz id row) _ own))
        (λ other. or_right (is_linked_to gaz id row || is_of_country (column 9 place) row) _ (of_named gaz.countries named other))

    link_of : (class : LinkClass) → linked (lists_of gaz) (id_of row) class ≡ Some id → list_any (is_link class (id_of row) id) gaz.links ≡ true
    unfolding linked
    link_of class at = let t = taken row (λ other. list_any (is_link class (id_of row) (id_of other)) gaz.links) at in ap (λ n. list_any (is_link class (id_of row) n) gaz.links) (sym t.has) ∙ t.passes

    by_links : is_linked_to gaz id row ≡ true → reached ≡ true
    by_links some = or_left (is_linked_to gaz id row || is_of_country (column 9 place) row) _ (or_left (is_linked_to gaz id row) _ some)

    by_level : (level : ℕ) → division (lists_of gaz) level row ≡ Some id → reached ≡ true
    unfolding division
    by_level level at =
        let t = taken row (is_division_of level row) (if_some id (has_path level row) (least_other (lists_of gaz) (id_of row) (is_division_of level row)) at) in
        of_country t.other t.found (left (bytes_eq (column 9 t.other) (column 9 row)) _ (right (is_this level (level_of t.other)) _ t.passes))

    by_levels : (levels : List ℕ) → first_some (map (λ k. division (lists_of gaz) k row) levels) ≡ Some id → reached ≡ true
    by_levels [] at = cc
    by_levels (level ∷ levels) at = elim (first_or_later id (division (lists_of gaz) level row) (map (λ k. division (lists_of gaz) k row) levels) at) [
      | inl here ↦ by_level level here
      | inr later ↦ by_levels levels later
    ]

    nothing_later : first_some [] ≡ Some id → reached ≡ true
    nothing_later at = cc

    by_country : country_above (lists_of gaz) row ≡ Some id → reached ≡ true
    unfolding country_above
    by_country at =
        let named = least_other (lists_of gaz) (id_of row) (λ other. list_any (names (column 9 row) (id_of other)) gaz.countries) in
        let least = least_other (lists_of gaz) (id_of row) (is_country_of (column 9 row)) in
        elim (first_or_later id named (least ∷ []) (if_some id (has_country row) (first_some (named ∷ least ∷ [])) at)) [
          | inl here ↦ let t = taken row (λ other. list_any (names (column 9 row) (id_of other)) gaz.countries) here in
              by_names (ap (λ n. list_any (names (column 9 row) n) gaz.countries) (sym t.has) ∙ t.passes)
          | inr later ↦ elim (first_or_later id least [] later) [
            | inl here ↦ let t = taken row (is_country_of (column 9 row)) here in of_country t.other t.found (right (is_country_row t.other) _ t.passes)
            | inr none ↦ nothing_later none
          ]
        ]

    by_rules : parent_of (lists_of gaz) row ≡ Some id → reached ≡ true
    by_rules at =
        let lists = lists_of gaz in
        let adm = linked lists (id_of row) Adm in
        let above = division_above lists (first_level row) row in
        let country = country_above lists row in
        let plain = linked lists (id_of row) Plain in
        elim (first_or_later id adm (above ∷ country ∷ plain ∷ []) at) [
          | inl one ↦ by_links (or_left (list_any (is_link Adm (id_of row) id) gaz.links) _ (link_of Adm one))
          | inr rest ↦ elim (first_or_later id above (country ∷ plain ∷ []) rest) [
            | inl two ↦ by_levels (downwards (first_level row)) two
            | inr more ↦ elim (first_or_later id country (plain ∷ []) more) [
              | inl three ↦ by_country three
              | inr last ↦ elim (first_or_later id plain [] last) [
                | inl four ↦ by_links (or_right (list_any (is_link Adm (id_of row) id) gaz.links) _ (link_of Plain four))
                | inr none ↦ nothing_later none
              ]
            ]
          ]
        ]

    -- so each child is
    pub child_reached : is_child (lists_of gaz) id row ≡ true → reached ≡ true
    child_reached child = by_rules (level_is id (parent_of (lists_of gaz) row) (right (bytes_eq (column 7 row) _ || bytes_eq (column 7 row) _) _ child))

  -- where no row has the id there is no child
  pub childless : line_with Rows (id ∷ []) gaz ≡ None → (row : List ℕ) → is_child (lists_of gaz) id row ≡ true → ⊥
  childless none row child =
      let other = parents_others (lists_of gaz) row id (level_is id (parent_of (lists_of gaz) row) (right (bytes_eq (column 7 row) _ || bytes_eq (column 7 row) _) _ child)) in
      let found : None ≡ Some other.0.0 = sym none ∙ ap (λ n. line_with Rows (n ∷ []) gaz) (sym other.0.2) ∙ all_found gaz.rows other.0.0 (is.tables Rows) other.0.1 in
      absurd (cc)
