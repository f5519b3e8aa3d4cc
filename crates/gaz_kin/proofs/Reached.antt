-- From where a parent is reached: by a link, from within it, or by the line of a country.
use Rattle.std.proofs.Common.{◌≡◌, ◌≤◌, ℕ, zero, suc, Bool, true, false, List, [], ◌∷◌, ◌++◌, length, take, map, flat_map, sym, ap, subst, ◌∙◌, Option, Some, None, ◌⊎◌, inl, inr, arith}
use Rattle.std.specs.Prelude.{◌||◌, ◌-◌, codes, option_map, unwrap_or, if◌then◌else◌}
use Rattle.std.specs.List.{list_any}
use Rattle.std.specs.Str.{bytes_eq}
use Rattle.std.proofs.lemmas.Bool.{or_left, or_right}
use Rattle.std.proofs.lemmas.Grind.{flat_map-append}
use Rattle.std.proofs.Math.Seq.{take-append_seam}
use Rattle.std.proofs.lemmas.Slice.Eq.{bytes_eq-Decides}
use Rattle.gaz_num.proofs.CalendarLemmas.{and_left, and_right}
use Rattle.gaz_num.specs.Pieces.{column}
use Rattle.gaz_num.specs.declared.words.Table.TheVariants.{Rows}
use Rattle.gaz_row.specs.Row.{id_of}
use Rattle.gaz_tables.specs.declared.link.LinkClass.{LinkClass}
use Rattle.gaz_tables.specs.declared.link.LinkClass.TheVariants.{Adm, Plain}
use Rattle.gaz_parent.specs.Parent.{first_some, may_be, least_other, is_link, linked, has_path, is_division_of, division, downwards, first_level, division_above, names, is_administrative, is_country_row, is_country_of, has_country, country_above, parent_of}
use Rattle.gaz_parent.specs.Chain.{is_child}
use Rattle.gaz_parent.specs.Laws.{IsLeast}
use Rattle.gaz_parent.proofs.Least.{least_is}
use Rattle.gaz_plain.specs.Gazetteer.{Gazetteer, IsGazetteer, line_with}
use Rattle.gaz_plain.specs.Kin.{lists_of}
use Rattle.gaz_plain.specs.Children.{is_linked_to}
use Rattle.gaz_plain.proofs.Sought.{level_is, all_found}
use Rattle.gaz_keys.specs.Lines.{path_to}
use Rattle.gaz_kin.specs.Above.{is_above}
use Rattle.gaz_kin.specs.Below.{has_beginning, begins_at, is_within, is_named_by}
use Rattle.gaz_kin.proofs.Divided.{pathed}

-- the first of some is one of them
first_or_later : (n : ℕ) (found : Option ℕ) (more : List (Option ℕ)) → first_some (found ∷ more) ≡ Some n → (found ≡ Some n) ⊎ (first_some more ≡ Some n)
first_or_later n None more is = inr is
first_or_later n (Some m) more is = inl is

if_some : (n : ℕ) (test : Bool) (found : Option ℕ) → (if test then found else None) ≡ Some n → found ≡ Some n
if_some n true found is = is
if_some n false found is = cc

-- the first level is at most 4
pub level_first_low : (row : List ℕ) → first_level row ≤ 4
level_first_low row = by (is_country_row row) (is_administrative row) (bytes_eq (column 8 row) (codes "ADM1")) (bytes_eq (column 8 row) (codes "ADM2")) (bytes_eq (column 8 row) (codes "ADM3")) (bytes_eq (column 8 row) (codes "ADM4"))
  where
    by : (country administrative a b c d : Bool)
        → (if country then 0 else unwrap_or (option_map (λ level. level - 1) (if administrative then (if a then Some 1 else if b then Some 2 else if c then Some 3 else if d then Some 4 else None) else None)) 4) ≤ 4
    by true administrative a b c d = omega arith
    by false false a b c d = omega arith
    by false true true b c d = omega arith
    by false true false true c d = omega arith
    by false true false false true d = omega arith
    by false true false false false true = omega arith
    by false true false false false false = omega arith

-- the path to a level is the beginning of that to level 4
pub path_begins : (level : ℕ) (row : List ℕ) → level ≤ 4 → (rest : List ℕ) × (path_to 4 row ≡ path_to level row ++ rest)
path_begins level row low = by level low
  where
    coded : ℕ → List ℕ
    coded n = column n row ++ 0 ∷ []

    by : (level : ℕ) → level ≤ 4 → (rest : List ℕ) × (path_to 4 row ≡ path_to level row ++ rest)
    by zero le = (flat_map coded (11 ∷ 12 ∷ 13 ∷ 14 ∷ []), flat_map-append coded (9 ∷ []) (11 ∷ 12 ∷ 13 ∷ 14 ∷ []))
    by (suc zero) le = (flat_map coded (12 ∷ 13 ∷ 14 ∷ []), flat_map-append coded (9 ∷ 11 ∷ []) (12 ∷ 13 ∷ 14 ∷ []))
    by (suc (suc zero)) le = (flat_map coded (13 ∷ 14 ∷ []), flat_map-append coded (9 ∷ 11 ∷ 12 ∷ []) (13 ∷ 14 ∷ []))
    by (suc (suc (suc zero))) le = (flat_map coded (14 ∷ []), flat_map-append coded (9 ∷ 11 ∷ 12 ∷ 13 ∷ []) (14 ∷ []))
    by (suc (suc (suc (suc zero)))) le = ([], flat_map-append coded (9 ∷ 11 ∷ 12 ∷ 13 ∷ 14 ∷ []) [])
    by (suc (suc (suc (suc (suc n))))) le = absurd (omega (arith, le))

-- what begins with a text has it as its beginning
pub begins : (text row rest : List ℕ) → path_to 4 row ≡ text ++ rest → has_beginning text row ≡ true
begins text row rest is = (bytes_eq-Decides (take (length text) (path_to 4 row)) text).1 (ap (take (length text)) is ∙ take-append_seam text rest)

module _ (gaz : Gazetteer) (is : IsGazetteer gaz) (id : ℕ) where
  -- the row of a parent, and its test
  record IsTaken (row : List ℕ) (test : List ℕ → Bool) : Type 0 where
    other : List ℕ
    found : line_with Rows (id ∷ []) gaz ≡ Some other
    passes : test other ≡ true
    has : id_of other ≡ id

  taken : (row : List ℕ) (test : List ℕ → Bool) → least_other (lists_of gaz) (id_of row) test ≡ Some id → IsTaken row test
  taken row test at =
      let least = subst (λ (found : Option ℕ). IsLeast (may_be (id_of row) test) gaz.rows found) at (least_is (may_be (id_of row) test) gaz.rows) in
      let other = least.0.0 in record {
        other = other;
        found = ap (λ n. line_with Rows (n ∷ []) gaz) (sym least.0.3) ∙ all_found gaz.rows other (is.tables Rows) least.0.1;
        passes = and_left (test other) _ least.0.2;
        has = least.0.3;
      }

  module _ (place : List ℕ) (at_place : line_with Rows (id ∷ []) gaz ≡ Some place) (row : List ℕ) where
    -- whether it is reached
    abbrev pub reached : Bool
    reached = (is_linked_to gaz id row || is_within place row) || is_named_by gaz id row

    -- a place that is above the row has it within
    of_path : (level : ℕ) (other : List ℕ) → level ≤ 4 → line_with Rows (id ∷ []) gaz ≡ Some other → is_above level row other ≡ true → reached ≡ true
    of_path level other low found above =
        let is_place : other ≡ place = ap (λ (o : Option (List ℕ)). unwrap_or o []) (sym found ∙ at_place) in
        let p = pathed level row other above in
        let begin = path_begins level row low in
        let within : has_beginning (path_to level other) row ≡ true = begins (path_to level other) row begin.0 (begin.1 ∙ ap (λ text. text ++ begin.0) (sym p.path)) in
        let own : is_within other row ≡ true = ap (λ l. begins_at l other row) p.leveled ∙ within in
        or_left (is_linked_to gaz id row || is_within place row) _ (or_right (is_linked_to gaz id row) _ (ap (λ r. is_within r row) (sym is_place) ∙ own))

    by_names : is_named_by gaz id row ≡ true → reached ≡ true
    by_names named = or_right (is_linked_to gaz id row || is_within place row) _ named

    link_of : (class : LinkClass) → linked (lists_of gaz) (id_of row) class ≡ Some id → list_any (is_link class (id_of row) id) gaz.links ≡ true
    unfolding linked
    link_of class at = let t = taken row (λ other. list_any (is_link class (id_of row) (id_of other)) gaz.links) at in ap (λ n. list_any (is_link class (id_of row) n) gaz.links) (sym t.has) ∙ t.passes

    by_links : is_linked_to gaz id row ≡ true → reached ≡ true
    by_links some = or_left (is_linked_to gaz id row || is_within place row) _ (or_left (is_linked_to gaz id row) _ some)

    by_level : (level : ℕ) → suc level ≤ 4 → division (lists_of gaz) (suc level) row ≡ Some id → reached ≡ true
    unfolding division
    by_level level low at =
        let t = taken row (is_division_of (suc level) row) (if_some id (has_path (suc level) row) (least_other (lists_of gaz) (id_of row) (is_division_of (suc level) row)) at) in
        of_path (suc level) t.other low t.found t.passes

    by_levels : (level : ℕ) → level ≤ 4 → division_above (lists_of gaz) level row ≡ Some id → reached ≡ true
    by_levels zero low at = cc
    by_levels (suc level) low at = elim (first_or_later id (division (lists_of gaz) (suc level) row) (map (λ k. division (lists_of gaz) k row) (downwards level)) at) [
      | inl here ↦ by_level level low here
      | inr later ↦ by_levels level (omega (arith, low)) later
    ]

    nothing_later : first_some [] ≡ Some id → reached ≡ true
    nothing_later at = cc

    by_country : country_above (lists_of gaz) row ≡ Some id → reached ≡ true
    unfolding country_above
    by_country at =
        let named = least_other (lists_of gaz) (id_of row) (λ other. list_any (names (column 9 row) (id_of other)) gaz.countries) in
        let least = least_other (lists_of gaz) (id_of row) (is_country_of (column 9 row)) in
        elim (first_or_later id named (least ∷ []) (if_some id (has_country row) (first_some (named ∷ least ∷ [])) at)) [
          | inl here ↦ let t = taken row (λ other. list_any (names (column 9 row) (id_of other)) gaz.countries) here in
              by_names (ap (λ n. list_any (names (column 9 row) n) gaz.countries) (sym t.has) ∙ t.passes)
          | inr later ↦ elim (first_or_later id least [] later) [
            | inl here ↦ let t = taken row (is_country_of (column 9 row)) here in of_path 0 t.other (omega arith) t.found t.passes
            | inr none ↦ nothing_later none
          ]
        ]

    first_low : first_level row ≤ 4
    first_low = level_first_low row

    by_rules : parent_of (lists_of gaz) row ≡ Some id → reached ≡ true
    by_rules at =
        let lists = lists_of gaz in
        let adm = linked lists (id_of row) Adm in
        let above = division_above lists (first_level row) row in
        let country = country_above lists row in
        let plain = linked lists (id_of row) Plain in
        elim (first_or_later id adm (above ∷ country ∷ plain ∷ []) at) [
          | inl one ↦ by_links (or_left (list_any (is_link Adm (id_of row) id) gaz.links) _ (link_of Adm one))
          | inr rest ↦ elim (first_or_later id above (country ∷ plain ∷ []) rest) [
            | inl two ↦ by_levels (first_level row) first_low two
            | inr more ↦ elim (first_or_later id country (plain ∷ []) more) [
              | inl three ↦ by_country three
              | inr last ↦ elim (first_or_later id plain [] last) [
                | inl four ↦ by_links (or_right (list_any (is_link Adm (id_of row) id) gaz.links) _ (link_of Plain four))
                | inr none ↦ nothing_later none
              ]
            ]
          ]
        ]

    -- so each child is
    pub child_reached : is_child (lists_of gaz) id row ≡ true → reached ≡ true
    child_reached child = by_rules (level_is id (parent_of (lists_of gaz) row) (and_right (bytes_eq (column 7 row) _ || bytes_eq (column 7 row) _) _ child))
