-- Children that were offered, of the rows that were seen.
use Rattle.std.proofs.Common.{◌≡◌, ℕ, zero, suc, ◌⊎◌, inl, inr, arith, Bool, true, false, true≢false, List, [], ◌∷◌, ◌++◌, take, map, filter, refl, sym, ap, subst, ◌∙◌, Option, Some, None}
use Rattle.std.specs.Prelude.{Contains, ◌||◌, ◌==◌, is_some, unwrap_or}
use Rattle.std.specs.List.{list_any}
use Rattle.std.specs.Str.{bytes_eq}
use Rattle.std.proofs.lemmas.Bool.{or_left, or_right}
use Rattle.std.proofs.lemmas.Bool.Decides.{Decides-eqb}
use Rattle.std.proofs.lemmas.Slice.Eq.{bytes_eq-Decides}
use Rattle.std.proofs.lemmas.List.Folds.{list_any-append}
use Rattle.gaz_num.specs.Pieces.{column}
use Rattle.gaz_num.specs.declared.words.Table.TheVariants.{Rows, Links}
use Rattle.gaz_row.specs.Row.{id_of}
use Rattle.gaz_tables.specs.declared.link.LinkClass.{LinkClass}
use Rattle.gaz_tables.specs.declared.link.LinkClass.TheVariants.{Adm, Plain}
use Rattle.gaz_tables.specs.Keys.{class_number}
use Rattle.gaz_parent.specs.Parent.{is_link}
use Rattle.gaz_parent.specs.Chain.{is_child}
use Rattle.gaz_pick.specs.Order.{Pair, is_same, holds, with_pair, in_order}
use Rattle.gaz_pick.specs.Laws.{FirstOfNext}
use Rattle.gaz_pick.specs.Match.{pair_of}
use Rattle.gaz_pick.proofs.OrderLemmas.{by_test, same_is, same_itself, order_of_pairs}
use Rattle.gaz_plain.specs.Gazetteer.{Gazetteer, IsGazetteer, line_with}
use Rattle.gaz_plain.specs.Kin.{lists_of, child_pairs}
use Rattle.gaz_plain.specs.Ordered.{number_of, row_numbers, is_one_in, has_id}
use Rattle.gaz_plain.specs.Children.{is_linked_to, HasOffered, SeesMore}
use Rattle.gaz_plain.proofs.Foremost.{row_at, found_id, link_found}
use Rattle.gaz_plain.proofs.Offered.{none_yet}
use Rattle.gaz_plain.proofs.Sought.{found_in, all_found}

-- one of two
either : (a b : Bool) (P : Type 0) → (a || b) ≡ true → (a ≡ true → P) → (b ≡ true → P) → P
either a b P some one two = by_test a one (λ isnt. two (rw isnt at some))

both_ways : (a b : Bool) → (a ≡ true → b ≡ true) → (b ≡ true → a ≡ true) → a ≡ b
both_ways true b there back = sym (there refl)
both_ways false true there back = back refl
both_ways false false there back = refl

where_at : (first row : List ℕ) (rows : List (List ℕ)) → Contains (first ∷ rows) row → (first ≡ row) ⊎ Contains rows row
where_at first row rows (zero, lt, is) = inl is
where_at first row rows (suc k, lt, is) = inr (k, omega (arith, lt), is)

-- a pair of a row that passes
holds_of : (test : List ℕ → Bool) (rows : List (List ℕ)) (row : List ℕ) → Contains rows row → test row ≡ true → holds (map pair_of (filter test rows)) (pair_of row) ≡ true
holds_of test [] row at passes = let below = at.1 in absurd (omega (arith, below))
holds_of test (r ∷ rs) row at passes =
    elim (where_at r row rs at) [
      | inl same ↦
          let own : test r ≡ true = ap test same ∙ passes in
          rw own (or_left (is_same (pair_of row) (pair_of r)) _ (ap (λ x. is_same (pair_of row) (pair_of x)) same ∙ same_itself (pair_of row)))
      | inr later ↦
          let more = holds_of test rs row later passes in
          by_test (test r) (λ is. rw is (or_right (is_same (pair_of row) (pair_of r)) _ more)) (λ isnt. rw isnt more)
    ]

-- The row of a pair.
record IsOfRow (test : List ℕ → Bool) (rows : List (List ℕ)) (pair : Pair) : Type 0 where
  row : List ℕ
  at : Contains rows row
  passes : test row ≡ true
  pair_is : pair_of row ≡ pair

of_row : (test : List ℕ → Bool) (rows : List (List ℕ)) (pair : Pair) → holds (map pair_of (filter test rows)) pair ≡ true → IsOfRow test rows pair
of_row test [] pair held = absurd (true≢false (sym held))
of_row test (r ∷ rs) pair held =
    let more = λ (rest : holds (map pair_of (filter test rs)) pair ≡ true). later (of_row test rs pair rest) in
    by_test (test r)
    (λ is.
    let some : (is_same pair (pair_of r) || holds (map pair_of (filter test rs)) pair) ≡ true = rw is at held in
    by_test (is_same pair (pair_of r))
    (λ same. record { row = r; at = (0, omega arith, refl); passes = is; pair_is = sym (same_is pair (pair_of r) same) })
    (λ other. more (rw other at some)))
    (λ isnt. more (rw isnt at held))
  where
    later : IsOfRow test rs pair → IsOfRow test (r ∷ rs) pair
    later found = let below = found.at.1 in record { row = found.row; at = (suc found.at.0, omega (arith, below), found.at.2); passes = found.passes; pair_is = found.pair_is }

module _ (gaz : Gazetteer) (is : IsGazetteer gaz) (id keep : ℕ) where
  abbrev may : List ℕ → Bool
  may = is_child (lists_of gaz) id

  -- rows that imply others
  pub sees : (more other : List ℕ → Bool) (old new : List Pair) → SeesMore gaz id keep more old new → ((row : List ℕ) → Contains gaz.rows row → may row ≡ true → other row ≡ true → more row ≡ true) → SeesMore gaz id keep other old new
  sees more other old new sees_more implies seen has =
      let h = sees_more seen has in record {
        offered = h.offered;
        first = h.first;
        sound = h.sound;
        all = λ row at child saw. h.all row at child (either (seen row) (other row) ((seen row || more row) ≡ true) saw (λ s. or_left (seen row) _ s) (λ o. or_right (seen row) _ (implies row at child o)));
      }

  pub sees_nothing : (other : List ℕ → Bool) (old : List Pair) → ((row : List ℕ) → Contains gaz.rows row → may row ≡ true → other row ≡ true → ⊥) → SeesMore gaz id keep other old old
  sees_nothing other old none seen has = record {
    offered = has.offered;
    first = has.first;
    sound = has.sound;
    all = λ row at child saw. has.all row at child (either (seen row) (other row) (seen row ≡ true) saw (λ s. s) (λ o. absurd (none row at child o)));
  }

  pub sees_both : (one two : List ℕ → Bool) (a b c : List Pair) → SeesMore gaz id keep one a b → SeesMore gaz id keep two b c → SeesMore gaz id keep (λ row. one row || two row) a c
  sees_both one two a b c first second seen has =
      let h = second (λ row. seen row || one row) (first seen has) in record {
        offered = h.offered;
        first = h.first;
        sound = h.sound;
        all = λ row at child saw. h.all row at child
            (either (seen row) (one row || two row) (((seen row || one row) || two row) ≡ true) saw
            (λ s. or_left (seen row || one row) _ (or_left (seen row) _ s))
            (λ more. either (one row) (two row) (((seen row || one row) || two row) ≡ true) more (λ o. or_left (seen row || one row) _ (or_right (seen row) _ o)) (λ t. or_right (seen row || one row) _ t)));
      }

  -- rows with one id are one
  one_row : (a b : List ℕ) → Contains gaz.rows a → Contains gaz.rows b → id_of a ≡ id_of b → a ≡ b
  one_row a b at_a at_b same =
      let found : Some a ≡ Some b = sym (all_found gaz.rows a (is.tables Rows) at_a) ∙ ap (λ n. line_with Rows (n ∷ []) gaz) same ∙ all_found gaz.rows b (is.tables Rows) at_b in
      ap (λ (o : Option (List ℕ)). unwrap_or o []) found

  -- a child was offered
  pub sees_row : FirstOfNext → (row : List ℕ) → Contains gaz.rows row → may row ≡ true → (pair : Pair) → pair ≡ pair_of row → (old new : List Pair) → new ≡ take keep (with_pair pair old) → (child : ℕ) → id_of row ≡ child → SeesMore gaz id keep (λ r. child == id_of r) old new
  sees_row next row at child pair pair_is old new held n own seen has = record {
    offered = has.offered ++ pair_of row ∷ [];
    first = held ∙ ap (λ p. take keep (with_pair p old)) pair_is ∙ ap (λ pairs. take keep (with_pair (pair_of row) pairs)) has.first ∙ next keep (pair_of row) has.offered;
    sound = λ p there.
        either (holds has.offered p) (holds (pair_of row ∷ []) p) (holds (child_pairs gaz id) p ≡ true) (sym (list_any-append (is_same p) has.offered (pair_of row ∷ [])) ∙ there)
        (λ before. has.sound p before)
        (λ last. either (is_same p (pair_of row)) false (holds (child_pairs gaz id) p ≡ true) last
        (λ same. subst (λ q. holds (child_pairs gaz id) q ≡ true) (sym (same_is p (pair_of row) same)) (holds_of may gaz.rows row at child))
        (λ none. absurd (true≢false (sym none))));
    all = λ r at_r child_r saw.
        list_any-append (is_same (pair_of r)) has.offered (pair_of row ∷ [])
        ∙ either (seen r) (n == id_of r) ((holds has.offered (pair_of r) || holds (pair_of row ∷ []) (pair_of r)) ≡ true) saw
        (λ s. or_left (holds has.offered (pair_of r)) _ (has.all r at_r child_r s))
        (λ o.
        let same : r ≡ row = one_row r row at_r at (sym (own ∙ (Decides-eqb n (id_of r)).0 o)) in
        or_right (holds has.offered (pair_of r)) _ (or_left (is_same (pair_of r) (pair_of row)) _ (ap (λ x. is_same (pair_of r) (pair_of x)) (sym same) ∙ same_itself (pair_of r))));
  }

  -- there is no child with the id
  pub not_one : (child : ℕ) (found : Option (List ℕ)) → line_with Rows (child ∷ []) gaz ≡ found → ((row : List ℕ) → found ≡ Some row → may row ≡ false) → (row : List ℕ) → Contains gaz.rows row → may row ≡ true → (child == id_of row) ≡ true → ⊥
  not_one child found at never row in_rows is_one same =
      let there : found ≡ Some row = sym at ∙ ap (λ n. line_with Rows (n ∷ []) gaz) ((Decides-eqb child (id_of row)).0 same) ∙ all_found gaz.rows row (is.tables Rows) in_rows in
      true≢false (sym is_one ∙ never row there)

  -- of all that were reached, none is missing
  pub all_offered : (old new : List Pair) → old ≡ [] → (more : List ℕ → Bool) → SeesMore gaz id keep more old new → ((row : List ℕ) → may row ≡ true → more row ≡ true) → new ≡ take keep (in_order (child_pairs gaz id))
  all_offered old new none more sees_all reaches =
      let start : HasOffered gaz id keep (λ row. false) old = record {
        offered = [];
        first = none ∙ none_yet keep;
        sound = λ p there. absurd (true≢false (sym there));
        all = λ row at child saw. absurd (true≢false (sym saw));
      } in
      let h = sees_all (λ row. false) start in
      h.first ∙ ap (take keep) (order_of_pairs h.offered (child_pairs gaz id)
      (λ p. both_ways (holds h.offered p) (holds (child_pairs gaz id) p) (h.sound p)
      (λ there. let found = of_row may gaz.rows p there in subst (λ q. holds h.offered q ≡ true) found.pair_is (h.all found.row found.at found.passes (reaches found.row found.passes)))))

  -- ---- among which rows children are sought

  -- those from which a link leads
  pub among_linked : (pairs : List (ℕ × ℕ)) → ((child class : ℕ) (link : List ℕ) → line_with Links (child ∷ class ∷ id ∷ []) gaz ≡ Some link → has_id pairs child ≡ true) → (row : List ℕ) → is_linked_to gaz id row ≡ true → has_id pairs (id_of row) ≡ true
  among_linked pairs all row linked =
      either (list_any (is_link Adm (id_of row) id) gaz.links) (list_any (is_link Plain (id_of row) id) gaz.links) (has_id pairs (id_of row) ≡ true) linked
      (λ one. by_class Adm one)
      (λ two. by_class Plain two)
    where
      by_found : (class : LinkClass) (found : Option (List ℕ)) → line_with Links (id_of row ∷ class_number class ∷ id ∷ []) gaz ≡ found → is_some (line_with Links (id_of row ∷ class_number class ∷ id ∷ []) gaz) ≡ true → has_id pairs (id_of row) ≡ true
      by_found class None at some = absurd (true≢false (sym some ∙ ap is_some at))
      by_found class (Some link) at some = all (id_of row) (class_number class) link at

      by_class : (class : LinkClass) → list_any (is_link class (id_of row) id) gaz.links ≡ true → has_id pairs (id_of row) ≡ true
      by_class class there = by_found class (line_with Links (id_of row ∷ class_number class ∷ id ∷ []) gaz) refl (link_found class (id_of row) id gaz.links (is.tables Links).each ∙ there)

  -- those of a country
  pub among_country : (pairs : List (ℕ × ℕ)) (code : List ℕ) → ((i : ℕ) (row : List ℕ) → line_with Rows (i ∷ []) gaz ≡ Some row → is_one_in (row_numbers row) (number_of 0 code) ≡ true → has_id pairs i ≡ true) → (row : List ℕ) → Contains gaz.rows row → bytes_eq code (column 9 row) ≡ true → has_id pairs (id_of row) ≡ true
  among_country pairs code all row at same =
      let number : (number_of 0 (column 9 row) == number_of 0 code) ≡ true = (Decides-eqb (number_of 0 (column 9 row)) (number_of 0 code)).1 (ap (number_of 0) (sym ((bytes_eq-Decides code (column 9 row)).0 same))) in
      all (id_of row) row (all_found gaz.rows row (is.tables Rows) at) (or_left (number_of 0 (column 9 row) == number_of 0 code) _ number)

  -- a row that is found is one of all, with its id
  pub found_at : (child : ℕ) (row : List ℕ) → line_with Rows (child ∷ []) gaz ≡ Some row → Contains gaz.rows row × (id_of row ≡ child)
  found_at child row at = (found_in (child ∷ []) row gaz.rows at, found_id child gaz.rows row (row_at child gaz.rows (is.tables Rows).each ∙ at))
