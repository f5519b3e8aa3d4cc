-- Rows that match were offered, of those that were seen.
use Rattle.std.proofs.Common.{◌≡◌, ℕ, inl, inr, Bool, true, false, true≢false, List, [], ◌∷◌, ◌++◌, take, map, filter, refl, sym, ap, subst, ◌∙◌, Option, Some}
use Rattle.std.specs.Prelude.{Contains, ◌||◌, unwrap_or}
use Rattle.std.proofs.lemmas.Bool.{or_left, or_right}
use Rattle.std.proofs.lemmas.List.Folds.{list_any-append}
use Rattle.gaz_num.specs.declared.words.Table.TheVariants.{Rows}
use Rattle.gaz_row.specs.Row.{id_of}
use Rattle.gaz_pick.specs.Asked.{Asked}
use Rattle.gaz_pick.specs.Order.{Pair, is_same, holds, with_pair, in_order}
use Rattle.gaz_pick.specs.Laws.{FirstOfNext}
use Rattle.gaz_pick.specs.Match.{pair_of}
use Rattle.gaz_pick.proofs.OrderLemmas.{by_test, same_is, same_itself, order_of_pairs}
use Rattle.gaz_plain.specs.Gazetteer.{Gazetteer, IsGazetteer, line_with}
use Rattle.gaz_plain.specs.Search.{matches, matching_pairs}
use Rattle.gaz_plain.proofs.Foremost.{row_at, found_id}
use Rattle.gaz_plain.proofs.Offered.{none_yet}
use Rattle.gaz_plain.proofs.Sought.{found_in, all_found}
use Rattle.gaz_keys.proofs.Tags.{contained, contained_none}
use Rattle.gaz_rows.proofs.Members.{head_is_in, tail_is_in}
use Rattle.gaz_plan.specs.Seen.{HasOffered, SeesMore}
use Rattle.gaz_plan.specs.Searched.{after_test}
use Rattle.gaz_plan.proofs.Bools.{either, both_ways}

-- a pair of a row that passes
holds_of : (test : List ℕ → Bool) (rows : List (List ℕ)) (row : List ℕ) → Contains rows row → test row ≡ true → holds (map pair_of (filter test rows)) (pair_of row) ≡ true
holds_of test [] row at passes = absurd (contained_none row at)
holds_of test (r ∷ rs) row at passes =
    elim (contained r rs row at) [
      | inl same ↦
          let own : test r ≡ true = ap test same ∙ passes in
          rw own (or_left (is_same (pair_of row) (pair_of r)) _ (ap (λ x. is_same (pair_of row) (pair_of x)) same ∙ same_itself (pair_of row)))
      | inr later ↦
          let more = holds_of test rs row later passes in
          by_test (test r) (λ is. rw is (or_right (is_same (pair_of row) (pair_of r)) _ more)) (λ isnt. rw isnt more)
    ]

-- The row of a pair.
record IsOfRow (test : List ℕ → Bool) (rows : List (List ℕ)) (pair : Pair) : Type 0 where
  row : List ℕ
  at : Contains rows row
  passes : test row ≡ true
  pair_is : pair_of row ≡ pair

of_row : (test : List ℕ → Bool) (rows : List (List ℕ)) (pair : Pair) → holds (map pair_of (filter test rows)) pair ≡ true → IsOfRow test rows pair
of_row test [] pair held = absurd (true≢false (sym held))
of_row test (r ∷ rs) pair held =
    let more = λ (rest : holds (map pair_of (filter test rs)) pair ≡ true). later (of_row test rs pair rest) in
    by_test (test r)
    (λ is.
    let some : (is_same pair (pair_of r) || holds (map pair_of (filter test rs)) pair) ≡ true = rw is at held in
    by_test (is_same pair (pair_of r))
    (λ same. record { row = r; at = head_is_in r rs; passes = is; pair_is = sym (same_is pair (pair_of r) same) })
    (λ other. more (rw other at some)))
    (λ isnt. more (rw isnt at held))
  where
    later : IsOfRow test rs pair → IsOfRow test (r ∷ rs) pair
    later found = record { row = found.row; at = tail_is_in r rs found.row found.at; passes = found.passes; pair_is = found.pair_is }

module _ (gaz : Gazetteer) (is : IsGazetteer gaz) (asked : Asked) (keep : ℕ) where
  abbrev may : List ℕ → Bool
  may = matches gaz asked

  -- rows that imply others
  pub sees : (more other : List ℕ → Bool) (old new : List Pair) → SeesMore gaz asked keep more old new → ((row : List ℕ) → Contains gaz.rows row → may row ≡ true → other row ≡ true → more row ≡ true) → SeesMore gaz asked keep other old new
  sees more other old new sees_more implies seen has =
      let h = sees_more seen has in record {
        offered = h.offered;
        first = h.first;
        sound = h.sound;
        all = λ row at is_one saw. h.all row at is_one (either (seen row) (other row) ((seen row || more row) ≡ true) saw (λ s. or_left (seen row) _ s) (λ o. or_right (seen row) _ (implies row at is_one o)));
      }

  pub sees_nothing : (other : List ℕ → Bool) (old : List Pair) → ((row : List ℕ) → Contains gaz.rows row → may row ≡ true → other row ≡ true → ⊥) → SeesMore gaz asked keep other old old
  sees_nothing other old none seen has = record {
    offered = has.offered;
    first = has.first;
    sound = has.sound;
    all = λ row at is_one saw. has.all row at is_one (either (seen row) (other row) (seen row ≡ true) saw (λ s. s) (λ o. absurd (none row at is_one o)));
  }

  pub sees_both : (one two : List ℕ → Bool) (a b c : List Pair) → SeesMore gaz asked keep one a b → SeesMore gaz asked keep two b c → SeesMore gaz asked keep (λ row. one row || two row) a c
  sees_both one two a b c first second seen has =
      let h = second (λ row. seen row || one row) (first seen has) in record {
        offered = h.offered;
        first = h.first;
        sound = h.sound;
        all = λ row at is_one saw. h.all row at is_one
            (either (seen row) (one row || two row) (((seen row || one row) || two row) ≡ true) saw
            (λ s. or_left (seen row || one row) _ (or_left (seen row) _ s))
            (λ more. either (one row) (two row) (((seen row || one row) || two row) ≡ true) more (λ o. or_left (seen row || one row) _ (or_right (seen row) _ o)) (λ t. or_right (seen row || one row) _ t)));
      }

  -- rows with one id are one
  pub one_row : (a b : List ℕ) → Contains gaz.rows a → Contains gaz.rows b → id_of a ≡ id_of b → a ≡ b
  one_row a b at_a at_b same =
      let found : Some a ≡ Some b = sym (all_found gaz.rows a (is.tables Rows) at_a) ∙ ap (λ n. line_with Rows (n ∷ []) gaz) same ∙ all_found gaz.rows b (is.tables Rows) at_b in
      ap (λ (o : Option (List ℕ)). unwrap_or o []) found

  -- a row that is found is one of all, with its id
  pub found_at : (id : ℕ) (row : List ℕ) → line_with Rows (id ∷ []) gaz ≡ Some row → Contains gaz.rows row × (id_of row ≡ id)
  found_at id row at = (found_in (id ∷ []) row gaz.rows at, found_id id gaz.rows row (row_at id gaz.rows (is.tables Rows).each ∙ at))

  -- a row that matches was offered
  offered_row : FirstOfNext → (row : List ℕ) → Contains gaz.rows row → may row ≡ true → (more : List ℕ → Bool) → ((r : List ℕ) → Contains gaz.rows r → may r ≡ true → more r ≡ true → r ≡ row) → (old new : List Pair) → new ≡ take keep (with_pair (pair_of row) old)
      → SeesMore gaz asked keep more old new
  offered_row next row at is_one more only old new held seen has = record {
    offered = has.offered ++ pair_of row ∷ [];
    first = held ∙ ap (λ pairs. take keep (with_pair (pair_of row) pairs)) has.first ∙ next keep (pair_of row) has.offered;
    sound = λ p there.
        either (holds has.offered p) (holds (pair_of row ∷ []) p) (holds (matching_pairs gaz asked) p ≡ true) (sym (list_any-append (is_same p) has.offered (pair_of row ∷ [])) ∙ there)
        (λ before. has.sound p before)
        (λ last. either (is_same p (pair_of row)) false (holds (matching_pairs gaz asked) p ≡ true) last
        (λ same. subst (λ q. holds (matching_pairs gaz asked) q ≡ true) (sym (same_is p (pair_of row) same)) (holds_of may gaz.rows row at is_one))
        (λ none. absurd (true≢false (sym none))));
    all = λ r at_r is_r saw.
        list_any-append (is_same (pair_of r)) has.offered (pair_of row ∷ [])
        ∙ either (seen r) (more r) ((holds has.offered (pair_of r) || holds (pair_of row ∷ []) (pair_of r)) ≡ true) saw
        (λ s. or_left (holds has.offered (pair_of r)) _ (has.all r at_r is_r s))
        (λ o.
        let same : r ≡ row = only r at_r is_r o in
        or_right (holds has.offered (pair_of r)) _ (or_left (is_same (pair_of r) (pair_of row)) _ (ap (λ x. is_same (pair_of r) (pair_of x)) (sym same) ∙ same_itself (pair_of r))));
  }

  -- a row was tested, and offered if it passed
  pub tested_row : FirstOfNext → (row : List ℕ) → Contains gaz.rows row → (test : Bool) → (test ≡ true → may row ≡ true) → (more : List ℕ → Bool)
      → ((r : List ℕ) → Contains gaz.rows r → may r ≡ true → more r ≡ true → (r ≡ row) × (test ≡ true)) → (old new : List Pair) → new ≡ after_test test keep (pair_of row) old
      → SeesMore gaz asked keep more old new
  tested_row next row at true to more only old new held = offered_row next row at (to refl) more (λ r at_r is_r o. (only r at_r is_r o).0) old new held
  tested_row next row at false to more only old new held =
      subst (λ pairs. SeesMore gaz asked keep more old pairs) (sym held) (sees_nothing more old (λ r at_r is_r o. true≢false (sym (only r at_r is_r o).1)))

  -- of all that were seen, none is missing
  pub all_offered : (old new : List Pair) → old ≡ [] → (more : List ℕ → Bool) → SeesMore gaz asked keep more old new → ((row : List ℕ) → Contains gaz.rows row → may row ≡ true → more row ≡ true) → new ≡ take keep (in_order (matching_pairs gaz asked))
  all_offered old new none more sees_all reaches =
      let start : HasOffered gaz asked keep (λ row. false) old = record {
        offered = [];
        first = none ∙ none_yet keep;
        sound = λ p there. absurd (true≢false (sym there));
        all = λ row at is_one saw. absurd (true≢false (sym saw));
      } in
      let h = sees_all (λ row. false) start in
      h.first ∙ ap (take keep) (order_of_pairs h.offered (matching_pairs gaz asked)
      (λ p. both_ways (holds h.offered p) (holds (matching_pairs gaz asked) p) (h.sound p)
      (λ there. let found = of_row may gaz.rows p there in subst (λ q. holds h.offered q ≡ true) found.pair_is (h.all found.row found.at found.passes (reaches found.row found.at found.passes)))))
