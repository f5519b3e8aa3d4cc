-- Rows and the pairs of their numbers, after each edit.
use Rattle.std.proofs.Common.{◌≡◌, ◌≢◌, ℕ, true, false, true≢false, List, [], ◌∷◌, ◌++◌, filter, refl, sym, ap, subst, ◌∙◌, Option, Some, None}
use Rattle.std.specs.Prelude.{All, ◌||◌, ◌==◌, unwrap_or, slice_get}
use Rattle.std.specs.Ordering.{is_lt, is_gt}
use Rattle.std.proofs.lemmas.Bool.{or_right}
use Rattle.std.proofs.lemmas.Bool.Decides.{Decides-eqb}
use Rattle.std.proofs.lemmas.List.Elements.{All-nil, All-cons, All-append, All-filter}
use Rattle.gaz_num.specs.declared.words.Kind.TheVariants.{Row}
use Rattle.gaz_num.specs.declared.words.Table.TheVariants.{Rows}
use Rattle.gaz_pick.proofs.OrderLemmas.{by_test}
use Rattle.gaz_plain.specs.Gazetteer.{IsLine, key_of, key_cmp, line_at, replaced}
use Rattle.gaz_plain.specs.Places.{IsKeyOf, with_line, without_line}
use Rattle.gaz_plain.specs.Placed.{has_pair}
use Rattle.gaz_plain.specs.Ordered.{row_numbers, is_one_in, Keeps, KeepsBut, HasAll, AreNumbered, has_id}
use Rattle.gaz_plain.proofs.OrderedLemmas.{found_with, found_other, found_without, found_still}

-- ids as keys
apart_keys : (i id : ℕ) → (id == i) ≡ false → i ∷ [] ≢ id ∷ []
apart_keys i id differs same = let is : i ≡ id = ap (λ (key : List ℕ). unwrap_or (slice_get key 0) 0) same in true≢false (sym ((Decides-eqb id i).1 (sym is)) ∙ differs)

each_replaced : (key : List ℕ) (put rows : List (List ℕ)) → All (IsLine Row) rows → All (IsLine Row) put → All (IsLine Row) (replaced Rows key put rows)
each_replaced key put rows are puts =
    let low = filter (λ row. is_lt (key_cmp (key_of Rows row) key)) rows in
    let high = filter (λ row. is_gt (key_cmp (key_of Rows row) key)) rows in
    All-append (IsLine Row) (low ++ put) high
    (All-append (IsLine Row) low put (All-filter (λ row. is_lt (key_cmp (key_of Rows row) key)) (IsLine Row) rows are) puts)
    (All-filter (λ row. is_gt (key_cmp (key_of Rows row) key)) (IsLine Row) rows are)

module _ (rows : List (List ℕ)) (old : List (ℕ × ℕ)) (are : AreNumbered rows old) where
  module _ (id : ℕ) where
    -- a row that is put, with its pairs, and then without those of the one before
    pub put_numbered : (line : List ℕ) → IsLine Row line → IsKeyOf Rows (id ∷ []) line → (one two : List (ℕ × ℕ)) → Keeps old one → HasAll id (row_numbers line) one → KeepsBut id (row_numbers line) one two → AreNumbered (with_line Rows (id ∷ []) line rows) two
    put_numbered line is keyed one two keeps has but = record {
      each = each_replaced (id ∷ []) (line ∷ []) rows are.each (All-cons (IsLine Row) line [] is (All-nil (IsLine Row)));
      numbered = λ i row at number there.
          by_test (id == i)
          (λ here.
          let same : id ≡ i = (Decides-eqb id i).0 here in
          let found : Some line ≡ Some row = sym (found_with Rows (id ∷ []) rows line keyed) ∙ subst (λ n. line_at Rows (n ∷ []) (with_line Rows (id ∷ []) line rows) ≡ Some row) (sym same) at in
          let own : line ≡ row = ap (λ (o : Option (List ℕ)). unwrap_or o []) found in
          let mine : is_one_in (row_numbers line) number ≡ true = ap (λ r. is_one_in (row_numbers r) number) own ∙ there in
          but number i (subst (λ n. has_pair one number n ≡ true) same (has number mine)) (λ tied. mine))
          (λ other.
          but number i (keeps number i (are.numbered i row (sym (found_other Rows (id ∷ []) rows line (i ∷ []) keyed (apart_keys i id other)) ∙ at) number there))
          (λ tied. absurd (true≢false (sym tied ∙ other))));
    }

    -- a row that is taken out
    pub out_numbered : (two : List (ℕ × ℕ)) → KeepsBut id [] old two → AreNumbered (without_line Rows (id ∷ []) rows) two
    out_numbered two but = record {
      each = each_replaced (id ∷ []) [] rows are.each (All-nil (IsLine Row));
      numbered = λ i row at number there.
          by_test (id == i)
          (λ here.
          let none : None ≡ Some row = sym (found_without Rows (id ∷ []) rows) ∙ subst (λ n. line_at Rows (n ∷ []) (without_line Rows (id ∷ []) rows) ≡ Some row) (sym ((Decides-eqb id i).0 here)) at in
          absurd (cc))
          (λ other.
          but number i (are.numbered i row (sym (found_still Rows (id ∷ []) rows (i ∷ []) (apart_keys i id other)) ∙ at) number there)
          (λ tied. absurd (true≢false (sym tied ∙ other))));
    }

-- the ids of a number are those of its pairs
pub found_by_number : (pairs : List (ℕ × ℕ)) (number id : ℕ) → has_pair pairs number id ≡ true → has_id (filter (λ pair. number == pair.0) pairs) id ≡ true
found_by_number [] number id there = absurd (true≢false (sym there))
found_by_number (q ∷ qs) number id there =
    let more = found_by_number qs number id in
    by_test (number == q.0)
    (λ at.
    let rest : (id == q.1 || has_pair qs number id) ≡ true = rw at at there in
    rw at (by_test (id == q.1)
    (λ is. let turned : (q.1 == id) ≡ true = (Decides-eqb q.1 id).1 (sym ((Decides-eqb id q.1).0 is)) in rw turned refl)
    (λ isnt. or_right (q.1 == id) (has_id (filter (λ pair. number == pair.0) qs) id) (more (rw isnt at rest)))))
    (λ elsewhere. rw elsewhere (more (rw elsewhere at there)))
