-- What an order beside a list keeps, and how ids of a number stand in it.
use Rattle.std.proofs.Common.{◌≡◌, ◌≢◌, ℕ, ◌<◌, Bool, true, false, true≢false, List, [], ◌∷◌, filter, refl, sym, subst, ◌∙◌, arith, Some, None}
use Rattle.std.specs.Prelude.{◌&&◌, ◌==◌}
use Rattle.std.specs.List.{AllByRecursion}
use Rattle.std.specs.List.Sorted.{IsStrictlySortedBy}
use Rattle.std.specs.Ordering.{nat_cmp, ordering_then}
use Rattle.std.specs.declared.cmp.Ordering.{Ordering}
use Rattle.std.specs.declared.cmp.Ordering.TheVariants.{Less, Equal, Greater}
use Rattle.std.proofs.lemmas.Cmp.{ranked}
use Rattle.std.proofs.lemmas.Map.Keys.{sorted_head, sorted_tail}
use Rattle.std.proofs.lemmas.Bool.Decides.{Decides-eqb}
use Rattle.gaz_num.specs.declared.words.Table.{Table}
use Rattle.gaz_pick.proofs.OrderLemmas.{by_test}
use Rattle.gaz_plain.specs.Gazetteer.{line_at}
use Rattle.gaz_plain.specs.Places.{IsKeyOf, with_line, without_line}
use Rattle.gaz_plain.specs.Ordered.{is_one_in, IdsRise}
use Rattle.gaz_plain.proofs.KeyOrder.{key_of_keyed}
use Rattle.gaz_plain.proofs.PlacedLemmas.{pair_cmp}
use Rattle.gaz_plain.proofs.Tables.{find-replaced, find-replaced_other}
use Rattle.gaz_plain.proofs.Steps.{alone, not_alone}

-- ---- ids that rise

less_then : (key a b : ℕ) (r s : Ordering) → r ≡ nat_cmp key key → s ≡ nat_cmp a b → ordering_then r s ≡ Less → a < b
less_then key a b Less s is tied less = let lt = ranked key key Less is in absurd (omega (arith, lt))
less_then key a b Equal s is tied less = ranked a b Less (sym less ∙ tied)
less_then key a b Greater s is tied less = cc

-- of two pairs of a number in order, the first has the lesser id
second_less : (key : ℕ) (p q : ℕ × ℕ) → (key == p.0) ≡ true → (key == q.0) ≡ true → pair_cmp p q ≡ Less → p.1 < q.1
second_less key p q at_p at_q less =
    let one : p.0 ≡ key = sym ((Decides-eqb key p.0).0 at_p) in
    let two : q.0 ≡ key = sym ((Decides-eqb key q.0).0 at_q) in
    let same : ordering_then (nat_cmp key key) (nat_cmp p.1 q.1) ≡ Less = subst (λ n. ordering_then (nat_cmp key n) (nat_cmp p.1 q.1) ≡ Less) two (subst (λ n. ordering_then (nat_cmp n q.0) (nat_cmp p.1 q.1) ≡ Less) one less) in
    less_then key p.1 q.1 (nat_cmp key key) (nat_cmp p.1 q.1) refl refl same

module _ (key : ℕ) where
  later_ids : (p : ℕ × ℕ) → (key == p.0) ≡ true → (pairs : List (ℕ × ℕ)) → AllByRecursion (λ q. pair_cmp p q ≡ Less) pairs → AllByRecursion (λ later. p.1 < later.1) (filter (λ pair. key == pair.0) pairs)
  later_ids p at [] less = tt
  later_ids p at (q ∷ qs) less =
      by_test (key == q.0)
      (λ is. rw is (second_less key p q at is less.0, later_ids p at qs less.1))
      (λ isnt. rw isnt (later_ids p at qs less.1))

  pub ids_rise : (pairs : List (ℕ × ℕ)) → IsStrictlySortedBy pair_cmp pairs → IdsRise (filter (λ pair. key == pair.0) pairs)
  ids_rise [] sorted = tt
  ids_rise (p ∷ ps) sorted =
      let more = ids_rise ps (sorted_tail pair_cmp p ps sorted) in
      by_test (key == p.0)
      (λ is. rw is (later_ids p is ps (sorted_head pair_cmp p ps sorted), more))
      (λ isnt. rw isnt more)

-- ---- pairs that are kept

same_itself : (n : ℕ) → (n == n) ≡ true
same_itself n = (Decides-eqb n n).1 refl

module _ (key id : ℕ) (old new : List (ℕ × ℕ)) where
  right : (a b : Bool) → (a && b) ≡ true → b ≡ true
  right true b both = both
  right false b both = absurd (true≢false (sym both))

-- the numbers of one or two
pub one_of : (n number : ℕ) (rest : List ℕ) (P : Type 0) → is_one_in (n ∷ rest) number ≡ true → ((n ≡ number) → P) → (is_one_in rest number ≡ true → P) → P
one_of n number rest P some first later =
    by_test (n == number) (λ is. first ((Decides-eqb n number).0 is)) (λ isnt. later (rw isnt at some))

-- ---- what is found after an edit of a table

module _ (table : Table) (key : List ℕ) (lines : List (List ℕ)) where
  pub found_with : (line : List ℕ) → IsKeyOf table key line → line_at table key (with_line table key line lines) ≡ Some line
  found_with line keyed = find-replaced table key (line ∷ []) lines ∙ alone table line key (key_of_keyed table key line keyed)

  pub found_other : (line wanted : List ℕ) → IsKeyOf table key line → wanted ≢ key → line_at table wanted (with_line table key line lines) ≡ line_at table wanted lines
  found_other line wanted keyed differs = find-replaced_other table key (line ∷ []) lines wanted differs (not_alone table line key wanted (key_of_keyed table key line keyed) differs)

  pub found_without : line_at table key (without_line table key lines) ≡ None
  found_without = find-replaced table key [] lines

  pub found_still : (wanted : List ℕ) → wanted ≢ key → line_at table wanted (without_line table key lines) ≡ line_at table wanted lines
  found_still wanted differs = find-replaced_other table key [] lines wanted differs refl
