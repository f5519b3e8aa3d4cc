-- Pairs of a place and an alternate: those of a place, and how an edit leaves them.
use Rattle.std.proofs.Common.{◌≡◌, ◌≢◌, ℕ, ◌<◌, ◌^◌, suc, Bool, true, false, cond, List, [], ◌∷◌, ◌++◌, filter, Option, Some, None, refl, sym, ap, subst, ◌∙◌, arith}
use mathlib.Core.Bool.{true≢false}
use Rattle.std.specs.Prelude.{◌&&◌, ◌==◌, not, All, option_map, unwrap_or, slice_get, if◌then◌else◌}
use Rattle.std.specs.BTreeMap.{is_at}
use Rattle.std.specs.BTreeMap.Range.{range_contains}
use Rattle.std.specs.List.{list_any}
use Rattle.std.specs.Ordering.{nat_cmp, ordering_then, is_eq, is_le, is_lt, is_gt}
use Rattle.std.specs.declared.cmp.Ordering.{Ordering}
use Rattle.std.specs.declared.cmp.Ordering.TheVariants.{Less, Equal, Greater}
use Rattle.std.specs.declared.ops.Bound.TheVariants.{Included}
use Rattle.std.proofs.lemmas.Bool.Decides.{nat_tests, Decides-eqb}
use Rattle.std.proofs.lemmas.List.Elements.{All-nil, All-cons, All-append, All-filter}
use Rattle.gaz_num.specs.declared.words.Kind.TheVariants.{Alt}
use Rattle.gaz_num.specs.declared.words.Table.TheVariants.{Alternates}
use Rattle.gaz_pick.proofs.OrderLemmas.{by_test}
use Rattle.gaz_plain.specs.Gazetteer.{IsLine, key_of, key_cmp, line_at, replaced}
use Rattle.gaz_plain.specs.Places.{IsKeyOf, EndsBefore, with_line, without_line}
use Rattle.gaz_plain.specs.Placed.{place_in, is_one_of, has_place, has_pair, IsEdit, ArePlaced}
use Rattle.gaz_plain.proofs.KeyOrder.{key_of_keyed, All-rest}
use Rattle.gaz_plain.proofs.Tables.{find-replaced, find-replaced_other}
use Rattle.gaz_plain.proofs.Steps.{alone, not_alone}

-- ---- pairs in order

-- how a set of pairs compares them
abbrev pub pair_cmp : ℕ × ℕ → ℕ × ℕ → Ordering
pair_cmp a b = ordering_then (nat_cmp a.0 b.0) (nat_cmp a.1 b.1)

then_tied : (r s : Ordering) → is_eq (ordering_then r s) ≡ (is_eq r && is_eq s)
then_tied Less s = refl
then_tied Equal s = refl
then_tied Greater s = refl

num_tied : (a b : ℕ) → is_eq (nat_cmp a b) ≡ (a == b)
num_tied a b = grind (arith, nat_tests)

same_pair : (place id : ℕ) (q : ℕ × ℕ) → is_eq (pair_cmp (place, id) q) ≡ (place == q.0 && id == q.1)
same_pair place id q = then_tied (nat_cmp place q.0) (nat_cmp id q.1) ∙ ap (λ b. b && is_eq (nat_cmp id q.1)) (num_tied place q.0) ∙ ap (λ b. (place == q.0) && b) (num_tied id q.1)

-- whether a pair is there, as a set tells it
pub has_told : (pairs : List (ℕ × ℕ)) (place id : ℕ) → list_any (is_at (pair_cmp (place, id))) pairs ≡ has_pair pairs place id
has_told pairs place id = ap (λ (test : ℕ × ℕ → Bool). list_any test pairs) (λ i q. same_pair place id q i)

-- an edit, as a set tells it
pub edit_told : (there : Bool) (place id : ℕ) (old new : List (ℕ × ℕ)) → ((q : ℕ × ℕ) → list_any (is_at (pair_cmp q)) new ≡ cond (is_at (pair_cmp (place, id)) q) there (list_any (is_at (pair_cmp q)) old)) → IsEdit there place id old new
edit_told there place id old new told p i =
    sym (has_told new p i)
    ∙ told (p, i)
    ∙ ap (λ test. cond test there (list_any (is_at (pair_cmp (p, i))) old)) (same_pair place id (p, i))
    ∙ ap (λ had. cond (place == p && id == i) there had) (has_told old p i)

-- ---- the pairs of a place

in_range_by : (r s t : Ordering) → is_le s ≡ true → is_lt t ≡ false → (is_le (ordering_then r s) && not (is_lt (ordering_then r t))) ≡ is_eq r
in_range_by Less s t low high = refl
in_range_by Equal s t low high = rw (low, high) refl
in_range_by Greater s t low high = refl

in_range : (place : ℕ) (q : ℕ × ℕ) → q.1 < 2 ^ 32 → range_contains pair_cmp (Included (place, 0)) (Included (place, 4294967295)) q ≡ (place == q.0)
in_range place q small =
    let low : is_le (nat_cmp 0 q.1) ≡ true = grind (arith, nat_tests) in
    let high : is_lt (nat_cmp 4294967295 q.1) ≡ false = grind (arith, nat_tests) in
    in_range_by (nat_cmp place q.0) (nat_cmp 0 q.1) (nat_cmp 4294967295 q.1) low high ∙ num_tied place q.0

pub range_told : (place : ℕ) (pairs : List (ℕ × ℕ)) → All (λ pair. pair.1 < 2 ^ 32) pairs → filter (range_contains pair_cmp (Included (place, 0)) (Included (place, 4294967295))) pairs ≡ filter (λ pair. place == pair.0) pairs
range_told place [] small = refl
range_told place (q ∷ qs) small =
    let head = in_range place q (small 0 q (omega arith)) in
    let rest = range_told place qs (All-rest (λ (pair : ℕ × ℕ). pair.1 < 2 ^ 32) q qs small) in
    by_test (place == q.0)
    (λ is. let also : range_contains pair_cmp (Included (place, 0)) (Included (place, 4294967295)) q ≡ true = head ∙ is in rw (also, is) (ap (λ more. q ∷ more) rest))
    (λ is. let also : range_contains pair_cmp (Included (place, 0)) (Included (place, 4294967295)) q ≡ false = head ∙ is in rw (also, is) rest)

-- ---- what an edit of the alternates leaves of places

module _ (alternates : List (List ℕ)) (id place : ℕ) where
  found_by : (i : ℕ) → (id == i) ≡ false → i ∷ [] ≢ id ∷ []
  found_by i differs same = let is : i ≡ id = ap (λ (key : List ℕ). unwrap_or (slice_get key 0) 0) same in true≢false (sym ((Decides-eqb id i).1 (sym is)) ∙ differs)

  -- the place of each with the line at its id
  pub place_with : (line : List ℕ) → IsKeyOf Alternates (id ∷ []) line → place_in line ≡ place → (p i : ℕ) → has_place (with_line Alternates (id ∷ []) line alternates) p i ≡ (if id == i then place == p else has_place alternates p i)
  place_with line keyed is p i =
      by_test (id == i)
      (λ here.
      let same : id ≡ i = (Decides-eqb id i).0 here in
      rw (here, ← same) (ap (is_one_of p) (find-replaced Alternates (id ∷ []) (line ∷ []) alternates ∙ alone Alternates line (id ∷ []) (key_of_keyed Alternates (id ∷ []) line keyed)) ∙ ap (λ n. n == p) is))
      (λ other.
      rw other (ap (is_one_of p) (find-replaced_other Alternates (id ∷ []) (line ∷ []) alternates (i ∷ []) (found_by i other) (not_alone Alternates line (id ∷ []) (i ∷ []) (key_of_keyed Alternates (id ∷ []) line keyed) (found_by i other)))))

  pub place_without : (p i : ℕ) → has_place (without_line Alternates (id ∷ []) alternates) p i ≡ (if id == i then false else has_place alternates p i)
  place_without p i =
      by_test (id == i)
      (λ here. let same : id ≡ i = (Decides-eqb id i).0 here in rw (here, ← same) (ap (is_one_of p) (find-replaced Alternates (id ∷ []) [] alternates)))
      (λ other. rw other (ap (is_one_of p) (find-replaced_other Alternates (id ∷ []) [] alternates (i ∷ []) (found_by i other) refl)))

  -- ---- pairs that follow

  module _ (old one : List (ℕ × ℕ)) (are : (p i : ℕ) → has_pair old p i ≡ has_place alternates p i) where
    -- a pair put in, where the id was at no other place
    pub pairs_put : IsEdit true place id old one → ((p : ℕ) → (place == p) ≡ false → has_place alternates p id ≡ false) → (p i : ℕ) → has_pair one p i ≡ (if id == i then place == p else has_place alternates p i)
    pairs_put edit nowhere p i =
        edit p i ∙ ap (λ had. if place == p && id == i then true else had) (are p i) ∙ by_test (id == i)
        (λ here.
        let same : id ≡ i = (Decides-eqb id i).0 here in
        by_test (place == p)
        (λ at. rw (here, at) refl)
        (λ elsewhere. rw (here, elsewhere, ← same) (nowhere p elsewhere)))
        (λ other. by_test (place == p) (λ at. rw (other, at) refl) (λ elsewhere. rw (other, elsewhere) refl))

    -- a pair put in, and then that of the place where the id was taken out
    pub pairs_moved : (from : ℕ) (two : List (ℕ × ℕ)) → IsEdit true place id old one → IsEdit false from id one two → (from == place) ≡ false → ((p : ℕ) → has_place alternates p id ≡ (from == p)) → (p i : ℕ) → has_pair two p i ≡ (if id == i then place == p else has_place alternates p i)
    pairs_moved from two put out apart was p i =
        out p i ∙ ap (λ had. if from == p && id == i then false else had) (put p i ∙ ap (λ had. if place == p && id == i then true else had) (are p i)) ∙ by_test (id == i)
        (λ here.
        let same : id ≡ i = (Decides-eqb id i).0 here in
        let had : has_place alternates p i ≡ (from == p) = subst (λ n. has_place alternates p n ≡ (from == p)) same (was p) in
        by_test (place == p)
        (λ at.
        let gone : (from == p) ≡ false = subst (λ n. (from == n) ≡ false) ((Decides-eqb place p).0 at) apart in
        rw (here, at, gone) refl)
        (λ elsewhere. by_test (from == p) (λ is. rw (here, elsewhere, is) refl) (λ isnt. rw (here, elsewhere, isnt) (had ∙ isnt))))
        (λ other.
        by_test (place == p)
        (λ at. by_test (from == p) (λ is. rw (other, at, is) refl) (λ isnt. rw (other, at, isnt) refl))
        (λ elsewhere. by_test (from == p) (λ is. rw (other, elsewhere, is) refl) (λ isnt. rw (other, elsewhere, isnt) refl)))

    -- the pair of the place where the id was, taken out
    pub pairs_out : (from : ℕ) → IsEdit false from id old one → ((p : ℕ) → has_place alternates p id ≡ (from == p)) → (p i : ℕ) → has_pair one p i ≡ (if id == i then false else has_place alternates p i)
    pairs_out from out was p i =
        out p i ∙ ap (λ had. if from == p && id == i then false else had) (are p i) ∙ by_test (id == i)
        (λ here.
        let same : id ≡ i = (Decides-eqb id i).0 here in
        let had : has_place alternates p i ≡ (from == p) = subst (λ n. has_place alternates p n ≡ (from == p)) same (was p) in
        by_test (from == p) (λ is. rw (here, is) refl) (λ isnt. rw (here, isnt) (had ∙ isnt)))
        (λ other. by_test (from == p) (λ is. rw (other, is) refl) (λ isnt. rw (other, isnt) refl))

-- where the alternate with an id was
pub was_at : (alternates : List (List ℕ)) (id from : ℕ) → option_map place_in (line_at Alternates (id ∷ []) alternates) ≡ Some from → (p : ℕ) → has_place alternates p id ≡ (from == p)
was_at alternates id from told p = by (line_at Alternates (id ∷ []) alternates) told
  where
    by : (found : Option (List ℕ)) → option_map place_in found ≡ Some from → is_one_of p found ≡ (from == p)
    by None is = cc
    by (Some line) is = let same : place_in line ≡ from = cc in ap (λ n. n == p) same

pub was_nowhere : (alternates : List (List ℕ)) (id : ℕ) → option_map place_in (line_at Alternates (id ∷ []) alternates) ≡ None → (p : ℕ) → has_place alternates p id ≡ false
was_nowhere alternates id told p = by (line_at Alternates (id ∷ []) alternates) told
  where
    by : (found : Option (List ℕ)) → option_map place_in found ≡ None → is_one_of p found ≡ false
    by None is = refl
    by (Some line) is = cc

-- ---- what the invariant is after each edit

-- what holds of all lines and of what is put holds after an edit
each_replaced : (key : List ℕ) (put lines : List (List ℕ)) → All (IsLine Alt) lines → All (IsLine Alt) put → All (IsLine Alt) (replaced Alternates key put lines)
each_replaced key put lines are puts =
    let low = filter (λ line. is_lt (key_cmp (key_of Alternates line) key)) lines in
    let high = filter (λ line. is_gt (key_cmp (key_of Alternates line) key)) lines in
    All-append (IsLine Alt) (low ++ put) high
    (All-append (IsLine Alt) low put (All-filter (λ line. is_lt (key_cmp (key_of Alternates line) key)) (IsLine Alt) lines are) puts)
    (All-filter (λ line. is_gt (key_cmp (key_of Alternates line) key)) (IsLine Alt) lines are)

module _ (alternates : List (List ℕ)) (pairs : List (ℕ × ℕ)) (placed : ArePlaced alternates pairs) (id : ℕ) where
  module _ (new : List (List ℕ)) (lines : new ≡ without_line Alternates (id ∷ []) alternates) where
    each_without : All (IsLine Alt) new
    each_without = rw lines (each_replaced (id ∷ []) [] alternates placed.each (All-nil (IsLine Alt)))

    pub out_placed : (from : ℕ) (two : List (ℕ × ℕ)) → option_map place_in (line_at Alternates (id ∷ []) alternates) ≡ Some from → IsEdit false from id pairs two → ArePlaced new two
    out_placed from two was out = record {
      each = each_without;
      pairs_are = λ p i. pairs_out alternates id 0 pairs two placed.pairs_are from out (was_at alternates id from was) p i ∙ sym (place_without alternates id 0 p i) ∙ ap (λ ls. has_place ls p i) (sym lines);
    }

    pub none_placed : option_map place_in (line_at Alternates (id ∷ []) alternates) ≡ None → ArePlaced new pairs
    none_placed was = record {
      each = each_without;
      pairs_are = λ p i. placed.pairs_are p i ∙ nowhere p i ∙ sym (place_without alternates id 0 p i) ∙ ap (λ ls. has_place ls p i) (sym lines);
    }
      where
        nowhere : (p i : ℕ) → has_place alternates p i ≡ (if id == i then false else has_place alternates p i)
        nowhere p i = by_test (id == i)
            (λ here. rw here (subst (λ n. has_place alternates p n ≡ false) ((Decides-eqb id i).0 here) (was_nowhere alternates id was p)))
            (λ other. rw other refl)

  module _ (line : List ℕ) (place : ℕ) (is : IsLine Alt line) (keyed : IsKeyOf Alternates (id ∷ []) line) (at : place_in line ≡ place) (new : List (List ℕ)) (lines : new ≡ with_line Alternates (id ∷ []) line alternates) (one : List (ℕ × ℕ)) (put : IsEdit true place id pairs one) where
    each_with : All (IsLine Alt) new
    each_with = rw lines (each_replaced (id ∷ []) (line ∷ []) alternates placed.each (All-cons (IsLine Alt) line [] is (All-nil (IsLine Alt))))

    as_new : (p i : ℕ) → (if id == i then place == p else has_place alternates p i) ≡ has_place new p i
    as_new p i = sym (place_with alternates id place line keyed at p i) ∙ ap (λ ls. has_place ls p i) (sym lines)

    -- where the id was at another place
    pub moved_placed : (from : ℕ) (two : List (ℕ × ℕ)) → (from == place) ≡ false → option_map place_in (line_at Alternates (id ∷ []) alternates) ≡ Some from → IsEdit false from id one two → ArePlaced new two
    moved_placed from two apart was out = record {
      each = each_with;
      pairs_are = λ p i. pairs_moved alternates id place pairs one placed.pairs_are from two put out apart (was_at alternates id from was) p i ∙ as_new p i;
    }

    -- where it was at this one
    pub kept_placed : (from : ℕ) → from ≡ place → option_map place_in (line_at Alternates (id ∷ []) alternates) ≡ Some from → ArePlaced new one
    kept_placed from same was = record {
      each = each_with;
      pairs_are = λ p i. pairs_put alternates id place pairs one placed.pairs_are put (λ q elsewhere. was_at alternates id from was q ∙ ap (λ n. n == q) same ∙ elsewhere) p i ∙ as_new p i;
    }

    -- where it was at none
    pub new_placed : option_map place_in (line_at Alternates (id ∷ []) alternates) ≡ None → ArePlaced new one
    new_placed was = record {
      each = each_with;
      pairs_are = λ p i. pairs_put alternates id place pairs one placed.pairs_are put (λ q elsewhere. was_nowhere alternates id was q) p i ∙ as_new p i;
    }

-- where all ids are lesser the id is at no place
ends_absent : (id : ℕ) (lines : List (List ℕ)) → EndsBefore Alternates (id ∷ []) lines → line_at Alternates (id ∷ []) lines ≡ None
ends_absent id [] ends = refl
ends_absent id (line ∷ lines) ends =
    let head : is_eq (key_cmp (key_of Alternates line) (id ∷ [])) ≡ false = ap is_eq (ends 0 line (omega arith)) in
    rw head (ends_absent id lines (λ k d below. ends (suc k) d (omega (arith, below))))
