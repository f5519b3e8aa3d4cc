-- The alternates of a place that fit are found by its pairs.
use Rattle.std.proofs.Common.{◌≡◌, ℕ, suc, ◌<◌, Bool, true, false, List, [], ◌∷◌, filter, length, get_or, Option, Some, None, refl, sym, ap, ◌∙◌, arith}
use mathlib.Core.Bool.{true≢false}
use Rattle.std.specs.Prelude.{◌&&◌, ◌||◌, ◌==◌, All, unwrap_or}
use Rattle.std.specs.List.{list_any}
use Rattle.std.specs.Ordering.{is_eq}
use Rattle.std.proofs.lemmas.Bool.Decides.{Decides-eqb}
use Rattle.gaz_num.specs.Numbers.{id_in}
use Rattle.gaz_num.specs.Pieces.{column}
use Rattle.gaz_num.specs.declared.words.Kind.TheVariants.{Alt}
use Rattle.gaz_num.specs.declared.words.Table.TheVariants.{Alternates}
use Rattle.gaz_alt.proofs.AcceptedLemmas.{accepted}
use Rattle.gaz_pick.proofs.OrderLemmas.{by_test}
use Rattle.gaz_plain.specs.Gazetteer.{IsLine, IsTable, key_of, key_cmp, line_at}
use Rattle.gaz_plain.specs.Names.{is_of, counts_in}
use Rattle.gaz_plain.specs.Placed.{is_one_of, has_pair, ArePlaced}
use Rattle.gaz_plain.specs.Wanted.{fits, fits_as, fits_line, fits_any}
use Rattle.gaz_plain.specs.declared.wanted.Wanted.{Wanted}
use Rattle.gaz_plain.proofs.KeyOrder.{All-rest}
use Rattle.gaz_plain.proofs.Selected.{keyed, found_by_key}

or_right : (a b : Bool) → b ≡ true → (a || b) ≡ true
or_right true b is = refl
or_right false b is = is

and_parts : (a b : Bool) → (a && b) ≡ true → (a ≡ true) × (b ≡ true)
and_parts true b is = (refl, is)
and_parts false b is = absurd (true≢false (sym is))

both_ways : (a b : Bool) → (a ≡ true → b ≡ true) → (b ≡ true → a ≡ true) → a ≡ b
both_ways true b there back = sym (there refl)
both_ways false true there back = back refl
both_ways false false there back = refl

-- a line that is found is one of all
pub found_is : (key line : List ℕ) (lines : List (List ℕ)) → All (IsLine Alt) lines → line_at Alternates key lines ≡ Some line → IsLine Alt line
found_is key line [] are found = cc
found_is key line (l ∷ ls) are found =
    by_test (is_eq (key_cmp (key_of Alternates l) key))
    (λ here. let is : l ≡ line = some_same l line (rw here at found) in rw (← is) (are 0 l (omega arith)))
    (λ other. found_is key line ls (All-rest (IsLine Alt) l ls are) (rw other at found))
  where
    some_same : (a b : List ℕ) → Some a ≡ Some b → a ≡ b
    some_same a b same = ap (λ o. unwrap_or o []) same

module _ (wanted : Wanted) (lang : Option (List ℕ)) (place : ℕ) (alternates : List (List ℕ)) where
  -- whether the alternate of a pair fits
  abbrev visits : ℕ × ℕ → Bool
  visits pair = fits_line wanted lang place (line_at Alternates (pair.1 ∷ []) alternates)

  abbrev of_place : List (ℕ × ℕ) → List (ℕ × ℕ)
  of_place pairs = filter (λ pair. place == pair.0) pairs

  any_found : (key line : List ℕ) (lines : List (List ℕ)) → line_at Alternates key lines ≡ Some line → fits_as wanted lang place line ≡ true → fits_any wanted lang place lines ≡ true
  any_found key line [] found fit = cc
  any_found key line (l ∷ ls) found fit =
      by_test (is_eq (key_cmp (key_of Alternates l) key))
      (λ here. let is : l ≡ line = ap (λ o. unwrap_or o []) (some_is l line (rw here at found)) in let test : fits_as wanted lang place l ≡ true = ap (fits_as wanted lang place) is ∙ fit in rw test refl)
      (λ other. or_right (fits_as wanted lang place l) (fits_any wanted lang place ls) (any_found key line ls (rw other at found) fit))
    where
      some_is : (a b : List ℕ) → Some a ≡ Some b → Some a ≡ Some b
      some_is a b same = same

  found_fits : (key : List ℕ) (found : Option (List ℕ)) → line_at Alternates key alternates ≡ found → fits_line wanted lang place found ≡ true → fits_any wanted lang place alternates ≡ true
  found_fits key None is fit = absurd (true≢false (sym fit))
  found_fits key (Some line) is fit = any_found key line alternates is fit

  visited : (pairs : List (ℕ × ℕ)) → list_any visits (of_place pairs) ≡ true → fits_any wanted lang place alternates ≡ true
  visited [] some = absurd (true≢false (sym some))
  visited (q ∷ qs) some =
      let more = visited qs in
      by_test (place == q.0)
      (λ at.
      let here : (visits q || list_any visits (of_place qs)) ≡ true = rw at at some in
      by_test (visits q)
      (λ fit. found_fits (q.1 ∷ []) (line_at Alternates (q.1 ∷ []) alternates) refl fit)
      (λ not. more (rw not at here)))
      (λ elsewhere. more (rw elsewhere at some))

  comes : (id : ℕ) (pairs : List (ℕ × ℕ)) → has_pair pairs place id ≡ true → visits (place, id) ≡ true → list_any visits (of_place pairs) ≡ true
  comes id [] there fit = absurd (true≢false (sym there))
  comes id (q ∷ qs) there fit =
      let more = comes id qs in
      by_test (place == q.0 && id == q.1)
      (λ both.
      let at = and_parts (place == q.0) (id == q.1) both in
      let same : id ≡ q.1 = (Decides-eqb id q.1).0 at.1 in
      let here : visits q ≡ true = ap (λ n. fits_line wanted lang place (line_at Alternates (n ∷ []) alternates)) (sym same) ∙ fit in
      rw at.0 (rw here refl))
      (λ other.
      let rest = more (rw other at there) fit in
      by_test (place == q.0) (λ at. rw at (or_right (visits q) (list_any visits (of_place qs)) rest)) (λ elsewhere. rw elsewhere rest))

  -- An alternate that fits, found by its id.
  record HasFit : Type 0 where
    id : ℕ
    line : List ℕ
    found : line_at Alternates (id ∷ []) alternates ≡ Some line
    fit : fits_as wanted lang place line ≡ true

  fitting : (lines : List (List ℕ)) → All (IsLine Alt) lines → ((k : ℕ) (d : List ℕ) → k < length lines → line_at Alternates (key_of Alternates (get_or lines k d)) alternates ≡ Some (get_or lines k d)) → fits_any wanted lang place lines ≡ true → HasFit
  fitting [] are found some = absurd (true≢false (sym some))
  fitting (l ∷ ls) are found some =
      let more = fitting ls (All-rest (IsLine Alt) l ls are) (λ k d below. found (suc k) d (omega (arith, below))) in
      by_test (fits_as wanted lang place l)
      (λ fit. record {
        id = unwrap_or (id_in (column 1 l)) 0;
        line = l;
        found = ap (λ key. line_at Alternates key alternates) (sym (keyed (id_in (column 1 l)) (accepted l (are 0 l (omega arith)).accepted).id)) ∙ found 0 l (omega arith);
        fit = fit;
      })
      (λ not. more (rw not at some))

  -- what the pairs of a place tell
  pub placed_told : (pairs : List (ℕ × ℕ)) → IsTable Alternates alternates → ArePlaced alternates pairs → list_any visits (of_place pairs) ≡ fits_any wanted lang place alternates
  placed_told pairs are placed =
      both_ways (list_any visits (of_place pairs)) (fits_any wanted lang place alternates) (visited pairs)
      (λ some.
      let has = fitting alternates are.each (λ k d below. found_by_key Alternates alternates k d are.rising below) some in
      let parts = and_parts (is_of place has.line && counts_in lang has.line) (fits wanted (column 4 has.line)) has.fit in
      let of = and_parts (is_of place has.line) (counts_in lang has.line) parts.0 in
      let there : has_pair pairs place has.id ≡ true = placed.pairs_are place has.id ∙ ap (is_one_of place) has.found ∙ of.0 in
      comes has.id pairs there (ap (fits_line wanted lang place) has.found ∙ has.fit))
