-- Candidates in order, of which the first of each place is looked at.
use Rattle.std.proofs.Common.{◌≡◌, ◌<◌, ◌≤◌, ◌+◌, ◌*◌, ℕ, zero, suc, Bool, true, false, true≢false, eqb, List, [], ◌∷◌, length, take, map, refl, sym, ◌∙◌, ap, subst, arith, inl, inr}
use Rattle.std.specs.Prelude.{Contains, not, ◌==◌, ◌||◌, ◌⊎◌, nat_lt, slice_index_or}
use Rattle.std.specs.List.{IsDistinct, AllByRecursion}
use Rattle.std.specs.List.Sorted.{IsPermutation, IsSortedBy}
use Rattle.std.specs.Ordering.{bool_cmp, is_lt, nat_cmp, ordering_then}
use Rattle.std.specs.declared.cmp.Ordering.{Ordering}
use Rattle.std.proofs.lemmas.List.Sorted.{Contains-permutation, IsPermutation-sym}
use Rattle.std.specs.Cmp.{nat_eq_equiv}
use Rattle.std.proofs.lemmas.Bool.{eqb-true, ne_eqb, or_left, or_right, and_from}
use Rattle.std.proofs.lemmas.Bool.Decides.{Decides-eqb, nat_tests}
use Rattle.std.proofs.lemmas.List.Folds.{list_any_more}
use Rattle.std.proofs.lemmas.Map.Views.{Contains-from_any, list_any-from_Contains}
use Rattle.std.proofs.lemmas.Map.Made.{length-le_from_is_member}
use Rattle.gaz_num.proofs.CalendarLemmas.{and_left, and_right}
use Rattle.gaz_row.specs.Row.{id_of}
use Rattle.gaz_pick.specs.Asked.{Asked}
use Rattle.gaz_pick.specs.Order.{Pair as Picked}
use Rattle.gaz_pick.proofs.OrderLemmas.{by_test}
use Rattle.gaz_plain.specs.Gazetteer.{Gazetteer, IsGazetteer}
use Rattle.gaz_keys.proofs.Tags.{contained, contained_none}
use Rattle.gaz_rows.proofs.Counting.{map_contains, map_from}
use Rattle.gaz_rows.proofs.Members.{head_is_in}
use Rattle.gaz_plan.specs.declared.gather.Candidate.{Candidate}
use Rattle.gaz_plan.specs.Seen.{SeesMore}
use Rattle.gaz_plan.specs.Ways.{fits_itself, is_itself}
use Rattle.gaz_plan.specs.Gathered.{AreInOrder, AreLedTo, HavePlaces, IsAgain, IsLedTo, StandsBehind, is_gathered, is_sought}
use Rattle.gaz_plan.proofs.Bools.{any_has, either, has_any}
use Rattle.gaz_plan.proofs.Offering.{sees, sees_both, sees_nothing}

-- ---- the rows of a candidate

pub sought_id : (asked : Asked) (c : Candidate) (row : List ℕ) → is_sought asked c row ≡ true → c.place ≡ id_of row
sought_id asked c row sought = (Decides-eqb c.place (id_of row)).0 (and_left (c.place == id_of row) (not c.by_own || fits_itself asked row) sought)

pub sought_fits : (asked : Asked) (c : Candidate) (row : List ℕ) → is_sought asked c row ≡ true → c.by_own ≡ true → fits_itself asked row ≡ true
sought_fits asked c row sought own =
    either (not c.by_own) (fits_itself asked row) (fits_itself asked row ≡ true) (and_right (c.place == id_of row) (not c.by_own || fits_itself asked row) sought)
    (λ other. absurd (true≢false (sym other ∙ ap not own)))
    (λ fits. fits)

pub sought_itself : (asked : Asked) (c : Candidate) (row : List ℕ) → c.by_own ≡ true → is_sought asked c row ≡ true → is_itself asked c.place row ≡ true
sought_itself asked c row own sought =
    and_from (c.place == id_of row) (fits_itself asked row) (and_left (c.place == id_of row) (not c.by_own || fits_itself asked row) sought) (sought_fits asked c row sought own)

-- a row that is sought by one behind is by one before with the same place
sought_before : (asked : Asked) (b c : Candidate) (row : List ℕ) → b.place ≡ c.place → (c.by_own ≡ false → b.by_own ≡ false) → is_sought asked c row ≡ true → is_sought asked b row ≡ true
sought_before asked b c row same lead sought =
    and_from (b.place == id_of row) (not b.by_own || fits_itself asked row) ((Decides-eqb b.place (id_of row)).1 (same ∙ sought_id asked c row sought))
    (by_test c.by_own
    (λ own. or_right (not b.by_own) (fits_itself asked row) (sought_fits asked c row sought own))
    (λ other. or_left (not b.by_own) (fits_itself asked row) (ap not (lead other))))

-- ---- their order

reads_same : (xs : List Candidate) (k : ℕ) (d e : Candidate) → k < length xs → slice_index_or xs k d ≡ slice_index_or xs k e
reads_same [] k d e inside = absurd (omega (arith, inside))
reads_same (x ∷ xs) zero d e inside = refl
reads_same (x ∷ xs) (suc k) d e inside = reads_same xs k d e (omega (arith, inside))

-- what the element is, whatever is read where there is none
pub read_is : (xs : List Candidate) (k : ℕ) (e : Candidate) → k < length xs → (d : Candidate) → slice_index_or xs k d ≡ slice_index_or xs k e
read_is xs k e inside d = reads_same xs k d e inside

abbrev order_of : Candidate → Candidate → Ordering
order_of b c = ordering_then (nat_cmp b.place c.place) (bool_cmp b.by_own c.by_own)

not_less : (b c : Candidate) → is_lt (order_of c b) ≡ false → StandsBehind b c
not_less b c least =
    by_test (nat_lt c.place b.place)
    (λ less. absurd (true≢false (rw less at least)))
    (λ most. by_test (c.place == b.place)
    (λ same. inr (sym ((Decides-eqb c.place b.place).0 same), tied c.by_own b.by_own (rw (most, same) at least)))
    (λ other. inl (grind (arith, nat_tests, most, other))))
  where
    tied : (p q : Bool) → is_lt (bool_cmp p q) ≡ false → p ≡ false → q ≡ false
    tied false false least is = refl
    tied false true least is = absurd (true≢false least)
    tied true q least is = absurd (true≢false is)

pub in_order : (xs : List Candidate) → IsSortedBy (λ x y. is_lt (order_of x y)) xs → AreInOrder xs
in_order xs sorted k d within = not_less (slice_index_or xs k d) (slice_index_or xs (k + 1) d) (sorted k d (omega arith) within)

-- ---- the walk over them

module _ (candidates : List Candidate) (order : AreInOrder candidates) (at : ℕ) (within : at < length candidates) (c : Candidate) (is : (d : Candidate) → slice_index_or candidates at d ≡ c) where
  -- the one before, if there is one
  behind : (k : ℕ) (d : Candidate) → k + 1 ≡ at → StandsBehind (slice_index_or candidates k d) c
  behind k d next =
      subst (StandsBehind (slice_index_or candidates k d)) (ap (λ n. slice_index_or candidates n d) next ∙ is d) (order k d (omega (arith, next, within)))

  before_is : (k : ℕ) (d : Candidate) → k + 1 ≡ at → Contains (take at candidates) (slice_index_or candidates k d)
  before_is k d next = taken_has candidates at k d (omega (arith, next)) (omega (arith, next, within))
    where
      taken_has : (xs : List Candidate) (n k : ℕ) (d : Candidate) → k < n → k < length xs → Contains (take n xs) (slice_index_or xs k d)
      taken_has xs zero k d below inside = absurd (omega (arith, below))
      taken_has [] (suc n) k d below inside = absurd (omega (arith, inside))
      taken_has (x ∷ xs) (suc n) zero d below inside = head_is_in x (take n xs)
      taken_has (x ∷ xs) (suc n) (suc k) d below inside = behind_head x (take n xs) (slice_index_or xs k d) (taken_has xs n k d (omega (arith, below)) (omega (arith, inside)))
        where
          behind_head : (x : Candidate) (xs : List Candidate) (y : Candidate) → Contains xs y → Contains (x ∷ xs) y
          behind_head x xs y has = let below = has.1 in (suc has.0, omega (arith, below), has.2)

  module _ (gaz : Gazetteer) (is_gaz : IsGazetteer gaz) (asked : Asked) (keep : ℕ) (start now : List Picked) (before : SeesMore gaz asked keep (is_gathered asked (take at candidates)) start now) where
    more_gathered : (row : List ℕ) → is_gathered asked (take (at + 1) candidates) row ≡ (is_gathered asked (take at candidates) row || is_sought asked c row)
    more_gathered row = list_any_more (λ e. is_sought asked e row) candidates at c within ∙ ap (λ e. is_gathered asked (take at candidates) row || is_sought asked e row) (is c)

    -- it is of the same place as the one before
    pub seen_again : IsAgain candidates at → SeesMore gaz asked keep (is_gathered asked (take (at + 1) candidates)) start now
    seen_again again =
        sees gaz is_gaz asked keep (is_gathered asked (take at candidates)) (is_gathered asked (take (at + 1) candidates)) start now before
        (λ row there matches gathered.
        either (is_gathered asked (take at candidates) row) (is_sought asked c row) (is_gathered asked (take at candidates) row ≡ true) (sym (more_gathered row) ∙ gathered)
        (λ earlier. earlier)
        (λ sought. by at refl again.0 row sought))
      where
        by : (n : ℕ) → n ≡ at → 0 < n → (row : List ℕ) → is_sought asked c row ≡ true → is_gathered asked (take at candidates) row ≡ true
        by zero same some row sought = absurd (omega (arith, some))
        by (suc k) same some row sought =
            let next : k + 1 ≡ at = omega (arith, same) in
            let b = slice_index_or candidates k c in
            let place : b.place ≡ c.place = again.1 k c next ∙ ap (λ (e : Candidate). e.place) (is c) in
            elim (behind k c next) [
              | inl less ↦ absurd (omega (arith, less, place))
              | inr tied ↦ has_any (λ e. is_sought asked e row) (take at candidates) b (before_is k c next) (sought_before asked b c row place tied.1 sought)
            ]

    -- its row was offered
    pub seen_on : (after : List Picked) → SeesMore gaz asked keep (is_sought asked c) now after → SeesMore gaz asked keep (is_gathered asked (take (at + 1) candidates)) start after
    seen_on after more =
        sees gaz is_gaz asked keep (λ row. is_gathered asked (take at candidates) row || is_sought asked c row) (is_gathered asked (take (at + 1) candidates)) start after
        (sees_both gaz is_gaz asked keep (is_gathered asked (take at candidates)) (is_sought asked c) start now after before more)
        (λ row there matches gathered. sym (more_gathered row) ∙ gathered)

-- nothing was looked at
pub seen_none : (gaz : Gazetteer) → IsGazetteer gaz → (asked : Asked) (keep : ℕ) (now : List Picked) → SeesMore gaz asked keep (is_gathered asked []) now now
seen_none gaz is asked keep now = sees_nothing gaz is asked keep (is_gathered asked []) now (λ row there matches none. true≢false (sym none))

-- ---- how many rows are read

-- Each number is less than the one before.
abbrev pub Falls : ℕ → List ℕ → Type 0
Falls top [] = Unit {0}
Falls top (n ∷ ns) = (n < top) × Falls n ns

falls_higher : (top more : ℕ) (ns : List ℕ) → top ≤ more → Falls top ns → Falls more ns
falls_higher top more [] le falls = tt
falls_higher top more (n ∷ ns) le falls = let less = falls.0 in (omega (arith, le, less), falls.1)

others : (n top : ℕ) (ns : List ℕ) → top ≤ n → Falls top ns → AllByRecursion (λ m. eqb n m ≡ false) ns
others n top [] le falls = tt
others n top (m ∷ ns) le falls = let less = falls.0 in (ne_eqb n m (omega (arith, le, less)), others n m ns (omega (arith, le, less)) falls.1)

distinct : (top : ℕ) (ns : List ℕ) → Falls top ns → IsDistinct eqb ns
unfolding IsDistinct
distinct top [] falls = tt
distinct top (n ∷ ns) falls = (others n n ns (omega arith) falls.1, distinct n ns falls.1)

few_falling : (top : ℕ) (ns places : List ℕ) → Falls top ns → ((n : ℕ) → Contains ns n → Contains places n) → length ns ≤ length places
few_falling top ns places falls each =
    length-le_from_is_member nat_eq_equiv ns places (distinct top ns falls)
    (λ n is. list_any-from_Contains nat_eq_equiv n places (each n (Contains-from_any eqb-true n ns is)))

-- The rows of these places were read, of the candidates up to one.
pub record HasVisited (candidates : List Candidate) (at start now : ℕ) : Type 0 where
  pub visited : List ℕ
  pub first : at ≡ 0 → visited ≡ []
  pub falls : (k : ℕ) (d : Candidate) → k + 1 ≡ at → Falls ((slice_index_or candidates k d).place + 1) visited
  pub each : (n : ℕ) → Contains visited n → Contains (map (λ (c : Candidate). c.place) candidates) n
  pub read : now ≤ start + 23 * length visited

pub visited_none : (candidates : List Candidate) (start : ℕ) → HasVisited candidates 0 start start
visited_none candidates start = record {
  visited = [];
  first = λ none. refl;
  falls = λ k d is. absurd (omega (arith, is));
  each = λ n has. absurd (contained_none n has);
  read = omega arith;
}

pub visited_few : (candidates : List Candidate) (at start now : ℕ) → at ≤ length candidates → HasVisited candidates at start now → (places : List ℕ) → HavePlaces places candidates → now ≤ start + 23 * length places
visited_few candidates at start now within v places have =
    let read = v.read in
    let few = by at refl in
    omega (arith, read, few)
  where
    has : (n : ℕ) → Contains v.visited n → Contains places n
    has n is = let from = map_from (λ (c : Candidate). c.place) candidates n (v.each n is) in subst (Contains places) from.2 (have from.0 from.1)

    by : (n : ℕ) → n ≡ at → length v.visited ≤ length places
    by zero is = let none = ap length (v.first (sym is)) in omega (arith, none)
    by (suc k) is = few_falling ((slice_index_or candidates k (record { place = 0; by_own = false })).place + 1) v.visited places (v.falls k (record { place = 0; by_own = false }) (omega (arith, is))) has

module _ (candidates : List Candidate) (order : AreInOrder candidates) (at start now : ℕ) (within : at < length candidates) (c : Candidate) (is : (d : Candidate) → slice_index_or candidates at d ≡ c) (v : HasVisited candidates at start now) where
  -- the last one that was looked at, with a lower bound of what comes
  pub visited_again : IsAgain candidates at → HasVisited candidates (at + 1) start now
  visited_again again = record {
    visited = v.visited;
    first = λ none. absurd (omega (arith, none));
    falls = λ k d next. by at refl again.0 k d next;
    each = v.each;
    read = v.read;
  }
    where
      by : (n : ℕ) → n ≡ at → 0 < n → (k : ℕ) (d : Candidate) → k + 1 ≡ at + 1 → Falls ((slice_index_or candidates k d).place + 1) v.visited
      by zero same some k d next = absurd (omega (arith, some))
      by (suc j) same some k d next =
          let last : j + 1 ≡ at = omega (arith, same) in
          let here : k ≡ at = omega (arith, next) in
          subst (λ place. Falls (place + 1) v.visited) (again.1 j d last ∙ ap (λ m. (slice_index_or candidates m d).place) (sym here)) (v.falls j d last)

  pub visited_on : (IsAgain candidates at → ⊥) → (after : ℕ) → after ≤ now + 23 → HasVisited candidates (at + 1) start after
  visited_on new after read = record {
    visited = c.place ∷ v.visited;
    first = λ none. absurd (omega (arith, none));
    falls = λ k d next.
        let here : k ≡ at = omega (arith, next) in
        let place : (slice_index_or candidates k d).place ≡ c.place = ap (λ m. (slice_index_or candidates m d).place) here ∙ ap (λ (e : Candidate). e.place) (is d) in
        (omega (arith, place), below at refl);
    each = λ n has. elim (contained c.place v.visited n has) [
      | inl same ↦ subst (Contains (map (λ (e : Candidate). e.place) candidates)) same (map_contains (λ (e : Candidate). e.place) candidates c (at, within, is c))
      | inr earlier ↦ v.each n earlier
    ];
    read = let before = v.read in omega (arith, before, read);
  }
    where
      below : (n : ℕ) → n ≡ at → Falls c.place v.visited
      below zero same = subst (Falls c.place) (sym (v.first (sym same))) tt
      below (suc j) same =
          let last : j + 1 ≡ at = omega (arith, same) in
          let b = slice_index_or candidates j c in
          elim (behind candidates order at within c is j c last) [
            | inl less ↦ falls_higher (b.place + 1) c.place v.visited (omega (arith, less)) (v.falls j c last)
            | inr tied ↦ absurd (new (
              omega (arith, last),
              λ k d next.
                  let here : k ≡ j = omega (arith, last, next) in
                  let inside : k < length candidates = omega (arith, next, within) in
                  ap (λ (e : Candidate). e.place) (reads_same candidates k d c inside ∙ ap (λ m. slice_index_or candidates m c) here) ∙ tied.0 ∙ ap (λ (e : Candidate). e.place) (sym (is d)),
            ))
          ]

-- one after another
pub visited_next : (candidates : List Candidate) → AreInOrder candidates → (at start now after : ℕ) → at < length candidates → HasVisited candidates at start now → (IsAgain candidates at → after ≤ now) → after ≤ now + 23 → HasVisited candidates (at + 1) start after
visited_next candidates order at start now after within v again most =
    elim (told at refl) [
      | inl is ↦
          let same = again is in
          let before = visited_again candidates order at start now within here (read_is candidates at none within) v is in
          let read = before.read in
          record { visited = before.visited; first = before.first; falls = before.falls; each = before.each; read = omega (arith, read, same) }
      | inr new ↦ visited_on candidates order at start now within here (read_is candidates at none within) v new after most
    ]
  where
    none : Candidate
    none = record { place = 0; by_own = false }

    here : Candidate
    here = slice_index_or candidates at none

    told : (n : ℕ) → n ≡ at → IsAgain candidates at ⊎ (IsAgain candidates at → ⊥)
    told zero is = inr (λ again. let some = again.0 in omega (arith, is, some))
    told (suc j) is =
        let last : j + 1 ≡ at = omega (arith, is) in
        by_test ((slice_index_or candidates j none).place == here.place)
        (λ same. inl (
          omega (arith, last),
          λ k d next.
              let at_j : k ≡ j = omega (arith, last, next) in
              let inside : k < length candidates = omega (arith, next, within) in
              ap (λ (e : Candidate). e.place) (reads_same candidates k d none inside ∙ ap (λ m. slice_index_or candidates m none) at_j) ∙ (Decides-eqb (slice_index_or candidates j none).place here.place).0 same ∙ ap (λ (e : Candidate). e.place) (reads_same candidates at none d within),
        ))
        (λ other. inr (λ again. true≢false (sym ((Decides-eqb (slice_index_or candidates j none).place here.place).1 (again.1 j none last)) ∙ other)))

-- ---- the same ones in another order

pub led_moved : (gaz : Gazetteer) (asked : Asked) (old new : List Candidate) → IsPermutation old new → AreLedTo gaz asked old → AreLedTo gaz asked new
led_moved gaz asked old new moved led c has = led c (Contains-permutation new old c (IsPermutation-sym old new moved) has)

pub gathered_moved : (asked : Asked) (old new : List Candidate) (row : List ℕ) → IsPermutation old new → is_gathered asked old row ≡ true → is_gathered asked new row ≡ true
gathered_moved asked old new row moved gathered =
    let some = any_has (λ e. is_sought asked e row) old gathered in
    has_any (λ e. is_sought asked e row) new some.0 (Contains-permutation old new some.0 moved some.1) some.2

pub places_moved : (places : List ℕ) (old new : List Candidate) → IsPermutation old new → HavePlaces places old → HavePlaces places new
places_moved places old new moved have c has = have c (Contains-permutation new old c (IsPermutation-sym old new moved) has)

-- one of those that were led to is
pub taken_led : (gaz : Gazetteer) (asked : Asked) (candidates : List Candidate) (at : ℕ) (c : Candidate) → at < length candidates → AreLedTo gaz asked candidates → IsLedTo gaz asked (slice_index_or candidates at c)
taken_led gaz asked candidates at c within led = led (slice_index_or candidates at c) (at, within, read_is candidates at c within (slice_index_or candidates at c))
