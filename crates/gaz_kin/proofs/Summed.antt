-- How many rows the countries that name a place have, added up over pairs, and how much is read of them.
use Rattle.std.proofs.Common.{◌≡◌, ◌≤◌, ◌+◌, ◌*◌, ◌^◌, ℕ, suc, Bool, true, false, true≢false, List, [], ◌∷◌, filter, refl, sym, ap, arith, inl, inr, eq-eqb}
use Rattle.std.specs.Prelude.{Contains, ◌==◌, ◌&&◌}
use Rattle.std.specs.List.{list_any, sum_by}
use Rattle.std.proofs.Math.Nat.{mul-le-mul_right, mul-le-mul_left}
use Rattle.std.proofs.lemmas.Bool.{eqb-true, or_left, or_right, and_from}
use Rattle.std.proofs.lemmas.List.Sums.{sum_by-cons}
use Rattle.gaz_num.proofs.CalendarLemmas.{and_left, and_right}
use Rattle.gaz_pick.proofs.OrderLemmas.{by_test}
use Rattle.gaz_plain.specs.Gazetteer.{Gazetteer}
use Rattle.gaz_page.specs.declared.tree_root.Root.{Root}
use Rattle.gaz_page.specs.Pages.{PagesView}
use Rattle.gaz_leaf.specs.Node.{Pair}
use Rattle.gaz_tree.specs.Pairs.{Within}
use Rattle.gaz_keys.proofs.Tags.{contained, contained_none}
use Rattle.gaz_rows.specs.Store.{IsStore}
use Rattle.gaz_rows.proofs.Finding.{kept_in}
use Rattle.gaz_kin.specs.Reads.{names_place, rows_of_country, rows_named, rows_of_pair, rows_of_pairs, rows_of_first}
use Rattle.gaz_kin.proofs.Countries.{number_of, country_range}
use Rattle.gaz_kin.proofs.Indexed.{range_within}

module _ {X : Type 0} (f : X → ℕ) where
  -- two tests of which none passes both, and a third that passes what either does
  sum_two : (p q r : X → Bool) → ((x : X) → p x ≡ true → q x ≡ false) → ((x : X) → p x ≡ true → r x ≡ true) → ((x : X) → q x ≡ true → r x ≡ true)
      → (xs : List X) → sum_by f (filter p xs) + sum_by f (filter q xs) ≤ sum_by f (filter r xs)
  sum_two p q r apart one two [] = omega arith
  sum_two p q r apart one two (x ∷ xs) =
      let rest = sum_two p q r apart one two xs in
      let more_p = sum_by-cons f x (filter p xs) in
      let more_q = sum_by-cons f x (filter q xs) in
      let more_r = sum_by-cons f x (filter r xs) in
      by_test (p x)
      (λ is_p. let not_q = apart x is_p in let is_r = one x is_p in rw (is_p, not_q, is_r) (omega (arith, rest, more_p, more_r)))
      (λ not_p. by_test (q x)
      (λ is_q. let is_r = two x is_q in rw (not_p, is_q, is_r) (omega (arith, rest, more_q, more_r)))
      (λ not_q. by_test (r x)
      (λ is_r. rw (not_p, not_q, is_r) (omega (arith, rest, more_r)))
      (λ not_r. rw (not_p, not_q, not_r) rest)))

  -- one of a list
  one_of : (xs : List X) (x : X) → Contains xs x → f x ≤ sum_by f xs
  one_of [] x has = absurd (contained_none x has)
  one_of (y ∷ ys) x has =
      let more = sum_by-cons f y ys in
      elim (contained y ys x has) [
        | inl same ↦ let is = ap f same in omega (arith, more, is)
        | inr later ↦ let rest = one_of ys x later in omega (arith, more, rest)
      ]

  module _ (key : X → ℕ) (named : X → Bool) where
    -- it has the key
    abbrev at : ℕ → X → Bool
    at k x = (k == key x) && named x

    -- its key is one of those of pairs
    abbrev has_one : List Pair → X → Bool
    has_one pairs x = list_any (λ pair. pair.key == key x) pairs

    abbrev among : List Pair → X → Bool
    among pairs x = named x && has_one pairs x

    no_lower : (low high : ℕ) (pairs : List Pair) → Within low high pairs → (x : X) → has_one pairs x ≡ true → low ≤ key x
    no_lower low high [] rising x some = absurd (true≢false (sym some))
    no_lower low high (p ∷ ps) rising x some =
        let from = rising.0 in
        by_test (p.key == key x)
        (λ is. let same = eqb-true p.key (key x) is in omega (arith, same, from))
        (λ isnt. let later = no_lower (suc p.key) high ps rising.1 x (rw isnt at some) in omega (arith, later, from))

    over_pairs : (low high : ℕ) (pairs : List Pair) → Within low high pairs → (xs : List X) → sum_by (λ pair. sum_by f (filter (at pair.key) xs)) pairs ≤ sum_by f (filter (among pairs) xs)
    over_pairs low high [] rising xs = omega arith
    over_pairs low high (p ∷ ps) rising xs =
        let rest = over_pairs (suc p.key) high ps rising.1 xs in
        let head = sum_by-cons (λ pair. sum_by f (filter (at pair.key) xs)) p ps in
        let both = sum_two (at p.key) (among ps) (among (p ∷ ps)) apart here there xs in
        omega (arith, rest, head, both)
      where
        apart : (x : X) → at p.key x ≡ true → among ps x ≡ false
        apart x is =
            let same = eqb-true p.key (key x) (and_left (p.key == key x) (named x) is) in
            by_test (among ps x)
            (λ later. let low = no_lower (suc p.key) high ps rising.1 x (and_right (named x) (has_one ps x) later) in absurd (omega (arith, same, low)))
            (λ isnt. isnt)

        here : (x : X) → at p.key x ≡ true → among (p ∷ ps) x ≡ true
        here x is = and_from (named x) (has_one (p ∷ ps) x) (and_right (p.key == key x) (named x) is) (or_left (p.key == key x) (has_one ps x) (and_left (p.key == key x) (named x) is))

        there : (x : X) → among ps x ≡ true → among (p ∷ ps) x ≡ true
        there x is = and_from (named x) (has_one (p ∷ ps) x) (and_left (named x) (has_one ps x) is) (or_right (p.key == key x) (has_one ps x) (and_right (named x) (has_one ps x) is))

    -- pairs whose keys rise: each counts once
    pub once_each : (low high : ℕ) (pairs : List Pair) → Within low high pairs → (xs : List X) → sum_by (λ pair. sum_by f (filter (at pair.key) xs)) pairs ≤ sum_by f (filter named xs)
    once_each low high pairs rising xs =
        let all = over_pairs low high pairs rising xs in
        let few = sum_two (among pairs) (λ x. false) named (λ x is. refl) (λ x is. and_left (named x) (has_one pairs x) is) (λ x is. absurd (true≢false (sym is))) xs in
        omega (arith, all, few)

    -- one that has the key
    pub that_one : (k : ℕ) (xs : List X) (x : X) → Contains xs x → k ≡ key x → named x ≡ true → f x ≤ sum_by f (filter (at k) xs)
    that_one k xs x has same is = one_of (filter (at k) xs) x (kept_in (at k) xs x has (and_from (k == key x) (named x) (eq-eqb k (key x) same) is))

module _ (gaz : Gazetteer) (id : ℕ) where
  -- the country of a pair
  pub of_pair : (pair : Pair) (line : List ℕ) → Contains gaz.countries line → pair.key ≡ number_of line → names_place id line ≡ true → rows_of_country gaz line ≤ rows_of_pair gaz id pair
  of_pair pair line there same is = that_one (rows_of_country gaz) number_of (names_place id) pair.key gaz.countries line there same is

  -- the first and the others
  pub first_and_others : (left : List Pair) (pair : Pair) (rest : List Pair) → left ≡ pair ∷ rest → rows_of_pairs gaz id left ≡ rows_of_first gaz id left + rows_of_pairs gaz id rest
  first_and_others left pair rest is = rw is (sum_by-cons (rows_of_pair gaz id) pair rest)

  pub first_at_most : (left : List Pair) → rows_of_first gaz id left ≤ rows_of_pairs gaz id left
  first_at_most [] = omega arith
  first_at_most (pair ∷ rest) = omega (arith, sum_by-cons (rows_of_pair gaz id) pair rest)

  -- those of all countries
  pub of_countries : (v : PagesView) (root : Root) (stands : IsStore gaz v root) → rows_of_pairs gaz id (country_range gaz v root stands) ≤ rows_named gaz id
  of_countries v root stands = once_each (rows_of_country gaz) number_of (names_place id) 0 (2 ^ 256) (country_range gaz v root stands) (range_within gaz v root stands _ _) gaz.countries

-- ---- how much was read

-- a country that names the place, whose rows were looked at
pub one_country_read : (height rows first sought old mid new : ℕ) → rows ≤ first → mid ≤ old + (2 * height + 17) → new ≤ mid + (64 * (rows * (sought + 4)) + 12) → new ≤ old + (64 * (first * (sought + 4)) + (2 * height + 29))
one_country_read height rows first sought old mid new fewer looked read =
    let le = mul-le-mul_right (sought + 4) fewer in
    omega (arith, looked, read, le)

-- So much was read of those that came, if those that are to come cost no more than the rest.
abbrev pub ReadSoFar : ℕ → ℕ → ℕ → ℕ → ℕ → ℕ → ℕ → Type 0
ReadSoFar each sought all left turns old now = now + 64 * (left * (sought + 4)) ≤ old + (64 * (all * (sought + 4)) + each * turns)

-- none came
pub read_first : (each sought all left old : ℕ) → left ≡ all → ReadSoFar each sought all left 0 old old
read_first each sought all left old same = rw same (omega arith)

-- one more
pub read_on : (each sought all left first rest turns old mid new : ℕ) → left ≡ first + rest → ReadSoFar each sought all left turns old mid → new ≤ mid + (64 * (first * (sought + 4)) + each) → ReadSoFar each sought all rest (turns + 1) old new
read_on each sought all left first rest turns old mid new parts before read =
    let whole = ap (λ n. n * (sought + 4)) parts in
    omega (arith, whole, before, read)

-- the last turn
pub read_last : (each sought all left first turns most old mid new : ℕ) → first ≤ left → turns + 1 ≤ most → ReadSoFar each sought all left turns old mid → new ≤ mid + (64 * (first * (sought + 4)) + each) → new ≤ old + (64 * (all * (sought + 4)) + each * most)
read_last each sought all left first turns most old mid new fewer within before read =
    let le = mul-le-mul_right (sought + 4) fewer in
    let more = mul-le-mul_left {m = turns + 1} {n = most} each within in
    omega (arith, before, read, le, more)

-- all turns
pub read_out : (each sought all left turns most old now : ℕ) → turns ≤ most → ReadSoFar each sought all left turns old now → now ≤ old + (64 * (all * (sought + 4)) + each * most)
read_out each sought all left turns most old now within before =
    let more = mul-le-mul_left {m = turns} {n = most} each within in
    omega (arith, before, more)

-- those of all countries of a gazetteer
pub read_named : (height scanned countries counted sought all named old new : ℕ) → scanned ≡ height → height ≤ 6 → counted ≡ countries → all ≤ named → new ≤ old + (64 * (all * (sought + 4)) + (2 * scanned + 29) * (counted + 1)) → new ≤ old + (64 * (named * (sought + 4)) + 41 * (countries + 1))
read_named height scanned countries counted sought all named old new same shallow count fewer read =
    let le = mul-le-mul_right (sought + 4) fewer in
    let each = mul-le-mul_right {m = 2 * scanned + 29} {n = 41} (counted + 1) (omega (arith, same, shallow)) in
    omega (arith, count, read, le, each)

-- the rows of all kinds
pub read_in_all : (links within named sought countries old one two three new : ℕ) → one ≤ old + 23 → two ≤ one + (64 * (links * (sought + 4)) + 12) → three ≤ two + (64 * (within * (sought + 4)) + 12)
    → new ≤ three + (64 * (named * (sought + 4)) + 41 * (countries + 1)) → new ≤ old + 64 * ((links + within + named) * (sought + 4) + countries + 4)
read_in_all links within named sought countries old one two three new a b c d = omega (arith, a, b, c, d)
