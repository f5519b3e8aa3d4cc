-- Tables after a step: what is found in them, and that they are tables.
use Rattle.std.proofs.Common.{◌≡◌, ◌≢◌, ℕ, ◌-◌, ◌≤◌, Bool, true, List, [], ◌∷◌, ◌++◌, length, filter, Option, Some, None, refl, ap, inl, inr, ◌∙◌, arith}
use Rattle.std.specs.List.{All, AllPairs, find}
use Rattle.std.specs.Option.{option_or}
use Rattle.std.specs.Ordering.{is_lt, is_gt, is_eq, ordering_reverse}
use Rattle.std.specs.declared.cmp.Ordering.{Ordering}
use Rattle.std.specs.declared.cmp.Ordering.TheVariants.{Less, Equal, Greater}
use Rattle.std.proofs.lemmas.Bool.{cases_lt}
use Rattle.std.proofs.lemmas.Cmp.{nat_list_cmp_total}
use Rattle.std.proofs.lemmas.List.{get_or_append_left, get_or-append_right, length-append}
use Rattle.std.proofs.lemmas.List.Elements.{All-append, All-filter, All-weaker, filter_passes}
use Rattle.std.proofs.lemmas.List.Folds.{find-append}
use Rattle.std.proofs.lemmas.List.Kept.{AllPairs-filter}
use Rattle.gaz_num.specs.declared.words.Table.{Table}
use Rattle.gaz_plain.specs.Gazetteer.{key_of, key_cmp, kind_in, limit_of, IsLine, IsTable, KeysRise, replaced}
use Rattle.gaz_plain.proofs.KeyOrder.{same_key, key_ties, find-filter, find-filter_none}

less_from_test : (r : Ordering) → is_lt r ≡ true → r ≡ Less
less_from_test Less e = refl
less_from_test Equal e = cc
less_from_test Greater e = cc

greater_from_test : (r : Ordering) → is_gt r ≡ true → r ≡ Greater
greater_from_test Less e = cc
greater_from_test Equal e = cc
greater_from_test Greater e = refl

-- nothing behind a list changes what is found there
found_first : {X : Type 0} (a : Option X) → option_or (option_or a None) None ≡ a
found_first None = refl
found_first (Some x) = refl

found_last : {X : Type 0} (a b : Option X) → a ≡ None → b ≡ None → (c : Option X) → option_or (option_or a b) c ≡ c
found_last a b ea eb c = rw (ea, eb) refl

-- pairs of two lists, one behind the other
pub AllPairs-append : {X : Type 0} (R : X → X → Type 0) (xs ys : List X) → AllPairs R xs → AllPairs R ys → All (λ x. All (R x) ys) xs → AllPairs R (xs ++ ys)
AllPairs-append R xs ys left right across i j d lt within =
    elim (cases_lt j (length xs)) [
      | inl low ↦ rw (get_or_append_left xs ys d j low, get_or_append_left xs ys d i (omega arith)) (left i j d lt low)
      | inr high ↦ rw (get_or-append_right xs ys (length xs) j d refl high) (elim (cases_lt i (length xs)) [
        | inl low ↦ rw (get_or_append_left xs ys d i low) (across i d low (j - length xs) d (omega (arith, length-append xs ys)))
        | inr also ↦ rw (get_or-append_right xs ys (length xs) i d refl also) (right (i - length xs) (j - length xs) d (omega arith) (omega (arith, length-append xs ys)))
      ])
    ]

module _ (table : Table) (key : List ℕ) where
  -- a line has the key
  abbrev has_key : List ℕ → List ℕ → Bool
  has_key wanted line = is_eq (key_cmp (key_of table line) wanted)

  lesser : List ℕ → Bool
  lesser line = is_lt (key_cmp (key_of table line) key)

  -- how the key of a line that has the wanted key compares
  compares : (wanted line : List ℕ) (test : Ordering → Bool) → has_key wanted line ≡ true → test (key_cmp (key_of table line) key) ≡ test (key_cmp wanted key)
  compares wanted line test has = ap (λ k. test (key_cmp k key)) (same_key (key_of table line) wanted has)

  module _ (put lines : List (List ℕ)) where
    found_in_parts : (p : List ℕ → Bool) → find p (replaced table key put lines) ≡ option_or (option_or (find p (filter (λ line. is_lt (key_cmp (key_of table line) key)) lines)) (find p put)) (find p (filter (λ line. is_gt (key_cmp (key_of table line) key)) lines))
    found_in_parts p = rw (find-append p, find-append p) refl

    -- at the key stands what was put there
    pub find-replaced : find (has_key key) (replaced table key put lines) ≡ find (has_key key) put
    find-replaced =
        let a = find-filter_none (has_key key) (λ line. is_lt (key_cmp (key_of table line) key)) (λ line has. compares key line is_lt has ∙ ap is_lt (key_ties key)) lines in
        let b = find-filter_none (has_key key) (λ line. is_gt (key_cmp (key_of table line) key)) (λ line has. compares key line is_gt has ∙ ap is_gt (key_ties key)) lines in
        found_in_parts (has_key key) ∙ rw (a, b) (only (find (has_key key) put))
      where
        only : (a : Option (List ℕ)) → option_or (option_or None a) None ≡ a
        only None = refl
        only (Some x) = refl

    -- at another key stands what stood there
    pub find-replaced_other : (wanted : List ℕ) → wanted ≢ key → find (has_key wanted) put ≡ None → find (has_key wanted) (replaced table key put lines) ≡ find (has_key wanted) lines
    find-replaced_other wanted differs unput = found_in_parts (has_key wanted) ∙ rw unput (by (key_cmp wanted key) refl)
      where
        by : (r : Ordering) → key_cmp wanted key ≡ r → option_or (option_or (find (has_key wanted) (filter (λ line. is_lt (key_cmp (key_of table line) key)) lines)) None) (find (has_key wanted) (filter (λ line. is_gt (key_cmp (key_of table line) key)) lines)) ≡ find (has_key wanted) lines
        by Less is =
            let a = find-filter (has_key wanted) (λ line. is_lt (key_cmp (key_of table line) key)) (λ line has. compares wanted line is_lt has ∙ ap is_lt is) lines in
            let b = find-filter_none (has_key wanted) (λ line. is_gt (key_cmp (key_of table line) key)) (λ line has. compares wanted line is_gt has ∙ ap is_gt is) lines in
            rw (a, b) (found_first (find (has_key wanted) lines))
        by Equal is = absurd (differs (same_key wanted key (ap is_eq is)))
        by Greater is =
            let a = find-filter_none (has_key wanted) (λ line. is_lt (key_cmp (key_of table line) key)) (λ line has. compares wanted line is_lt has ∙ ap is_lt is) lines in
            let b = find-filter (has_key wanted) (λ line. is_gt (key_cmp (key_of table line) key)) (λ line has. compares wanted line is_gt has ∙ ap is_gt is) lines in
            rw (a, b) refl

    abbrev below : List (List ℕ)
    below = filter (λ line. is_lt (key_cmp (key_of table line) key)) lines

    abbrev above : List (List ℕ)
    above = filter (λ line. is_gt (key_cmp (key_of table line) key)) lines

    -- a line with a lesser key, with the key, with a greater key
    abbrev IsBelow : List ℕ → Type 0
    IsBelow line = key_cmp (key_of table line) key ≡ Less

    abbrev IsAt : List ℕ → Type 0
    IsAt line = key_of table line ≡ key

    abbrev IsAbove : List ℕ → Type 0
    IsAbove line = key_cmp key (key_of table line) ≡ Less

    all_below : All IsBelow below
    all_below =
        All-weaker (λ line. is_lt (key_cmp (key_of table line) key) ≡ true) IsBelow
        (λ line. less_from_test (key_cmp (key_of table line) key))
        below (filter_passes (λ line. is_lt (key_cmp (key_of table line) key)) lines)

    all_above : All IsAbove above
    all_above =
        All-weaker (λ line. is_gt (key_cmp (key_of table line) key) ≡ true) IsAbove
        (λ line passes. nat_list_cmp_total.antisymm key (key_of table line)
        ∙ ap ordering_reverse (greater_from_test (key_cmp (key_of table line) key) passes))
        above (filter_passes (λ line. is_gt (key_cmp (key_of table line) key)) lines)

    -- lines of which each comes before each of others
    abbrev ComeBefore : List (List ℕ) → List (List ℕ) → Type 0
    ComeBefore first others = All (λ line. All (KeysRise table line) others) first

    -- each of P comes before each of Q
    across : (P Q : List ℕ → Type 0) → ((line other : List ℕ) → P line → Q other → KeysRise table line other) → (first others : List (List ℕ)) → All P first → All Q others → ComeBefore first others
    across P Q rise first others left right =
        All-weaker P (λ line. All (KeysRise table line) others)
        (λ line is. All-weaker Q (KeysRise table line) (λ other. rise line other is) others right)
        first left

    -- lines stay in order where lines with the key are put in place of the one that has it
    pub rising-replaced : AllPairs (KeysRise table) lines → All (λ line. key_of table line ≡ key) put → AllPairs (KeysRise table) put → AllPairs (KeysRise table) (replaced table key put lines)
    rising-replaced rising at_key put_rises =
        let R = KeysRise table in
        let below_put = across IsBelow IsAt (λ line other less at. ap (key_cmp (key_of table line)) at ∙ less) below put all_below at_key in
        let below_above = across IsBelow IsAbove (λ line other. nat_list_cmp_total.trans (key_of table line) key (key_of table other)) below above all_below all_above in
        let put_above = across IsAt IsAbove (λ line other at more. ap (λ k. key_cmp k (key_of table other)) at ∙ more) put above at_key all_above in
        let front = AllPairs-append R below put (AllPairs-filter R (λ line. is_lt (key_cmp (key_of table line) key)) lines rising) put_rises below_put in
        let back = AllPairs-filter R (λ line. is_gt (key_cmp (key_of table line) key)) lines rising in
        AllPairs-append R (below ++ put) above front back (All-append (λ line. All (R line) above) below put below_above put_above)

    -- and a table stays one
    pub IsTable-replaced : IsTable table lines → All (IsLine (kind_in table)) put → All (λ line. key_of table line ≡ key) put → AllPairs (KeysRise table) put → length (replaced table key put lines) ≤ limit_of table → IsTable table (replaced table key put lines)
    IsTable-replaced is lines_put at_key put_rises within =
        let P = IsLine (kind_in table) in
        let front = All-append P below put (All-filter (λ line. is_lt (key_cmp (key_of table line) key)) P lines is.each) lines_put in
        let back = All-filter (λ line. is_gt (key_cmp (key_of table line) key)) P lines is.each in
        record {
          each = All-append P (below ++ put) above front back;
          rising = rising-replaced is.rising at_key put_rises;
          within = within;
        }

-- one line alone is in order, and so are none
pub rising_one : (table : Table) (line : List ℕ) → AllPairs (KeysRise table) (line ∷ [])
rising_one table line i j d less within = absurd (omega arith)

pub rising_none : (table : Table) → AllPairs (KeysRise table) []
rising_none table i j d less within = absurd (omega arith)
