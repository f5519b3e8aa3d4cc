-- The pairs of a tree whose keys lie in a range, and the range of the keys of admin codes with equal first bytes.
use Rattle.std.proofs.Common.{◌≡◌, ◌<◌, ◌≤◌, ◌+◌, ◌^◌, ℕ, suc, Bool, true, false, List, [], ◌∷◌, ◌++◌, length, take, drop, replicate, refl, sym, ◌∙◌, ap, arith, subst, Some}
use Rattle.std.specs.Prelude.{All, Contains, nat_lt, ◌==◌, if◌then◌else◌}
use Rattle.std.specs.Int.{w32, w64, to_be_bytes, from_be_bytes}
use Rattle.std.proofs.lemmas.Bool.{eqb-true}
use Rattle.std.proofs.lemmas.Bool.Decides.{nat_tests}
use Rattle.std.proofs.lemmas.Nat.{from_be_bytes-to_be_bytes_4}
use Rattle.std.proofs.lemmas.List.{drop-append-le, take-append-le, length-append, length-replicate, length-drop}
use Rattle.std.proofs.Math.Seq.{drop-append_seam, take-append_seam}
use Rattle.std.proofs.lemmas.List.Elements.{All-cons}
use Rattle.gaz_leaf.specs.Node.{Pair, key_of, word_at}
use Rattle.gaz_tree.specs.Pairs.{Within, lookup}
use Rattle.gaz_tree.proofs.Lists.{lookup-same, lookup-other, Within-lower}
use Rattle.gaz_scan.specs.Ranges.{between}
use Rattle.gaz_keys.specs.Keys.{code_key}
use Rattle.gaz_keys.specs.Parts.{slot_of}
use Rattle.gaz_rows.proofs.Members.{head_is_in, tail_is_in}

-- each pair is found at its key
pub each_found : (low high : ℕ) (ps : List Pair) → Within low high ps → All (λ p. (low ≤ p.key) × (lookup p.key ps ≡ Some p.value)) ps
each_found low high [] within = λ k d below. absurd (omega (arith, below))
each_found low high (p ∷ ps) within =
    let start = within.0 in
    let rest = each_found (suc p.key) high ps within.1 in
    All-cons (λ q. (low ≤ q.key) × (lookup q.key (p ∷ ps) ≡ Some q.value)) p ps (start, lookup-same p.key p ps refl)
    (λ k d below.
    let later = (rest k d below).0 in
    (omega (arith, later, start), lookup-other _ p ps (λ same. absurd (omega (arith, later, same))) ∙ (rest k d below).1))

-- what holds of all pairs holds of those of the range, which have their keys in it
pub in_range : (P : Pair → Type 0) (low high : ℕ) (ps : List Pair) → All P ps → All (λ p. P p × (low ≤ p.key) × (p.key ≤ high)) (between low high ps)
in_range P low high [] all = λ k d below. absurd (omega (arith, below))
in_range P low high (p ∷ ps) all = by (nat_lt p.key low) refl (nat_lt high p.key) refl (in_range P low high ps (λ k d below. all (suc k) d (omega (arith, below))))
  where
    by : (less : Bool) → nat_lt p.key low ≡ less → (more : Bool) → nat_lt high p.key ≡ more → All (λ q. P q × (low ≤ q.key) × (q.key ≤ high)) (between low high ps)
        → All (λ q. P q × (low ≤ q.key) × (q.key ≤ high)) (between low high (p ∷ ps))
    by true is more also rest = rw is rest
    by false is true also rest = rw (is, also) rest
    by false is false also rest = rw (is, also) (All-cons (λ q. P q × (low ≤ q.key) × (q.key ≤ high)) p (between low high ps) (all 0 p (omega arith), grind (arith, nat_tests, is), grind (arith, nat_tests, also)) rest)

-- the keys of the range rise
pub range_rises : (low high from most : ℕ) (ps : List Pair) → Within from most ps → Within from most (between low high ps)
range_rises low high from most [] within = within
range_rises low high from most (p ∷ ps) within = by (nat_lt p.key low) (nat_lt high p.key) refl refl (range_rises low high (suc p.key) most ps within.1)
  where
    start : from ≤ p.key
    start = within.0

    by : (less more : Bool) → nat_lt p.key low ≡ less → nat_lt high p.key ≡ more → Within (suc p.key) most (between low high ps) → Within from most (between low high (p ∷ ps))
    by true more is also rest = rw is (Within-lower (suc p.key) from most (between low high ps) (omega (arith, start)) rest)
    by false true is also rest = rw (is, also) (Within-lower (suc p.key) from most (between low high ps) (omega (arith, start)) rest)
    by false false is also rest = rw (is, also) (start, rest)

-- what is found at a key of the range is in it
pub found_in_range : (low high key value : ℕ) (ps : List Pair) → lookup key ps ≡ Some value → low ≤ key → key ≤ high → Contains (between low high ps) (record { key = key; value = value })
found_in_range low high key value [] is start end = absurd (cc)
found_in_range low high key value (p ∷ ps) is start end = by (p.key == key) refl is (found_in_range low high key value ps)
  where
    one : Pair
    one = record { key = key; value = value }

    none_below : nat_lt key low ≡ false
    none_below = grind (arith, nat_tests, start)

    none_above : nat_lt high key ≡ false
    none_above = grind (arith, nat_tests, end)

    this : p.key ≡ key → p.value ≡ value → Contains (between low high (p ∷ ps)) one
    this k v = subst (λ q. Contains (between low high (q ∷ ps)) one) (sym (ap (λ x. record { key = x; value = p.value }) k ∙ ap (λ x. record { key = key; value = x }) v)) (rw (none_below, none_above) (head_is_in one (between low high ps)))

    behind : (less more : Bool) → nat_lt p.key low ≡ less → nat_lt high p.key ≡ more → Contains (between low high ps) one → Contains (between low high (p ∷ ps)) one
    behind true more e f rest = rw e rest
    behind false true e f rest = rw (e, f) rest
    behind false false e f rest = rw (e, f) (tail_is_in p (between low high ps) one rest)

    same_value : Some p.value ≡ Some value → p.value ≡ value
    same_value e = cc

    by : (b : Bool) → (p.key == key) ≡ b → (if b then Some p.value else lookup key ps) ≡ Some value → (lookup key ps ≡ Some value → low ≤ key → key ≤ high → Contains (between low high ps) one) → Contains (between low high (p ∷ ps)) one
    by true e found rest = this (eqb-true p.key key e) (same_value found)
    by false e found rest = behind (nat_lt p.key low) (nat_lt high p.key) refl refl (rest found start end)

-- ---- the key of an admin code: its slot is the last number in it

module _ (first : List ℕ) (size : length first ≡ 23) where
  abbrev front : List ℕ
  front = 6 ∷ first ++ replicate 4 0

  front_size : length front ≡ 28
  front_size = omega (arith, size, length-append first (replicate 4 0), length-replicate {A = ℕ} 4 0)

  -- the first words don't know the slot
  early : (at slot other : ℕ) → at + 8 ≤ 28 → word_at at (code_key first slot) ≡ word_at at (code_key first other)
  unfolding code_key
  early at slot other within = ap (from_be_bytes w64) (piece slot ∙ sym (piece other))
    where
      piece : (s : ℕ) → take 8 (drop at (front ++ to_be_bytes w32 s)) ≡ take 8 (drop at front)
      piece s =
          ap (take 8) (drop-append-le at front (to_be_bytes w32 s) (omega (arith, within, front_size)))
          ∙ take-append-le 8 (drop at front) (to_be_bytes w32 s) (omega (arith, within, front_size, length-drop at front))

  -- the last word is the slot
  late : (slot : ℕ) → slot < 2 ^ 32 → word_at 24 (code_key first slot) ≡ slot
  unfolding code_key
  late slot below = ap (λ xs. from_be_bytes w64 (take 8 xs)) end ∙ number
    where
      end : drop 24 (front ++ to_be_bytes w32 slot) ≡ replicate 4 0 ++ to_be_bytes w32 slot
      end = drop-append-le 24 front (to_be_bytes w32 slot) (omega (arith, front_size)) ∙ ap (λ xs. xs ++ to_be_bytes w32 slot) zeros
        where
          zeros : drop 24 front ≡ replicate 4 0
          zeros = ap (λ n. drop (suc n) front) (sym size) ∙ drop-append_seam first (replicate 4 0)

      number : from_be_bytes w64 (take 8 (replicate 4 0 ++ to_be_bytes w32 slot)) ≡ slot
      number = let back = from_be_bytes-to_be_bytes_4 slot below in omega (arith, back)

  pub slot_added : (slot : ℕ) → slot < 2 ^ 32 → key_of (code_key first slot) ≡ key_of (code_key first 0) + slot
  unfolding key_of
  slot_added slot below =
      let a = early 0 slot 0 (omega arith) in
      let b = early 8 slot 0 (omega arith) in
      let c = early 16 slot 0 (omega arith) in
      let d = late slot below in
      let none = late 0 (omega arith) in
      omega (arith, a, b, c, d, none)

  -- the text of the key
  pub first_read : (slot : ℕ) → take 23 (drop 1 (code_key first slot)) ≡ first
  unfolding code_key
  first_read slot = ap (λ n. take n ((first ++ replicate 4 0) ++ to_be_bytes w32 slot)) (sym size)
      ∙ take-append-le (length first) (first ++ replicate 4 0) (to_be_bytes w32 slot) (omega (arith, length-append first (replicate 4 0)))
      ∙ take-append_seam first (replicate 4 0)

  -- its slot
  pub slot_read : (slot : ℕ) → slot < 2 ^ 32 → slot_of (code_key first slot) ≡ slot
  unfolding code_key
  slot_read slot below = ap (λ xs. from_be_bytes w32 (take 4 xs)) end ∙ from_be_bytes-to_be_bytes_4 slot below
    where
      end : drop 28 (front ++ to_be_bytes w32 slot) ≡ to_be_bytes w32 slot
      end = ap (λ n. drop n (front ++ to_be_bytes w32 slot)) (sym front_size) ∙ drop-append_seam front (to_be_bytes w32 slot)
