-- A key between two others that begin alike begins as they do.
use Rattle.std.proofs.Common.{◌≡◌, ◌<◌, ◌≤◌, ◌+◌, ◌*◌, ◌^◌, ℕ, zero, suc, List, [], ◌∷◌, ◌++◌, length, take, drop, refl, sym, ◌∙◌, ap, ap₂, arith, subst, inl, inr}
use Rattle.std.specs.Prelude.{slice_index}
use Rattle.std.specs.Int.{w64, from_be_bytes}
use Rattle.std.proofs.lemmas.Bool.{cases_lt}
use Rattle.std.proofs.lemmas.List.{length-take, length-drop, take_all, take-append-drop, append_assoc}
use Rattle.gaz_leaf.specs.Node.{key_of, joined, word_at}
use Rattle.gaz_keys.specs.Keys.{IsKey}
use Rattle.gaz_keys.proofs.Fit.{AreBytes}

drop_nothing : (n : ℕ) → drop {A = ℕ} n [] ≡ []
drop_nothing zero = refl
drop_nothing (suc n) = refl

drop_more : (n m : ℕ) (xs : List ℕ) → drop m (drop n xs) ≡ drop (n + m) xs
drop_more zero m xs = let is : m ≡ 0 + m = omega arith in ap (λ k. drop k xs) is
drop_more (suc n) m [] = drop_nothing m ∙ sym (drop_nothing (suc n + m))
drop_more (suc n) m (x ∷ xs) = let is : suc (n + m) ≡ suc n + m = omega arith in drop_more n m xs ∙ ap (λ k. drop k (x ∷ xs)) is

module _ (key : List ℕ) (size : length key ≡ 32) where
  -- the words one after another
  piece : (at : ℕ) → take 8 (drop at key) ++ drop (at + 8) key ≡ drop at key
  piece at = ap (λ rest. take 8 (drop at key) ++ rest) (sym (drop_more at 8 key)) ∙ take-append-drop 8 (drop at key)

  pub pieces : ((take 8 (drop 0 key) ++ take 8 (drop 8 key)) ++ take 8 (drop 16 key)) ++ take 8 (drop 24 key) ≡ key
  pieces =
      ap (λ last. ((take 8 (drop 0 key) ++ take 8 (drop 8 key)) ++ take 8 (drop 16 key)) ++ last) (take_all 8 (drop 24 key) (omega (arith, size, length-drop 24 key)))
      ∙ append_assoc (take 8 (drop 0 key) ++ take 8 (drop 8 key)) (take 8 (drop 16 key)) (drop 24 key)
      ∙ ap (λ rest. (take 8 (drop 0 key) ++ take 8 (drop 8 key)) ++ rest) (piece 16)
      ∙ append_assoc (take 8 (drop 0 key)) (take 8 (drop 8 key)) (drop 16 key)
      ∙ ap (λ rest. take 8 (drop 0 key) ++ rest) (piece 8)
      ∙ piece 0

-- the number of some bytes, behind that of what came before
abbrev number : ℕ → List ℕ → ℕ
number before [] = before
number before (x ∷ xs) = number (before * 256 + x) xs

number_append : (before : ℕ) (xs ys : List ℕ) → number before (xs ++ ys) ≡ number (number before xs) ys
number_append before [] ys = refl
number_append before (x ∷ xs) ys = number_append (before * 256 + x) xs ys

eight : (before : ℕ) (xs : List ℕ) → length xs ≡ 8 → number before xs ≡ before * 2 ^ 64 + from_be_bytes w64 xs
eight before [] is = absurd (omega (arith, is))
eight before (a ∷ []) is = absurd (omega (arith, is))
eight before (a ∷ b ∷ []) is = absurd (omega (arith, is))
eight before (a ∷ b ∷ c ∷ []) is = absurd (omega (arith, is))
eight before (a ∷ b ∷ c ∷ d ∷ []) is = absurd (omega (arith, is))
eight before (a ∷ b ∷ c ∷ d ∷ e ∷ []) is = absurd (omega (arith, is))
eight before (a ∷ b ∷ c ∷ d ∷ e ∷ f ∷ []) is = absurd (omega (arith, is))
eight before (a ∷ b ∷ c ∷ d ∷ e ∷ f ∷ g ∷ []) is = absurd (omega (arith, is))
eight before (a ∷ b ∷ c ∷ d ∷ e ∷ f ∷ g ∷ h ∷ []) is = omega arith
eight before (a ∷ b ∷ c ∷ d ∷ e ∷ f ∷ g ∷ h ∷ i ∷ rest) is = absurd (omega (arith, is))

words_joined : (a b c d : ℕ) → (((0 * 2 ^ 64 + a) * 2 ^ 64 + b) * 2 ^ 64 + c) * 2 ^ 64 + d ≡ joined a b c d
words_joined a b c d = omega arith

key_number : (key : List ℕ) → length key ≡ 32 → number 0 key ≡ key_of key
unfolding key_of
key_number key size =
    ap (number 0) (sym (pieces key size))
    ∙ number_append 0 ((word 0 ++ word 8) ++ word 16) (word 24)
    ∙ ap (λ n. number n (word 24))
    (number_append 0 (word 0 ++ word 8) (word 16)
    ∙ ap (λ n. number n (word 16))
    (number_append 0 (word 0) (word 8)
    ∙ ap (λ n. number n (word 8)) (eight 0 (word 0) (long 0 (omega arith)))
    ∙ eight (0 * 2 ^ 64 + word_at 0 key) (word 8) (long 8 (omega arith)))
    ∙ eight ((0 * 2 ^ 64 + word_at 0 key) * 2 ^ 64 + word_at 8 key) (word 16) (long 16 (omega arith)))
    ∙ eight (((0 * 2 ^ 64 + word_at 0 key) * 2 ^ 64 + word_at 8 key) * 2 ^ 64 + word_at 16 key) (word 24) (long 24 (omega arith))
    ∙ words_joined (word_at 0 key) (word_at 8 key) (word_at 16 key) (word_at 24 key)
  where
    word : ℕ → List ℕ
    word at = take 8 (drop at key)

    long : (at : ℕ) → at + 8 ≤ 32 → length (word at) ≡ 8
    long at within = omega (arith, within, size, length-take 8 (drop at key), length-drop at key)

-- what began with less stays less
less_stays : (a b : List ℕ) (p q : ℕ) → length a ≡ length b → AreBytes a → p < q → number p a < number q b
less_stays [] [] p q same fits less = less
less_stays [] (y ∷ ys) p q same fits less = absurd (omega (arith, same))
less_stays (x ∷ xs) [] p q same fits less = absurd (omega (arith, same))
less_stays (x ∷ xs) (y ∷ ys) p q same fits less =
    less_stays xs ys (p * 256 + x) (q * 256 + y) (omega (arith, same)) (λ k d within. fits (suc k) d (omega (arith, within)))
    (let first = fits 0 0 (omega arith) in omega (arith, first, less))

squeezed : (n : ℕ) (a b c : List ℕ) (p : ℕ) → length a ≡ length b → length b ≡ length c → AreBytes b → AreBytes c
    → number p a ≤ number p b → number p b ≤ number p c → take n a ≡ take n c → take n b ≡ take n a
squeezed zero a b c p ab bc b_fits c_fits low high same = refl
squeezed (suc n) [] [] c p ab bc b_fits c_fits low high same = refl
squeezed (suc n) [] (y ∷ ys) c p ab bc b_fits c_fits low high same = absurd (omega (arith, ab))
squeezed (suc n) (x ∷ xs) [] c p ab bc b_fits c_fits low high same = absurd (omega (arith, ab))
squeezed (suc n) (x ∷ xs) (y ∷ ys) [] p ab bc b_fits c_fits low high same = absurd (omega (arith, bc))
squeezed (suc n) (x ∷ xs) (y ∷ ys) (z ∷ zs) p ab bc b_fits c_fits low high same =
    elim (cases_lt z y) [
      | inl above ↦ absurd (let over = less_stays zs ys (p * 256 + z) (p * 256 + y) (omega (arith, bc)) zs_fit (omega (arith, above)) in omega (arith, over, high))
      | inr at_most ↦ elim (cases_lt y x) [
        | inl below ↦ absurd (let under = less_stays ys xs (p * 256 + y) (p * 256 + x) (omega (arith, ab)) ys_fit (omega (arith, below)) in omega (arith, under, low))
        | inr at_least ↦ (
            let is : y ≡ x = omega (arith, at_most, at_least, heads) in
            ap₂ (λ e es. e ∷ es) is
            (squeezed n xs ys zs (p * 256 + x) (omega (arith, ab)) (omega (arith, bc)) ys_fit zs_fit
            (subst (λ e. number (p * 256 + x) xs ≤ number (p * 256 + e) ys) is low)
            (subst (λ e. number (p * 256 + x) ys ≤ number (p * 256 + e) zs) (sym heads) (subst (λ e. number (p * 256 + e) ys ≤ number (p * 256 + z) zs) is high))
            (ap (drop 1) same)))
      ]
    ]
  where
    heads : x ≡ z
    heads = ap (λ e. slice_index e 0) same

    ys_fit : AreBytes ys
    ys_fit k d within = b_fits (suc k) d (omega (arith, within))

    zs_fit : AreBytes zs
    zs_fit k d within = c_fits (suc k) d (omega (arith, within))

pub begins_as : (n : ℕ) (low key high : List ℕ) → IsKey low → IsKey key → IsKey high → key_of low ≤ key_of key → key_of key ≤ key_of high → take n low ≡ take n high → take n key ≡ take n low
begins_as n low key high low_is key_is high_is from to same =
    let l = key_number low low_is.size in
    let k = key_number key key_is.size in
    let h = key_number high high_is.size in
    squeezed n low key high 0 (low_is.size ∙ sym key_is.size) (key_is.size ∙ sym high_is.size) key_is.bytes high_is.bytes (omega (arith, l, k, from)) (omega (arith, k, h, to)) same
