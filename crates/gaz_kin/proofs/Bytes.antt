-- Keys whose bytes are at most those of others are at most those, and the first bytes of a text against those of a longer one.
use Rattle.std.proofs.Common.{◌≡◌, ◌<◌, ◌≤◌, ◌+◌, ◌-◌, ◌^◌, min, ℕ, zero, suc, List, [], ◌∷◌, ◌++◌, length, take, drop, replicate, refl, sym, ◌∙◌, ap, arith, subst}
use Rattle.std.specs.Prelude.{slice_index}
use Rattle.std.proofs.lemmas.List.{length-replicate, length-append, length-take}
use Rattle.std.proofs.lemmas.List.Elements.{All-take}
use Rattle.std.specs.Int.{w32, to_be_bytes}
use Rattle.gaz_name.specs.Name.{first_bytes}
use Rattle.gaz_leaf.specs.Node.{key_of, word_at}
use Rattle.gaz_keys.proofs.Fit.{AreBytes, append_fits, zeros_fit, number_fits}
use Rattle.gaz_kin.proofs.Numbers.{byte_in}

-- One by one the numbers of the first list are at most those of the second.
abbrev pub AtMost : List ℕ → List ℕ → Type 0
AtMost [] [] = Unit {0}
AtMost [] (y ∷ ys) = ⊥
AtMost (x ∷ xs) [] = ⊥
AtMost (x ∷ xs) (y ∷ ys) = (x ≤ y) × AtMost xs ys

pub at_each : (xs ys : List ℕ) → AtMost xs ys → (i : ℕ) → slice_index xs i ≤ slice_index ys i
at_each [] [] le i = omega arith
at_each [] (y ∷ ys) le i = absurd le
at_each (x ∷ xs) [] le i = absurd le
at_each (x ∷ xs) (y ∷ ys) le zero = le.0
at_each (x ∷ xs) (y ∷ ys) le (suc i) = at_each xs ys le.1 i

word_most : (a b : List ℕ) → ((i : ℕ) → slice_index a i ≤ slice_index b i) → (at : ℕ) → word_at at a ≤ word_at at b
word_most a b le at =
    let a0 = byte_in a at 0 (omega arith) in let b0 = byte_in b at 0 (omega arith) in let l0 = le (at + 0) in
    let a1 = byte_in a at 1 (omega arith) in let b1 = byte_in b at 1 (omega arith) in let l1 = le (at + 1) in
    let a2 = byte_in a at 2 (omega arith) in let b2 = byte_in b at 2 (omega arith) in let l2 = le (at + 2) in
    let a3 = byte_in a at 3 (omega arith) in let b3 = byte_in b at 3 (omega arith) in let l3 = le (at + 3) in
    let a4 = byte_in a at 4 (omega arith) in let b4 = byte_in b at 4 (omega arith) in let l4 = le (at + 4) in
    let a5 = byte_in a at 5 (omega arith) in let b5 = byte_in b at 5 (omega arith) in let l5 = le (at + 5) in
    let a6 = byte_in a at 6 (omega arith) in let b6 = byte_in b at 6 (omega arith) in let l6 = le (at + 6) in
    let a7 = byte_in a at 7 (omega arith) in let b7 = byte_in b at 7 (omega arith) in let l7 = le (at + 7) in
    omega (arith, a0, b0, l0, a1, b1, l1, a2, b2, l2, a3, b3, l3, a4, b4, l4, a5, b5, l5, a6, b6, l6, a7, b7, l7)

-- so as numbers
pub key_most : (a b : List ℕ) → AtMost a b → key_of a ≤ key_of b
unfolding key_of
key_most a b le =
    let w0 = word_most a b (at_each a b le) 0 in
    let w1 = word_most a b (at_each a b le) 8 in
    let w2 = word_most a b (at_each a b le) 16 in
    let w3 = word_most a b (at_each a b le) 24 in
    omega (arith, w0, w1, w2, w3)

pub most_append : (xs ys us ws : List ℕ) → AtMost xs ys → AtMost us ws → AtMost (xs ++ us) (ys ++ ws)
most_append [] [] us ws le more = more
most_append [] (y ∷ ys) us ws le more = absurd le
most_append (x ∷ xs) [] us ws le more = absurd le
most_append (x ∷ xs) (y ∷ ys) us ws le more = (le.0, most_append xs ys us ws le.1 more)

pub zeros_most : (n : ℕ) (ys : List ℕ) → length ys ≡ n → AtMost (replicate n 0) ys
zeros_most zero [] is = tt
zeros_most zero (y ∷ ys) is = absurd (omega (arith, is))
zeros_most (suc n) [] is = absurd (omega (arith, is))
zeros_most (suc n) (y ∷ ys) is = (omega arith, zeros_most n ys (omega (arith, is)))

pub bytes_most : (n : ℕ) (xs : List ℕ) → length xs ≡ n → AreBytes xs → AtMost xs (replicate n 255)
bytes_most zero [] is fits = tt
bytes_most zero (x ∷ xs) is fits = absurd (omega (arith, is))
bytes_most (suc n) [] is fits = absurd (omega (arith, is))
bytes_most (suc n) (x ∷ xs) is fits = (let below = fits 0 0 (omega arith) in omega (arith, below), bytes_most n xs (omega (arith, is)) (λ k d within. fits (suc k) d (omega (arith, within))))

-- numbers of four bytes are at least 0 and at most the greatest
pub four_least : (n : ℕ) → AtMost (to_be_bytes w32 0) (to_be_bytes w32 n)
four_least n = zeros_most 4 (to_be_bytes w32 n) refl

pub four_most : (n : ℕ) → AtMost (to_be_bytes w32 n) (to_be_bytes w32 (2 ^ 32 - 1))
four_most n = bytes_most 4 (to_be_bytes w32 n) refl (number_fits 4 n)

-- ---- the first bytes of a text

least_by : (n : ℕ) (text rest : List ℕ) (k m : ℕ) → k ≡ n - length text → m ≡ n - length (text ++ rest) → AtMost (take n text ++ replicate k 0) (take n (text ++ rest) ++ replicate m 0)
least_by zero text rest k m k_is m_is = zeros_most k (replicate m 0) (omega (arith, k_is, m_is, length-replicate {A = ℕ} m 0))
least_by (suc n) [] rest k m k_is m_is =
    zeros_most k (take (suc n) rest ++ replicate m 0) (omega (arith, k_is, m_is, length-append (take (suc n) rest) (replicate m 0), length-take (suc n) rest, length-replicate {A = ℕ} m 0))
least_by (suc n) (x ∷ xs) rest k m k_is m_is = (omega arith, least_by n xs rest k m (omega (arith, k_is)) (omega (arith, m_is)))

most_by : (n len : ℕ) (text rest : List ℕ) (k m j : ℕ) → m ≡ n - length (text ++ rest) → j ≡ n - len → len ≡ min (length text) n → AreBytes (text ++ rest)
    → AtMost (take n (text ++ rest) ++ replicate m 0) (take len (take n text ++ replicate k 0) ++ replicate j 255)
most_by n len [] rest k m j m_is j_is len_is fits =
    let none : len ≡ 0 = omega (arith, len_is) in
    subst (λ l. AtMost (take n rest ++ replicate m 0) (take l (take n [] ++ replicate k 0) ++ replicate j 255)) (sym none)
    (bytes_most j (take n rest ++ replicate m 0) (omega (arith, none, m_is, j_is, length-append (take n rest) (replicate m 0), length-take n rest, length-replicate {A = ℕ} m 0))
    (append_fits (take n rest) (replicate m 0) (All-take (λ byte. byte < 256) n rest fits) (zeros_fit m)))
most_by zero len (x ∷ xs) rest k m j m_is j_is len_is fits =
    let none : len ≡ 0 = omega (arith, len_is) in
    subst (λ l. AtMost (replicate m 0) (take l (replicate k 0) ++ replicate j 255)) (sym none) (zeros_most m (replicate j 255) (omega (arith, none, m_is, j_is, length-replicate {A = ℕ} j 255)))
most_by (suc n) zero (x ∷ xs) rest k m j m_is j_is len_is fits = absurd (omega (arith, len_is))
most_by (suc n) (suc len) (x ∷ xs) rest k m j m_is j_is len_is fits =
    (omega arith, most_by n len xs rest k m j (omega (arith, m_is)) (omega (arith, j_is)) (omega (arith, len_is)) (λ i d within. fits (suc i) d (omega (arith, within))))

-- of a longer text they are at least those, and at most those with 255 behind them
pub first_least : (n : ℕ) (text rest : List ℕ) → AtMost (first_bytes n text) (first_bytes n (text ++ rest))
first_least n text rest = least_by n text rest (n - length text) (n - length (text ++ rest)) refl refl

pub first_most : (n len : ℕ) (text rest : List ℕ) → len ≡ min (length text) n → AreBytes (text ++ rest) → AtMost (first_bytes n (text ++ rest)) (take len (first_bytes n text) ++ replicate (n - len) 255)
first_most n len text rest is fits = most_by n len text rest (n - length text) (n - length (text ++ rest)) (n - len) refl refl is fits

-- fewer of the same
pub drop_same : (n m : ℕ) → drop {A = ℕ} n (replicate m 255) ≡ replicate (m - n) 255
drop_same zero m = let is : m ≡ m - 0 = omega arith in ap (λ k. replicate {A = ℕ} k 255) is
drop_same (suc n) zero = let is : 0 ≡ 0 - suc n = omega arith in ap (λ k. replicate {A = ℕ} k 255) is
drop_same (suc n) (suc m) = let is : m - n ≡ suc m - suc n = omega arith in drop_same n m ∙ ap (λ k. replicate {A = ℕ} k 255) is
