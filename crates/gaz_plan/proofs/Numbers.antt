-- Keys as numbers and back, and what is read of keys of rows.
use Rattle.std.proofs.Common.{◌≡◌, ◌<◌, ◌≤◌, ◌+◌, ◌*◌, ◌/◌, ◌%◌, ◌^◌, ℕ, List, ◌++◌, length, take, drop, sym, ap, ap₂, subst, inl, inr, ◌∙◌, arith}
use Rattle.std.specs.Prelude.{slice_index}
use Rattle.std.proofs.lemmas.Bool.{cases_lt}
use Rattle.std.specs.Int.{w64, to_be_bytes}
use Rattle.std.proofs.lemmas.Nat.{from_be_bytes-to_be_bytes_4, be_bytes_8}
use Rattle.std.proofs.lemmas.List.{length-take, length-drop, get_or_past}
use Rattle.gaz_leaf.specs.Node.{key_of, joined, word_at}
use Rattle.gaz_keys.specs.Keys.{IsKey, place_key}
use Rattle.gaz_keys.specs.Parts.{four_at}
use Rattle.gaz_keys.proofs.KeysFit.{place_key_fits}
use Rattle.gaz_rows.proofs.RoomPairs.{bytes_of}
use Rattle.gaz_kin.proofs.Numbers.{byte_in}
use Rattle.gaz_kin.proofs.Squeezed.{pieces}
use Rattle.gaz_plan.specs.Ways.{number_at}

-- ---- the bytes of a key's number are the key

four_words : (a b c d : ℕ) → a < 2 ^ 64 → b < 2 ^ 64 → c < 2 ^ 64 → d < 2 ^ 64
    → (joined a b c d / 2 ^ 192 % 2 ^ 64 ≡ a) × (joined a b c d / 2 ^ 128 % 2 ^ 64 ≡ b) × (joined a b c d / 2 ^ 64 % 2 ^ 64 ≡ c) × (joined a b c d % 2 ^ 64 ≡ d)
four_words a b c d a_small b_small c_small d_small = (
  omega (arith, a_small, b_small, c_small, d_small),
  omega (arith, a_small, b_small, c_small, d_small),
  omega (arith, a_small, b_small, c_small, d_small),
  omega (arith, a_small, b_small, c_small, d_small),
)

module _ (key : List ℕ) (size : length key ≡ 32) (fits : (i : ℕ) → slice_index key i < 256) where
  byte : (at i : ℕ) → i < 8 → slice_index (take 8 (drop at key)) i ≡ slice_index key (at + i)
  byte at i small = byte_in key at i small

  word_small : (at : ℕ) → word_at at key < 2 ^ 64
  word_small at =
      let e0 = byte at 0 (omega arith) in let f0 = fits (at + 0) in
      let e1 = byte at 1 (omega arith) in let f1 = fits (at + 1) in
      let e2 = byte at 2 (omega arith) in let f2 = fits (at + 2) in
      let e3 = byte at 3 (omega arith) in let f3 = fits (at + 3) in
      let e4 = byte at 4 (omega arith) in let f4 = fits (at + 4) in
      let e5 = byte at 5 (omega arith) in let f5 = fits (at + 5) in
      let e6 = byte at 6 (omega arith) in let f6 = fits (at + 6) in
      let e7 = byte at 7 (omega arith) in let f7 = fits (at + 7) in
      omega (arith, e0, e1, e2, e3, e4, e5, e6, e7, f0, f1, f2, f3, f4, f5, f6, f7)

  -- the bytes of a word
  word_back : (at : ℕ) → at + 8 ≤ 32 → (n : ℕ) → n ≡ word_at at key → to_be_bytes w64 n ≡ take 8 (drop at key)
  word_back at within n is =
      be_bytes_8 (take 8 (drop at key)) n (omega (arith, within, size, length-take 8 (drop at key), length-drop at key)) all_fit is
    where
      all_fit : (i : ℕ) → slice_index (take 8 (drop at key)) i < 256
      all_fit i = elim (cases_lt i 8) [
        | inl small ↦ subst (λ b. b < 256) (sym (byte at i small)) (fits (at + i))
        | inr most ↦ subst (λ b. b < 256) (sym (get_or_past (take 8 (drop at key)) i 0 (omega (arith, most, length-take 8 (drop at key))))) (omega arith)
      ]

  pub number_bytes : bytes_of (key_of key) ≡ key
  unfolding key_of
  number_bytes =
      let words = four_words (word_at 0 key) (word_at 8 key) (word_at 16 key) (word_at 24 key) (word_small 0) (word_small 8) (word_small 16) (word_small 24) in
      ap₂ (λ front last. front ++ last)
      (ap₂ (λ front next. front ++ next)
      (ap₂ (λ front next. front ++ next) (word_back 0 (omega arith) _ words.0) (word_back 8 (omega arith) _ words.1))
      (word_back 16 (omega arith) _ words.2))
      (word_back 24 (omega arith) _ words.3)
      ∙ pieces key size

pub key_bytes : (key : List ℕ) → IsKey key → bytes_of (key_of key) ≡ key
key_bytes key is = number_bytes key is.size each
  where
    each : (i : ℕ) → slice_index key i < 256
    each i = elim (cases_lt i (length key)) [
      | inl small ↦ is.bytes i 0 small
      | inr most ↦ subst (λ b. b < 256) (sym (get_or_past key i 0 most)) (omega arith)
    ]

-- ---- rows

pub place_number : (id : ℕ) → id < 2 ^ 32 → key_of (place_key id) ≡ 1 * 2 ^ 248 + id * 2 ^ 216
unfolding key_of place_key
place_number id small = omega (arith, small)

place_read : (id : ℕ) → id < 2 ^ 32 → four_at 1 (place_key id) ≡ id
unfolding place_key
place_read id small = from_be_bytes-to_be_bytes_4 id small

pub place_first : (key : List ℕ) (id : ℕ) → id < 2 ^ 32 → key ≡ place_key id → four_at 1 key ≡ id
place_first key id small is = ap (four_at 1) is ∙ place_read id small

pub row_id : (id : ℕ) → id < 2 ^ 32 → number_at 1 (key_of (place_key id)) ≡ id
row_id id small = place_first (bytes_of (key_of (place_key id))) id small (key_bytes (place_key id) (place_key_fits id))
