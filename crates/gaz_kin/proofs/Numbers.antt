-- Keys as numbers: where the ids stand in them.
use Rattle.std.proofs.Common.{◌≡◌, ◌<◌, ◌≤◌, ◌+◌, ◌*◌, ◌/◌, ◌%◌, ◌^◌, ℕ, List, [], ◌∷◌, ◌++◌, length, take, drop, sym, ◌∙◌, ap, arith, subst}
use Rattle.std.specs.Prelude.{slice_index}
use Rattle.std.specs.Int.{w32, w64, to_be_bytes, from_be_bytes}
use Rattle.std.proofs.lemmas.Nat.{from_be_bytes-to_be_bytes_4}
use Rattle.std.proofs.lemmas.List.{drop-append-le, take-append-le, length-drop, get_or-take, get_or-drop}
use Rattle.std.proofs.Math.Seq.{drop-append_seam}
use Rattle.gaz_leaf.specs.Node.{key_of, joined, word_at}
use Rattle.gaz_keys.specs.Keys.{link_key, reverse_key}
use Rattle.gaz_keys.specs.Parts.{four_at}
use Rattle.gaz_rows.proofs.SlotKeys.{slot_key}

-- ---- links

-- the number of a link's key by its child, and by its parent
pub link_number : (child class parent : ℕ) → child < 2 ^ 32 → class < 256 → parent < 2 ^ 32 → key_of (link_key child class parent) ≡ 3 * 2 ^ 248 + child * 2 ^ 216 + class * 2 ^ 208 + parent * 2 ^ 176
unfolding key_of link_key
link_number child class parent c_small k_small p_small = omega (arith, c_small, k_small, p_small)

pub reverse_number : (parent class child : ℕ) → parent < 2 ^ 32 → class < 256 → child < 2 ^ 32 → key_of (reverse_key parent class child) ≡ 4 * 2 ^ 248 + parent * 2 ^ 216 + class * 2 ^ 208 + child * 2 ^ 176
unfolding key_of reverse_key
reverse_number parent class child p_small k_small c_small = omega (arith, p_small, k_small, c_small)

-- ---- ids at the end

-- four bytes before a number of four bytes
four_then : (xs : List ℕ) (n : ℕ) → length xs ≡ 4 → n < 2 ^ 32 → from_be_bytes w64 (take 8 (xs ++ to_be_bytes w32 n)) ≡ from_be_bytes w64 (take 8 (xs ++ to_be_bytes w32 0)) + n
four_then [] n four small = absurd (omega (arith, four))
four_then (a ∷ []) n four small = absurd (omega (arith, four))
four_then (a ∷ b ∷ []) n four small = absurd (omega (arith, four))
four_then (a ∷ b ∷ c ∷ []) n four small = absurd (omega (arith, four))
four_then (a ∷ b ∷ c ∷ d ∷ []) n four small = omega (arith, small)
four_then (a ∷ b ∷ c ∷ d ∷ e ∷ rest) n four small = absurd (omega (arith, four))

module _ (front : List ℕ) (size : length front ≡ 28) where
  -- the first words don't know the number behind
  early : (at n m : ℕ) → at + 8 ≤ 28 → word_at at (front ++ to_be_bytes w32 n) ≡ word_at at (front ++ to_be_bytes w32 m)
  early at n m within = ap (from_be_bytes w64) (piece n ∙ sym (piece m))
    where
      piece : (s : ℕ) → take 8 (drop at (front ++ to_be_bytes w32 s)) ≡ take 8 (drop at front)
      piece s =
          ap (take 8) (drop-append-le at front (to_be_bytes w32 s) (omega (arith, within, size)))
          ∙ take-append-le 8 (drop at front) (to_be_bytes w32 s) (omega (arith, within, size, length-drop at front))

  late : (n : ℕ) → n < 2 ^ 32 → word_at 24 (front ++ to_be_bytes w32 n) ≡ word_at 24 (front ++ to_be_bytes w32 0) + n
  late n small =
      ap (λ xs. from_be_bytes w64 (take 8 xs)) (drop-append-le 24 front (to_be_bytes w32 n) (omega (arith, size)))
      ∙ four_then (drop 24 front) n (omega (arith, size, length-drop 24 front)) small
      ∙ ap (λ xs. from_be_bytes w64 (take 8 xs) + n) (sym (drop-append-le 24 front (to_be_bytes w32 0) (omega (arith, size))))

  -- a number of four bytes at the end is added
  pub end_added : (n : ℕ) → n < 2 ^ 32 → key_of (front ++ to_be_bytes w32 n) ≡ key_of (front ++ to_be_bytes w32 0) + n
  unfolding key_of
  end_added n small =
      let a = early 0 n 0 (omega arith) in
      let b = early 8 n 0 (omega arith) in
      let c = early 16 n 0 (omega arith) in
      let d = late n small in
      omega (arith, a, b, c, d)

  -- and read
  pub end_read : (n : ℕ) → n < 2 ^ 32 → four_at 28 (front ++ to_be_bytes w32 n) ≡ n
  end_read n small = ap (λ xs. from_be_bytes w32 (take 4 xs)) end ∙ from_be_bytes-to_be_bytes_4 n small
    where
      end : drop 28 (front ++ to_be_bytes w32 n) ≡ to_be_bytes w32 n
      end = ap (λ k. drop k (front ++ to_be_bytes w32 n)) (sym size) ∙ drop-append_seam front (to_be_bytes w32 n)

  -- as the rest of the number
  pub end_rest : (n : ℕ) → n < 2 ^ 32 → key_of (front ++ to_be_bytes w32 n) % 2 ^ 32 ≡ n
  end_rest n small =
      let read = end_read n small in
      slot_key (front ++ to_be_bytes w32 n) (subst (λ m. m < 2 ^ 32) (sym read) small) ∙ read

-- ---- the id behind the class of a link

-- the bytes of the first two words
pub byte_in : (key : List ℕ) (at i : ℕ) → i < 8 → slice_index (take 8 (drop at key)) i ≡ slice_index key (at + i)
byte_in key at i small = get_or-take 8 (drop at key) i 0 small ∙ get_or-drop at key i 0

four_in : (key : List ℕ) (i : ℕ) → i < 4 → slice_index (take 4 (drop 6 key)) i ≡ slice_index key (6 + i)
four_in key i small = get_or-take 4 (drop 6 key) i 0 small ∙ get_or-drop 6 key i 0

joined_part : (a b c d : ℕ) → b < 2 ^ 64 → c < 2 ^ 64 → d < 2 ^ 64 → joined a b c d / 2 ^ 176 % 2 ^ 32 ≡ a % 2 ^ 16 * 2 ^ 16 + b / 2 ^ 48
joined_part a b c d b_small c_small d_small = omega (arith, b_small, c_small, d_small)

module _ (key : List ℕ) (fits : (i : ℕ) → slice_index key i < 256) where
  word_fits : (at : ℕ) → word_at at key < 2 ^ 64
  word_fits at =
      let e0 = byte_in key at 0 (omega arith) in let f0 = fits (at + 0) in
      let e1 = byte_in key at 1 (omega arith) in let f1 = fits (at + 1) in
      let e2 = byte_in key at 2 (omega arith) in let f2 = fits (at + 2) in
      let e3 = byte_in key at 3 (omega arith) in let f3 = fits (at + 3) in
      let e4 = byte_in key at 4 (omega arith) in let f4 = fits (at + 4) in
      let e5 = byte_in key at 5 (omega arith) in let f5 = fits (at + 5) in
      let e6 = byte_in key at 6 (omega arith) in let f6 = fits (at + 6) in
      let e7 = byte_in key at 7 (omega arith) in let f7 = fits (at + 7) in
      omega (arith, e0, e1, e2, e3, e4, e5, e6, e7, f0, f1, f2, f3, f4, f5, f6, f7)

  front_word : word_at 0 key % 2 ^ 16 ≡ slice_index key 6 * 256 + slice_index key 7
  front_word =
      let e0 = byte_in key 0 0 (omega arith) in let f0 = fits 0 in
      let e1 = byte_in key 0 1 (omega arith) in let f1 = fits 1 in
      let e2 = byte_in key 0 2 (omega arith) in let f2 = fits 2 in
      let e3 = byte_in key 0 3 (omega arith) in let f3 = fits 3 in
      let e4 = byte_in key 0 4 (omega arith) in let f4 = fits 4 in
      let e5 = byte_in key 0 5 (omega arith) in let f5 = fits 5 in
      let e6 = byte_in key 0 6 (omega arith) in let f6 = fits 6 in
      let e7 = byte_in key 0 7 (omega arith) in let f7 = fits 7 in
      omega (arith, e0, e1, e2, e3, e4, e5, e6, e7, f0, f1, f2, f3, f4, f5, f6, f7)

  next_word : word_at 8 key / 2 ^ 48 ≡ slice_index key 8 * 256 + slice_index key 9
  next_word =
      let e0 = byte_in key 8 0 (omega arith) in let f0 = fits 8 in
      let e1 = byte_in key 8 1 (omega arith) in let f1 = fits 9 in
      let e2 = byte_in key 8 2 (omega arith) in let f2 = fits 10 in
      let e3 = byte_in key 8 3 (omega arith) in let f3 = fits 11 in
      let e4 = byte_in key 8 4 (omega arith) in let f4 = fits 12 in
      let e5 = byte_in key 8 5 (omega arith) in let f5 = fits 13 in
      let e6 = byte_in key 8 6 (omega arith) in let f6 = fits 14 in
      let e7 = byte_in key 8 7 (omega arith) in let f7 = fits 15 in
      omega (arith, e0, e1, e2, e3, e4, e5, e6, e7, f0, f1, f2, f3, f4, f5, f6, f7)

  pub other_id : key_of key / 2 ^ 176 % 2 ^ 32 ≡ four_at 6 key
  unfolding key_of
  other_id =
      joined_part (word_at 0 key) (word_at 8 key) (word_at 16 key) (word_at 24 key) (word_fits 8) (word_fits 16) (word_fits 24)
      ∙ omega (arith, front_word, next_word, four_in key 0 (omega arith), four_in key 1 (omega arith), four_in key 2 (omega arith), four_in key 3 (omega arith))
