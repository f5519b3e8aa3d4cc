-- The slot in a key is the rest of its number.
use Rattle.std.proofs.Common.{◌≡◌, ◌<◌, ◌+◌, ◌%◌, ◌^◌, ℕ, List, take, drop, sym, ◌∙◌, ap, arith}
use Rattle.std.specs.Prelude.{slice_index}
use Rattle.std.proofs.lemmas.List.{get_or-take, get_or-drop}
use Rattle.gaz_leaf.specs.Node.{key_of, joined, word_at}
use Rattle.gaz_keys.specs.Parts.{slot_of}
use Rattle.gaz_rows.specs.Found.{slot_in}

-- the last four bytes are those of the last word
same_byte : (key : List ℕ) (i : ℕ) → i < 4 → slice_index (take 8 (drop 24 key)) (4 + i) ≡ slice_index (take 4 (drop 28 key)) i
same_byte key i small =
    get_or-take 8 (drop 24 key) (4 + i) 0 (omega (arith, small)) ∙ get_or-drop 24 key (4 + i) 0 ∙ ap (λ n. slice_index key n) (omega arith)
    ∙ sym (get_or-take 4 (drop 28 key) i 0 small ∙ get_or-drop 28 key i 0)

last_word : (key : List ℕ) → slot_of key < 2 ^ 32 → word_at 24 key % 2 ^ 32 ≡ slot_of key
last_word key small =
    let a = same_byte key 0 (omega arith) in
    let b = same_byte key 1 (omega arith) in
    let c = same_byte key 2 (omega arith) in
    let d = same_byte key 3 (omega arith) in
    omega (arith, small, a, b, c, d)

last_only : (a b c d : ℕ) → slot_in (joined a b c d) ≡ d % 2 ^ 32
last_only a b c d = omega arith

pub slot_key : (key : List ℕ) → slot_of key < 2 ^ 32 → slot_in (key_of key) ≡ slot_of key
unfolding key_of
slot_key key small = last_only (word_at 0 key) (word_at 8 key) (word_at 16 key) (word_at 24 key) ∙ last_word key small
