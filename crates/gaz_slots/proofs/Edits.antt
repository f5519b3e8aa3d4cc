-- Bytes before, in and behind a range that was replaced.
use Rattle.std.proofs.Common.{◌≡◌, ◌≤◌, ◌<◌, ◌+◌, ◌-◌, ◌^◌, ◌⊎◌, ℕ, List, ◌++◌, length, take, drop, get_or, sym, ◌∙◌, ap, arith, inl, inr, min}
use Rattle.std.specs.Int.{w16, to_be_bytes, from_be_bytes}
use Rattle.std.proofs.lemmas.List.{length-take, length-take-le, length-drop, length-append, get_or-take, get_or-drop, ext_get_or, take_at}
use Rattle.std.proofs.lemmas.Nat.{from_be_bytes-to_be_bytes_2}
use Rattle.gaz_page.specs.Free.{short_at}
use Rattle.gaz_page.proofs.Area.{in_range, before_range, after_range}
use Rattle.gaz_slots.specs.Bytes.{part, edited}

pub length-edited : (at : ℕ) (new bytes : List ℕ) → at + length new ≤ length bytes → length (edited at new bytes) ≡ length bytes
length-edited at new bytes within =
    omega (arith, length-append (take at bytes ++ new) (drop (at + length new) bytes), length-append (take at bytes) new, length-drop (at + length new) bytes, length-take-le at bytes (omega (arith, within)))

-- two parts are the same where their bytes are
pub same_part : (a n : ℕ) (x y : List ℕ) → length x ≡ length y → ((i : ℕ) → i < n → get_or x (a + i) 0 ≡ get_or y (a + i) 0) → part a n x ≡ part a n y
same_part a n x y long same =
    ext_get_or 0 (part a n x) (part a n y)
    (length-take n (drop a x) ∙ ap (λ (k : ℕ). min n k) (length-drop a x ∙ ap (λ (k : ℕ). k - a) long ∙ sym (length-drop a y)) ∙ sym (length-take n (drop a y)))
    (λ i below. let low : i < n = omega (arith, below, length-take n (drop a x)) in
    get_or-take n (drop a x) i 0 low ∙ get_or-drop a x i 0 ∙ same i low ∙ sym (get_or-drop a y i 0) ∙ sym (get_or-take n (drop a y) i 0 low))

-- what lies before or behind the range is as it was
pub kept : (a n at : ℕ) (new bytes : List ℕ) → at + length new ≤ length bytes → (a + n ≤ at) ⊎ (at + length new ≤ a) → part a n (edited at new bytes) ≡ part a n bytes
kept a n at new bytes within where_ =
    same_part a n (edited at new bytes) bytes (length-edited at new bytes within)
    (λ i low. elim where_ [
      | inl before ↦ before_range bytes new at (a + i) within (omega arith)
      | inr behind ↦ after_range bytes new at (a + i) within (omega arith)
    ])

-- the range has the new bytes
pub written : (at : ℕ) (new bytes : List ℕ) → at + length new ≤ length bytes → part at (length new) (edited at new bytes) ≡ new
written at new bytes within =
    let long = length-edited at new bytes within in
    ext_get_or 0 (part at (length new) (edited at new bytes)) new
    (length-take-le (length new) (drop at (edited at new bytes)) (omega (arith, within, long, length-drop at (edited at new bytes))))
    (λ i below. let low : i < length new = omega (arith, below, length-take (length new) (drop at (edited at new bytes))) in
    get_or-take (length new) (drop at (edited at new bytes)) i 0 low ∙ get_or-drop at (edited at new bytes) i 0 ∙ in_range bytes new at i within low)

-- a number of two bytes that was written
pub short_written : (at number : ℕ) (bytes : List ℕ) → at + 2 ≤ length bytes → number < 2 ^ 16 → short_at at (edited at (to_be_bytes w16 number) bytes) ≡ number
unfolding short_at
short_written at number bytes within small =
    ap (λ (b : List ℕ). from_be_bytes w16 b) (written at (to_be_bytes w16 number) bytes within) ∙ from_be_bytes-to_be_bytes_2 number small

-- the first two bytes
pub first_byte : (x y : List ℕ) → part 0 2 x ≡ part 0 2 y → get_or x 0 0 ≡ get_or y 0 0
first_byte x y same = sym (get_or-take 2 x 0 0 (omega arith)) ∙ ap (λ (b : List ℕ). get_or b 0 0) same ∙ get_or-take 2 y 0 0 (omega arith)

pub second_byte : (x y : List ℕ) → part 0 2 x ≡ part 0 2 y → get_or x 1 0 ≡ get_or y 1 0
second_byte x y same = sym (get_or-take 2 x 1 0 (omega arith)) ∙ ap (λ (b : List ℕ). get_or b 1 0) same ∙ get_or-take 2 y 1 0 (omega arith)

-- the bytes up to the end of the range
pub front_written : (at : ℕ) (new bytes : List ℕ) → at + length new ≤ length bytes → take (at + length new) (edited at new bytes) ≡ take at bytes ++ new
front_written at new bytes within =
    take_at (take at bytes ++ new) (drop (at + length new) bytes) (at + length new)
    (length-append (take at bytes) new ∙ ap (λ (k : ℕ). k + length new) (length-take-le at bytes (omega (arith, within))))
