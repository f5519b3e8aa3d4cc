-- Records that stand one below the other, in the order of their slots.
use Rattle.std.proofs.Common.{◌≡◌, ◌≢◌, ◌≤◌, ◌<◌, ◌+◌, ℕ, List, true, arith, inl}
use Rattle.gaz_slots.specs.RecordPage.{all_below, mark_in, from_in, size_in, is_within, is_apart}
use Rattle.gaz_slots.proofs.Below.{all_from}
use Rattle.gaz_slots.proofs.Form.{within_from, apart_from}

-- the records of the first slots end at the page's end or before it, each where an earlier one begins or before it, and none begins before the lowest
pub record Falling (page : List ℕ) (slots lowest : ℕ) : Type 0 where
  pub high : lowest ≤ 4096
  pub low : (k : ℕ) → k < slots → from_in page k ≢ 0 → lowest ≤ from_in page k
  pub ends : (k : ℕ) → k < slots → from_in page k ≢ 0 → from_in page k + size_in page k ≤ 4096
  pub apart : (i j : ℕ) → i < slots → j < i → from_in page i ≢ 0 → from_in page j ≢ 0 → from_in page i + size_in page i ≤ from_in page j

pub falling_within : (page : List ℕ) (slots all lowest : ℕ) → Falling page slots lowest → all ≤ slots → mark_in page ≤ lowest → all_below all (is_within page) ≡ true
falling_within page slots all lowest f few mark =
    all_from all (is_within page) (λ k below. within_from page k (λ used. record { low = omega (arith, mark, f.low k (omega (arith, below, few)) used); high = f.ends k (omega (arith, below, few)) used }))

pub falling_apart : (page : List ℕ) (slots all lowest : ℕ) → Falling page slots lowest → all ≤ slots → all_below all (λ slot. all_below slot (is_apart page slot)) ≡ true
falling_apart page slots all lowest f few =
    all_from all (λ slot. all_below slot (is_apart page slot)) (λ i below. all_from i (is_apart page i) (λ j less. apart_from page i j (λ one other. inl (f.apart i j (omega (arith, below, few)) less one other))))
