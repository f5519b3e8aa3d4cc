-- How large the numbers of digits are.
use Rattle.std.proofs.Common.{◌≡◌, ℕ, zero, suc, ◌+◌, ◌-◌, ◌*◌, ◌^◌, ◌<◌, ◌≤◌, arith, subst, ap, sym, ◌∙◌}
use Rattle.std.proofs.Common.{pow-add, mul_comm}
use Rattle.std.proofs.Math.Nat.{pow-le-pow_right, mul-lt-mul_of_pos_right}

-- one more digit has room where there are at most eighteen
pub room : (value places : ℕ) → value < 10 ^ places → places ≤ 18 → value * 10 + 9 < 2 ^ 64
room value places below le = let top = pow-le-pow_right {n = 10} (omega arith) {i = places} {j = 18} le in omega (arith, top)

-- the powers of the digits that are there and of those that lack
pub powers : (digits : ℕ) → digits ≤ 12 → 10 ^ (12 - digits) * 10 ^ digits ≡ 10 ^ 12
powers digits le = sym (pow-add 10 (12 - digits) digits) ∙ all (12 - digits + digits) (omega (arith, le))
  where
    all : (k : ℕ) → k ≡ 12 → 10 ^ k ≡ 10 ^ 12
    all k is = ap (λ (n : ℕ). 10 ^ n) is

-- a fraction is less than one
pub below_one : (value digits last : ℕ) → value < 10 ^ digits → last * 10 ^ digits ≡ 10 ^ 12 → value * last < 10 ^ 12
below_one value digits zero below is = omega (arith, is)
below_one value digits (suc last) below is =
    let less : value * suc last < 10 ^ digits * suc last = mul-lt-mul_of_pos_right below (omega arith) in
    subst (λ (n : ℕ). value * suc last < n) (mul_comm (10 ^ digits) (suc last) ∙ is) less
