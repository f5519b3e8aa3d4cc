-- A test at each number below another.
use Rattle.std.proofs.Common.{◌≡◌, ◌<◌, ◌+◌, ℕ, zero, suc, true, false, refl, sym, arith, add-one, inl, inr, subst}
use Rattle.std.specs.Prelude.{Bool}
use Rattle.std.proofs.lemmas.Bool.{and_parts, and_from, cases_eq, both_ways, false_from_ne_true}
use Rattle.gaz_slots.specs.RecordPage.{all_below}

pub all_more : (n : ℕ) (test : ℕ → Bool) → all_below n test ≡ true → test n ≡ true → all_below (n + 1) test ≡ true
all_more n test below here = rw (add-one) (and_from (all_below n test) (test n) below here)

pub all_at : (n : ℕ) (test : ℕ → Bool) (k : ℕ) → all_below n test ≡ true → k < n → test k ≡ true
all_at zero test k all below = absurd (omega arith)
all_at (suc n) test k all below =
    let parts = and_parts (all_below n test) (test n) all in
    elim (cases_eq k n) [
      | inl is ↦ subst (λ (m : ℕ). test m ≡ true) (sym is) parts.1
      | inr differs ↦ all_at n test k parts.0 (omega arith)
    ]

pub all_from : (n : ℕ) (test : ℕ → Bool) → ((k : ℕ) → k < n → test k ≡ true) → all_below n test ≡ true
all_from zero test each = refl
all_from (suc n) test each = and_from (all_below n test) (test n) (all_from n test (λ k below. each k (omega arith))) (each n (omega arith))

pub not_all : (n : ℕ) (test : ℕ → Bool) (k : ℕ) → k < n → test k ≡ false → false ≡ all_below n test
not_all n test k below fails = sym (false_from_ne_true (all_below n test) (λ all. both_ways (test k) fails (all_at n test k all below)))
