-- One round of a hand.
use Rattle.std.proofs.Common.{◌≡◌, ◌⊎◌, ℕ, ◌+◌, ◌<◌, ◌≤◌, inl, inr, arith}
use Rattle.std.proofs.lemmas.Bool.{cases_lt}
use Rattle.std.proofs.lemmas.Bool.Decides.{nat_tests}
use Rattle.gaz_pool.specs.Clock.{behind}

-- A hand that began at `from` stands here after so many steps.
abbrev pub IsAt : ℕ → ℕ → ℕ → ℕ → Type 0
IsAt round from steps hand = ((from + steps < round) × (hand ≡ from + steps)) ⊎ ((round ≤ from + steps) × (hand + round ≡ from + steps))

-- It came by this place.
abbrev pub IsPassed : ℕ → ℕ → ℕ → ℕ → Type 0
IsPassed round from steps place = ((from ≤ place) × (place < from + steps)) ⊎ (place + round < from + steps)

pub step_on : (round from steps hand : ℕ) → from < round → steps < round → IsAt round from steps hand → IsAt round from (steps + 1) (behind round hand)
step_on round from steps hand begun few is = grind (arith, nat_tests)

pub passed_on : (round from steps hand place : ℕ) → from < round → steps < round → IsAt round from steps hand → IsPassed round from (steps + 1) place → place < round → (place ≡ hand) ⊎ IsPassed round from steps place
passed_on round from steps hand place begun few is passed within = grind (arith, nat_tests)

pub not_passed : (round from steps hand : ℕ) → from < round → steps < round → IsAt round from steps hand → IsPassed round from steps hand → ⊥
not_passed round from steps hand begun few is passed = grind (arith, nat_tests)

pub all_passed : (round from place : ℕ) → from < round → place < round → IsPassed round from round place
all_passed round from place begun within = elim (cases_lt place from) [
  | inl before ↦ inr (omega (arith, before))
  | inr after ↦ inl (after, omega (arith, within))
]

pub none_passed : (round from place : ℕ) → from < round → place < round → IsPassed round from 0 place → ⊥
none_passed round from place begun within passed = grind (arith, nat_tests)

pub hand_passed : (round from steps hand : ℕ) → from < round → steps < round → IsAt round from steps hand → IsPassed round from (steps + 1) hand
hand_passed round from steps hand begun few (inl at) = inl (omega (arith, at.1), omega (arith, at.1))
hand_passed round from steps hand begun few (inr at) = inr (omega (arith, at.1))

pub still_passed : (round from steps place : ℕ) → IsPassed round from steps place → IsPassed round from (steps + 1) place
still_passed round from steps place (inl passed) = inl (passed.0, omega (arith, passed.1))
still_passed round from steps place (inr passed) = inr (omega (arith, passed))
