-- Counts of what failed, in 64 bits.
use Rattle.std.specs.Prelude.{◌≡◌, ℕ, ◌+◌, ◌-◌, ◌^◌, ◌≤◌, min}

-- a count rose, or stands at the last value of its counter
abbrev pub HasRisen : ℕ → ℕ → Type 0
HasRisen before now = min (before + 1) (2 ^ 64 - 1) ≤ now

-- It rose by one, or stood and stands at the last value of its counter. So one call failed, and no more.
abbrev pub RisesOnce : ℕ → ℕ → Type 0
RisesOnce before now = now ≡ min (before + 1) (2 ^ 64 - 1)
