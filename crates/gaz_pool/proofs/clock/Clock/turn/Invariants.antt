use Rattle.std.proofs.Common.{◌≡◌, ℕ, ◌<◌, true}
use Rattle.gaz_pool.specs.Clock.{round_of, hand_of, is_recent}
use Rattle.gaz_pool.proofs.Round.{IsPassed, IsAt}
use Rattle.gaz_pool.proofs.clock.Clock.turn.Given as goal

-- The frames that the hand has passed were all asked for, and the others are as they were.
abbrev pub invariant-loop : goal.invariant-loop
invariant-loop l =
    let round = round_of l.fn.self in
    let from = hand_of l.fn.self in
    record {
      whole : round_of l.self ≡ round_of l.fn.self;
      at : IsAt round from l.counter (hand_of l.self);
      passed : (place : ℕ) → place < round → IsPassed round from l.counter place → is_recent l.fn.self place ≡ true;
      ahead : (place : ℕ) → place < round → (IsPassed round from l.counter place → ⊥) → is_recent l.self place ≡ is_recent l.fn.self place;
    }
