-- A clock hand that goes round frames.
use Rattle.std.specs.Prelude.{◌≡◌, ℕ, ◌+◌, ◌<◌, Bool, true, false, length, slice_index_or, nat_lt, if◌then◌else◌}
use Rattle.gaz_pool.specs.declared.clock.Clock.{Clock}

-- the frames of one round
abbrev pub round_of : Clock → ℕ
round_of clock = length clock.recent.items

-- where the hand stands
abbrev pub hand_of : Clock → ℕ
hand_of clock = clock.hand

-- whether a frame was asked for since the hand came by last
abbrev pub is_recent : Clock → ℕ → Bool
is_recent clock place = slice_index_or clock.recent.items place false

-- the frame behind this one, and the first behind the last
abbrev pub behind : ℕ → ℕ → ℕ
behind round place = if nat_lt (place + 1) round then place + 1 else 0

-- Each frame was asked for since the hand came by last.
abbrev pub AllRecent : Clock → Type 0
AllRecent clock = (place : ℕ) → place < round_of clock → is_recent clock place ≡ true
