-- The front of a text that is written piece by piece.
use Rattle.std.specs.Prelude.{◌≡◌, ℕ, List, length, min}
use Rattle.gaz_name.specs.Name.{first_bytes}

-- The first bytes of a text stand there, with zeros behind a shorter one, and it is known how many of them are its own.
pub record IsFront (size : ℕ) (text bytes : List ℕ) (len : ℕ) : Type 0 where
  pub are : bytes ≡ first_bytes size text
  pub own : len ≡ min (length text) size
