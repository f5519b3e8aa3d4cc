-- What is still to be given of a text.
use Rattle.std.specs.Prelude.{◌≢◌, ℕ, Bool, List, ◌∷◌, Option, Some, None, map, if◌then◌else◌}
use Rattle.std.specs.List.{AllByRecursion}
use Rattle.gaz_num.specs.Pieces.{lines_up_to, is_past}

-- no LF is in it
abbrev pub IsLine : List ℕ → Type 0
IsLine line = AllByRecursion (λ byte. byte ≢ 10) line

-- the line, or none where it is longer than the limit
abbrev pub unless_too_long : ℕ → List ℕ → Option (List ℕ)
unless_too_long limit line = if is_past limit line then None else Some line

-- What is still to be given of a text.
pub record Rest : Type 0 where
  -- the lines up to the file limit, with none in place of one that is longer than the line limit
  pub lines : List (Option (List ℕ))
  -- Whether the text goes on past the file limit.
  pub is_past : Bool

-- what a text gives within a line limit and a file limit
unfoldable pub rest_of : ℕ → ℕ → List ℕ → Rest
rest_of line_limit file_limit text = record { lines = map (unless_too_long line_limit) (lines_up_to file_limit text); is_past = is_past file_limit text }

-- The line, or none in place of one that was too long, stands in front of the lines of the rest.
abbrev pub onto : Option (List ℕ) → Rest → Rest
onto line rest = record { lines = line ∷ rest.lines; is_past = rest.is_past }
