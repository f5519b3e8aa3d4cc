-- Texts cut at their first space.
use Rattle.std.specs.Prelude.{ℕ, Bool, List, Option, Some, None, if◌then◌else◌, ◌==◌}
use Rattle.std.specs.List.{list_any, before_first, after_first}

-- the byte is a space
abbrev pub is_space : ℕ → Bool
is_space byte = byte == 32

-- the text before the first space, or the whole text
abbrev pub before_space : List ℕ → List ℕ
before_space text = before_first is_space text

-- the text behind the first space, if there is one
abbrev pub behind_space : List ℕ → Option (List ℕ)
behind_space text = if list_any is_space text then Some (after_first is_space text) else None
