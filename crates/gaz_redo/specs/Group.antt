-- Slots of the log that are read together.
use Rattle.std.specs.Prelude.{◌≡◌, ℕ, ◌+◌, ◌-◌, ◌*◌, List, take, drop}
use Rattle.gaz_redo.specs.declared.group.Group.{Group}

-- how many bytes are held
abbrev pub size_of : Group → ℕ
size_of group = 4112 * (group.end - group.first)

-- What is held is what the log has there.
abbrev pub IsOfLog : Group → List ℕ → Type 0
IsOfLog group log = take (size_of group) group.bytes ≡ take (size_of group) (drop (16 + 4112 * group.first) log)
