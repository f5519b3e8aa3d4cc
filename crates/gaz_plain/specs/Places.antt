-- A line that is put at its key, and one that is taken out.
use Rattle.std.specs.Prelude.{◌≡◌, ℕ, Bool, nat_le, List, [], ◌∷◌, length, Some, All}
use Rattle.std.specs.declared.cmp.Ordering.TheVariants.{Less}
use Rattle.gaz_num.specs.declared.words.Table.{Table}
use Rattle.gaz_num.specs.Check.{key_in}
use Rattle.gaz_plain.specs.Gazetteer.{kind_in, key_of, key_cmp, limit_of, replaced}

-- It is the key of the line.
abbrev pub IsKeyOf : Table → List ℕ → List ℕ → Type 0
IsKeyOf table key line = key_in (kind_in table) line ≡ Some key

-- the lines with this one at its key
abbrev pub with_line : Table → List ℕ → List ℕ → List (List ℕ) → List (List ℕ)
with_line table key line lines = replaced table key (line ∷ []) lines

-- whether there is room for a line with the key, whichever it is
abbrev pub has_room : Table → List ℕ → List (List ℕ) → Bool
has_room table key lines = nat_le (length (with_line table key [] lines)) (limit_of table)

-- the lines without the one that has the key
abbrev pub without_line : Table → List ℕ → List (List ℕ) → List (List ℕ)
without_line table key lines = replaced table key [] lines

-- All lines have lesser keys.
abbrev pub EndsBefore : Table → List ℕ → List (List ℕ) → Type 0
EndsBefore table key lines = All (λ line. key_cmp (key_of table line) key ≡ Less) lines
