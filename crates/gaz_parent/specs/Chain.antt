-- What stands above a place, and what stands below one.
use Rattle.std.specs.Prelude.{ℕ, zero, suc, Bool, ◌&&◌, ◌||◌, List, [], ◌∷◌, filter, find, codes, Option, Some, None, option_map, option_and_then, if◌then◌else◌, ◌==◌}
use Rattle.std.specs.Str.{bytes_eq}
use Rattle.std.specs.List.{list_any}
use Rattle.gaz_num.specs.Pieces.{column}
use Rattle.gaz_row.specs.Row.{id_of}
use Rattle.gaz_parent.specs.Parent.{Lists, is_this, parent_of}

-- the row with an id
abbrev pub row_with : Lists → ℕ → Option (List ℕ)
row_with lists id = find (λ row. id_of row == id) lists.rows

-- the parent of the row with an id
abbrev pub parent_at : Lists → ℕ → Option ℕ
parent_at lists id = option_and_then (parent_of lists) (row_with lists id)

-- ids upwards from one, each the parent of the one before: at most so many, up to one that has no parent or whose parent came before
abbrev pub upwards : ℕ → Lists → List ℕ → Option ℕ → List ℕ
upwards zero lists before next = []
upwards (suc most) lists before None = []
upwards (suc most) lists before (Some id) =
    if list_any (λ n. n == id) before then [] else id ∷ upwards most lists (id ∷ before) (parent_at lists id)

-- the chain of a place: its id, that of its parent, and so on, at most 64; none where no row has the id
unfoldable pub chain_in : Lists → ℕ → List ℕ
chain_in lists id = upwards 64 lists [] (option_map id_of (row_with lists id))

-- a row of class A or P whose parent is this place
abbrev pub is_child : Lists → ℕ → List ℕ → Bool
is_child lists id row =
    (bytes_eq (column 7 row) (codes "A") || bytes_eq (column 7 row) (codes "P")) && is_this id (parent_of lists row)

-- the children of a place
abbrev pub children_in : Lists → ℕ → List (List ℕ)
children_in lists id = filter (is_child lists id) lists.rows
