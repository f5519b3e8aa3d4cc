-- How writing a root page and reading it go together.
use Rattle.std.specs.Prelude.{◌≡◌, ◌<◌, ℕ, List, ◌++◌, slice_index, Some}
use Rattle.gaz_page.specs.declared.tree_root.Root.{Root}
use Rattle.gaz_page.specs.TreeRoot.{FitsRoot, tree_root_bytes, tree_root_in, tree_root_at}

-- Each number of the list is a byte.
abbrev pub IsBytes : List ℕ → Type 0
IsBytes bytes = (i : ℕ) → slice_index bytes i < 256

-- A root page that was written is read as it was, whatever stands behind it in the area.
abbrev pub WrittenTreeRootIsRead : Type 0
WrittenTreeRootIsRead = (root : Root) (rest : List ℕ) → FitsRoot root → tree_root_at (tree_root_bytes root ++ rest) ≡ Some root

-- A page that is read as a root is the one that is written for it.
abbrev pub ReadTreeRootIsWritten : Type 0
ReadTreeRootIsWritten = (page : List ℕ) (root : Root) → IsBytes page → tree_root_in page ≡ Some root → page ≡ tree_root_bytes root

-- The fields that are read of a root page fit into their places.
abbrev pub ReadTreeRootFits : Type 0
ReadTreeRootFits = (page : List ℕ) (root : Root) → IsBytes page → tree_root_in page ≡ Some root → FitsRoot root
