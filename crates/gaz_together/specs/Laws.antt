-- What is left of a tree after a call on records, and of records after a call on the tree.
use Rattle.std.specs.Prelude.{ℕ, List}
use Rattle.gaz_page.specs.Pages.{PagesView}
use Rattle.gaz_leaf.specs.Node.{Pair}
use Rattle.gaz_tree.specs.declared.tree.Tree.{Tree}
use Rattle.gaz_tree.specs.Put.{Changes}
use Rattle.gaz_tree.specs.Stands.{Stands, OfTree}
use Rattle.gaz_heap.specs.Facts.{IsHeap, Holds, StillHolds, IsForRecords, Puts, Drops, Replaces}

-- A record that is put leaves the tree.
abbrev pub TreeAfterPut : Type 0
TreeAfterPut = (old new : PagesView) (tree : Tree) (pairs : List Pair) (current now : ℕ) (free bytes : List ℕ) (place : ℕ) → Stands old tree pairs → IsHeap old current free
    → Puts old new current now free bytes place → Stands new tree pairs

-- A record that is dropped leaves the tree.
abbrev pub TreeAfterDrop : Type 0
TreeAfterDrop = (old new : PagesView) (tree : Tree) (pairs : List Pair) (current : ℕ) (free bytes : List ℕ) (place : ℕ) → Stands old tree pairs → IsHeap old current free
    → Holds old place bytes → Drops old new current free place → Stands new tree pairs

-- A record that is put in place of another one leaves the tree.
abbrev pub TreeAfterReplace : Type 0
TreeAfterReplace = (old new : PagesView) (tree : Tree) (pairs : List Pair) (place : ℕ) (bytes : List ℕ) → Stands old tree pairs → Replaces old new place bytes → Stands new tree pairs

-- A call on the tree leaves each record, on the same pages.
abbrev pub RecordAfterKey : Type 0
RecordAfterKey = (old new : PagesView) (tree : Tree) (pairs : List Pair) (place : ℕ) (bytes : List ℕ) → Stands old tree pairs → Changes (OfTree old.page tree) old new
    → Holds old place bytes → StillHolds old new place bytes

-- A call on the tree leaves the page for new records, and what records suppose of the free pages holds of those that are free then.
abbrev pub HeapAfterKey : Type 0
HeapAfterKey = (old new : PagesView) (before after : Tree) (pairs now : List Pair) (current : ℕ) (free : List ℕ) → Stands old before pairs → IsHeap old current free → IsForRecords old current
    → Changes (OfTree old.page before) old new → (s : Stands new after now) → IsHeap new current s.chain.frees × IsForRecords new current
