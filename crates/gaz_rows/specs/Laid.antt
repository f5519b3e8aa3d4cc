-- Pages on which a tree and records are laid, each page for one thing, while lines come and go: what a call on the tree or on a record leaves
-- of them. The lines at the places, and which keys the tree has, don't matter here.
use Rattle.std.specs.Prelude.{◌≡◌, ◌⊎◌, ◌≤◌, ◌+◌, ◌==◌, ℕ, not, List, [], ◌∷◌, filter, Some, Contains}
use Rattle.gaz_page.specs.declared.tree_root.Root.{Root}
use Rattle.gaz_page.specs.Pages.{PagesView}
use Rattle.gaz_leaf.specs.Node.{Pair}
use Rattle.gaz_tree.specs.declared.tree.Tree.{Tree}
use Rattle.gaz_tree.specs.Put.{HasChain, left_of, Trades, Changes, TakesFew}
use Rattle.gaz_tree.specs.Remove.{Returns}
use Rattle.gaz_tree.specs.Stands.{Stands as IsTreeOf, OfTree}
use Rattle.gaz_heap.specs.Place.{record_at, page_of}
use Rattle.gaz_heap.specs.Facts.{Holds, Puts, Drops, Replaces}
use Rattle.gaz_heap.specs.Heap.{HasUsed}
use Rattle.gaz_plain.specs.Gazetteer.{Gazetteer}
use Rattle.gaz_rows.specs.Stands.{AreUsedOnce, StandsForBut, places_in}

-- the root with the least page never taken and the first free one as the pages have them
abbrev pub ends_of : PagesView → Root → Root
ends_of v root = record root { fresh = v.fresh; free = v.free }

-- the tree that a root names
abbrev pub tree_in : Root → Tree
tree_in root = record { top = root.top; height = root.height }

-- A tree of these pairs and records at these places are laid on pages, each page for one thing. These pages are kept for new records.
pub record IsLaid (v : PagesView) (root : Root) (pairs : List Pair) (kept places : List ℕ) : Type 0 where
  pub tree : IsTreeOf v (tree_in root) pairs
  pub held : (place : ℕ) → Contains places place → (bytes : List ℕ) × Holds v place bytes
  pub used_once : AreUsedOnce v.page (ends_of v root) kept places

-- The records at these places are what they were.
abbrev pub SameRecords : PagesView → PagesView → List ℕ → Type 0
SameRecords old new places = (place : ℕ) → Contains places place → record_at new.page place ≡ record_at old.page place

-- the places but one
abbrev pub all_but : ℕ → List ℕ → List ℕ
all_but place places = filter (λ other. not (other == place)) places

-- At least so many pages can still be taken.
abbrev pub HasRoom : ℕ → PagesView → Type 0
HasRoom least v = (chain : HasChain v) → least ≤ left_of v chain

-- what a record that is put leaves, by the page for new records before it and after it
pub record LaidWith (old new : PagesView) (root : Root) (pairs : List Pair) (now : ℕ) (kept places : List ℕ) (bytes : List ℕ) (place : ℕ) : Type 0 where
  pub laid : IsLaid new root pairs (now ∷ kept) (place ∷ places)
  pub there : record_at new.page place ≡ Some bytes
  pub unlisted : Contains places place → ⊥
  pub same : SameRecords old new places
  -- 17 pages fewer at most can be taken
  pub room : (n : ℕ) → HasRoom (n + 17) old → HasRoom n new

-- A record is put. Another page is for new records then only where there was none, or one with a used slot.
abbrev pub AfterRecordPut : Type 0
AfterRecordPut =
    (old new : PagesView) (root : Root) (pairs : List Pair) (current now : ℕ) (kept places : List ℕ) (bytes : List ℕ) (place : ℕ)
    → (laid : IsLaid old root pairs kept places) → (current ≡ 0) ⊎ Contains kept current
    → (now ≡ current) ⊎ ((current ≡ 0) ⊎ HasUsed (old.page current))
    → Puts old new current now laid.tree.chain.frees bytes place
    → LaidWith old new root pairs now kept places bytes place

-- The same where no other page was kept: none but the one for new records is kept then.
abbrev pub AfterRecordPutAlone : Type 0
AfterRecordPutAlone =
    (old new : PagesView) (root : Root) (pairs : List Pair) (current now : ℕ) (places : List ℕ) (bytes : List ℕ) (place : ℕ)
    → (laid : IsLaid old root pairs (current ∷ []) places)
    → (now ≡ current) ⊎ ((current ≡ 0) ⊎ HasUsed (old.page current))
    → Puts old new current now laid.tree.chain.frees bytes place
    → LaidWith old new root pairs now [] places bytes place

-- A page that is kept for new records needn't be kept where one of its slots is used, where it is kept anyway, or where it is none.
abbrev pub AfterKept : Type 0
AfterKept =
    (v : PagesView) (root : Root) (pairs : List Pair) (page : ℕ) (kept places : List ℕ) → IsLaid v root pairs (page ∷ kept) places
    → (page ≡ 0) ⊎ (HasUsed (v.page page) ⊎ Contains kept page) → IsLaid v root pairs kept places

-- what a record that is dropped leaves
pub record LaidWithout (old new : PagesView) (root : Root) (pairs : List Pair) (kept places : List ℕ) (place : ℕ) : Type 0 where
  pub laid : IsLaid new root pairs kept (all_but place places)
  pub same : SameRecords old new (all_but place places)
  pub room : (n : ℕ) → HasRoom n old → HasRoom n new

-- A record is dropped. A record page goes with its last record, so no page of it is kept but the one for new records.
abbrev pub AfterRecordDropped : Type 0
AfterRecordDropped =
    (old new : PagesView) (root : Root) (pairs : List Pair) (current : ℕ) (kept places : List ℕ) (place : ℕ)
    → (laid : IsLaid old root pairs kept places) → Contains places place → (current ≡ 0) ⊎ Contains kept current
    → (Contains kept (page_of place) → page_of place ≡ current)
    → Drops old new current laid.tree.chain.frees place
    → LaidWithout old new root pairs kept places place

-- what a record that is put in place of another one leaves
pub record LaidAgain (old new : PagesView) (root : Root) (pairs : List Pair) (kept places : List ℕ) (place : ℕ) : Type 0 where
  pub laid : IsLaid new root pairs kept places
  pub same : SameRecords old new (all_but place places)
  pub room : (n : ℕ) → HasRoom n old → HasRoom n new

-- A record is put in place of the one that stands at a place. No page is taken or given.
abbrev pub AfterReplaced : Type 0
AfterReplaced =
    (old new : PagesView) (root : Root) (pairs : List Pair) (kept places : List ℕ) (place : ℕ) (bytes : List ℕ)
    → IsLaid old root pairs kept places → Contains places place → Replaces old new place bytes
    → LaidAgain old new root pairs kept places place

-- what a call on the tree leaves, which makes this root of it and takes so many pages at most
pub record LaidBy (most : ℕ) (old new : PagesView) (now : Root) (pairs : List Pair) (kept places : List ℕ) : Type 0 where
  pub laid : IsLaid new now pairs kept places
  pub same : SameRecords old new places
  pub room : (n : ℕ) → HasRoom (n + most) old → HasRoom n new

-- A key is put: the pages of the tree and the free ones are those of before and those newly taken.
abbrev pub AfterKeyPut : Type 0
AfterKeyPut =
    (old new : PagesView) (root now : Root) (pairs more : List Pair) (kept places : List ℕ)
    → IsLaid old root pairs kept places → IsTreeOf new (tree_in now) more
    → Trades (OfTree old.page (tree_in root)) (OfTree new.page (tree_in now)) old new → Changes (OfTree old.page (tree_in root)) old new
    → TakesFew 7 old new
    → LaidBy 7 old new now more kept places

-- A key is taken out: the pages of the tree and the free ones are those of before.
abbrev pub AfterKeyRemoved : Type 0
AfterKeyRemoved =
    (old new : PagesView) (root now : Root) (pairs fewer : List Pair) (kept places : List ℕ)
    → IsLaid old root pairs kept places → IsTreeOf new (tree_in now) fewer → new.fresh ≡ old.fresh
    → Returns (OfTree old.page (tree_in root)) (OfTree new.page (tree_in now)) old new → Changes (OfTree old.page (tree_in root)) old new
    → ((n : ℕ) → OfTree new.page (tree_in now) n → OfTree old.page (tree_in root) n)
    → LaidBy 0 old new now fewer kept places

-- Of places only which there are matters.
abbrev pub AfterOrder : Type 0
AfterOrder =
    (v : PagesView) (root : Root) (pairs : List Pair) (kept places others : List ℕ) → IsLaid v root pairs kept places
    → ((place : ℕ) → Contains places place → Contains others place) → ((place : ℕ) → Contains others place → Contains places place)
    → IsLaid v root pairs kept others

-- Of a root only the tree matters.
abbrev pub AfterRoot : Type 0
AfterRoot =
    (v : PagesView) (root other : Root) (pairs : List Pair) (kept places : List ℕ) → other.top ≡ root.top → other.height ≡ root.height
    → IsLaid v root pairs kept places → IsLaid v other pairs kept places

-- Pages that stand for a gazetteer are so laid, with the page for new records kept, and at the places of the lines.
abbrev pub AreLaid : Type 0
AreLaid =
    (waiting : List (List ℕ)) (gaz : Gazetteer) (v : PagesView) (root : Root) → (stands : StandsForBut waiting gaz v.page (ends_of v root))
    → IsLaid v root stands.pairs (root.heap ∷ []) (places_in stands.pairs)

-- Within the limits of the tables page numbers don't run out: a step takes at most 100 pages, and at least 200 are left before it.
abbrev pub AreLeft : Type 0
AreLeft =
    (waiting : List (List ℕ)) (gaz : Gazetteer) (v : PagesView) (root : Root) → StandsForBut waiting gaz v.page (ends_of v root) → HasRoom 200 v
