-- What the parts of a step promise: each one works on the tree or on a record, and leaves the pages laid.
use Rattle.std.specs.Prelude.{◌≡◌, ◌≤◌, ◌+◌, ◌^◌, ℕ, List, [], ◌∷◌, length, filter, not, bytes_eq, Some, Contains, Result, IfErr}
use Rattle.std.specs.List.{list_any}
use Rattle.gaz_page.specs.declared.pages.PageFault.{PageFault}
use Rattle.gaz_page.specs.declared.tree_root.Root.{Root}
use Rattle.gaz_page.specs.Pages.{PagesView, NotDamaged}
use Rattle.gaz_leaf.specs.Node.{Pair, key_of}
use Rattle.gaz_tree.specs.Pairs.{put, without}
use Rattle.gaz_heap.specs.Place.{record_at}
use Rattle.gaz_rows.specs.Laid.{IsLaid, LaidBy, SameRecords, HasRoom, all_but}

-- the pairs with each of these keys put, one after the other, with the value 0
abbrev pub put_zeros : List (List ℕ) → List Pair → List Pair
put_zeros [] pairs = pairs
put_zeros (key ∷ keys) pairs = put_zeros keys (put (record { key = key_of key; value = 0 }) pairs)

-- the pairs with each of these keys taken out, one after the other
abbrev pub without_all : List (List ℕ) → List Pair → List Pair
without_all [] pairs = pairs
without_all (key ∷ keys) pairs = without_all keys (without (key_of key) pairs)

-- the keys of the first list that aren't in the second
abbrev pub missing_in : List (List ℕ) → List (List ℕ) → List (List ℕ)
missing_in others keys = filter (λ key. not (list_any (bytes_eq key) others)) keys

-- the pages go on to tell, and to be changed, as they did, and reads are counted
pub record GoesOn (old new : PagesView) : Type 0 where
  pub told : new.is_told ≡ old.is_told
  pub read_only : new.is_read_only ≡ old.is_read_only
  pub reads_grow : old.reads ≤ new.reads

-- At most so many pages are changed for each of so many calls on a tree of a height of at most 6, which stays such a tree.
pub record ChangesFew (most : ℕ) (old new : PagesView) (root now : Root) : Type 0 where
  pub changed : new.changed ≤ old.changed + most
  pub low : now.height ≤ 6

-- the root says something new of the tree alone
abbrev pub HasNewTree : Root → Root → Type 0
HasNewTree root now = now ≡ record root { top = now.top; height = now.height }

-- the root has another page for new records at most
abbrev pub HasNewHeap : Root → Root → Type 0
HasNewHeap root now = now ≡ record root { heap = now.heap }

-- Whatever is laid, the pairs become these, and the records stay.
abbrev pub TurnsPairs : ℕ → (List Pair → List Pair) → PagesView → Root → PagesView → Root → Type 0
TurnsPairs most turn old root new now =
    (pairs : List Pair) (kept places : List ℕ) → IsLaid old root pairs kept places → LaidBy most old new now (turn pairs) kept places

-- Damage comes only where nothing is laid, where less than so many pages could be taken, or where with so many pairs more there are 2^30.
abbrev pub IsSoundWith : {T : Type 0} → ℕ → ℕ → PagesView → Root → Result T PageFault → Type 0
IsSoundWith most more v root result =
    (pairs : List Pair) (kept places : List ℕ) → IsLaid v root pairs kept places → HasRoom most v → length pairs + more ≤ 2 ^ 30 → IfErr result NotDamaged

-- a record was put at a place that had none
pub record HasAdded (old new : PagesView) (root now : Root) (pairs : List Pair) (places : List ℕ) (bytes : List ℕ) (place : ℕ) : Type 0 where
  pub laid : IsLaid new now pairs (now.heap ∷ []) (place ∷ places)
  pub there : record_at new.page place ≡ Some bytes
  pub unlisted : Contains places place → ⊥
  pub same : SameRecords old new places
  pub room : (n : ℕ) → HasRoom (n + 17) old → HasRoom n new

-- the record of a place was dropped
pub record HasDropped (old new : PagesView) (root : Root) (pairs : List Pair) (places : List ℕ) (place : ℕ) : Type 0 where
  pub laid : IsLaid new root pairs (root.heap ∷ []) (all_but place places)
  pub same : SameRecords old new (all_but place places)
  pub room : (n : ℕ) → HasRoom n old → HasRoom n new

-- a record was put for the one of a place, there or elsewhere
pub record HasPutFor (old new : PagesView) (now : Root) (pairs : List Pair) (places : List ℕ) (bytes : List ℕ) (place place_now : ℕ) : Type 0 where
  pub laid : IsLaid new now pairs (now.heap ∷ []) (place_now ∷ all_but place places)
  pub there : record_at new.page place_now ≡ Some bytes
  pub unlisted : Contains (all_but place places) place_now → ⊥
  pub same : SameRecords old new (all_but place places)
  pub room : (n : ℕ) → HasRoom (n + 17) old → HasRoom n new
