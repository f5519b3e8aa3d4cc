-- What pages and a root page stand for.
use Rattle.std.specs.Prelude.{◌≡◌, ◌≢◌, ◌⊎◌, ◌≤◌, ◌<◌, ◌+◌, ◌-◌, ◌*◌, ◌/◌, ◌^◌, ℕ, true, false, IsTrue, List, [], ◌∷◌, length, map, filter, Option, Some, if◌then◌else◌, All, Contains, bytes_eq}
use Rattle.std.specs.List.{list_any}
use Rattle.gaz_plain.specs.Gazetteer.{Gazetteer}
use Rattle.gaz_plain.specs.Gazetteer.{IsGazetteer}
use Rattle.gaz_page.specs.declared.root.LineCounts.{LineCounts}
use Rattle.gaz_page.specs.declared.tree_root.Root.{Root}
use Rattle.gaz_page.specs.Free.{free_link}
use Rattle.gaz_leaf.specs.Node.{Pair, key_of}
use Rattle.gaz_tree.specs.Pairs.{lookup}
use Rattle.gaz_tree.specs.Tree.{IsTop, Reaches}
use Rattle.gaz_slots.specs.RecordPage.{is_record_page, is_used}
use Rattle.gaz_heap.specs.Place.{record_at, pages_of, is_chain}
use Rattle.gaz_keys.specs.Parts.{has_place, tag_of}
use Rattle.gaz_rows.specs.Index.{Slots, IsIndexed}

-- how many lines each list of a gazetteer has
abbrev pub counts_of : Gazetteer → LineCounts
counts_of gaz = record { rows = length gaz.rows; alternates = length gaz.alternates; links = length gaz.links; countries = length gaz.countries; codes = length gaz.codes }

-- the value of a key among the pairs of a tree, where these keys wait to be put with the value 0
abbrev pub value_in : List (List ℕ) → List Pair → List ℕ → Option ℕ
value_in waiting pairs key = if list_any (bytes_eq key) waiting then Some 0 else lookup (key_of key) pairs

-- the tag of a key that is a number
abbrev pub tag_in : ℕ → ℕ
tag_in key = key / 2 ^ 248

-- the places of lines: the values of the keys that have one
abbrev pub places_in : List Pair → List ℕ
places_in pairs = map (λ pair. pair.value) (filter (λ pair. has_place (tag_in pair.key)) pairs)

-- The free pages: each links to the next, and the last to 0.
abbrev pub IsFreeChain : (ℕ → List ℕ) → ℕ → List ℕ → Type 0
IsFreeChain pages first [] = first ≡ 0
IsFreeChain pages first (page ∷ more) = (first ≡ page) × ((next : ℕ) × (free_link page (pages page) ≡ Some next) × IsFreeChain pages next more)

-- what a page may be for
pub data Use : Type 0 where
  -- the tree
  tree : Use
  -- records that stand in slots
  slots : Use
  -- the record at this place, which is a chain of overflow pages
  chain : ℕ → Use
  -- nothing now
  free : Use

-- Some line stands in a slot of the page, or the page is one of those that are kept for new records.
abbrev pub HasSlots : List ℕ → List ℕ → ℕ → Type 0
HasSlots kept places page = ((slot : ℕ) × (slot < 65535) × Contains places (page * 65536 + slot)) ⊎ (Contains kept page × (page ≢ 0))

-- The page is for that, where lines stand at these places, these pages are kept for new records, and these are free.
abbrev pub IsFor : (ℕ → List ℕ) → Root → List ℕ → List ℕ → List ℕ → Use → ℕ → Type 0
IsFor pages root kept places frees tree page = Reaches pages (root.height - 1) root.top page
IsFor pages root kept places frees slots page = HasSlots kept places page
IsFor pages root kept places frees (chain place) page = Contains places place × IsTrue (is_chain place) × Contains (pages_of pages place) page
IsFor pages root kept places frees free page = Contains frees page

-- Each page from 1 to below the least that was never taken is for one thing, and no other page is for anything. Page 0 is kept for none.
pub record AreUsedOnce (pages : ℕ → List ℕ) (root : Root) (kept places : List ℕ) : Type 0 where
  -- the free pages, in their chain
  pub frees : List ℕ
  pub free_chain : IsFreeChain pages root.free frees
  pub used : (page : ℕ) → 1 ≤ page → page < root.fresh → (what : Use) × IsFor pages root kept places frees what page
  pub once : (page : ℕ) (one other : Use) → IsFor pages root kept places frees one page → IsFor pages root kept places frees other page → one ≡ other
  pub in_range : (page : ℕ) (what : Use) → IsFor pages root kept places frees what page → (1 ≤ page) × (page < root.fresh)
  -- Pages with slots are record pages in form, and their used slots are places of lines.
  pub in_form : (page : ℕ) → HasSlots kept places page → is_record_page page (pages page) ≡ true
  pub no_more : (page slot : ℕ) → HasSlots kept places page → IsTrue (is_used (pages page) slot) → Contains places (page * 65536 + slot)

-- Pages and a root stand for a gazetteer, but for keys without a place that wait to be put into the tree.
pub record StandsForBut (waiting : List (List ℕ)) (gaz : Gazetteer) (pages : ℕ → List ℕ) (root : Root) : Type 0 where
  pub is_gazetteer : IsGazetteer gaz
  pub date : gaz.date ≡ Some root.day
  pub counts : root.counts ≡ counts_of gaz
  -- the tree
  pub pairs : List Pair
  pub tree : IsTop pages root.height root.top pairs
  -- Its keys are those of the lines, and the lines stand at their places.
  pub placeless : All (λ key. has_place (tag_of key) ≡ false) waiting
  pub slots : Slots
  pub indexed : IsIndexed slots gaz (value_in waiting pairs) (record_at pages)
  pub used_once : AreUsedOnce pages root (root.heap ∷ []) (places_in pairs)

-- Pages and a root stand for a gazetteer.
abbrev pub StandsFor : Gazetteer → (ℕ → List ℕ) → Root → Type 0
StandsFor gaz pages root = StandsForBut [] gaz pages root
