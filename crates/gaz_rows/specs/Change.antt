-- What one line changes on the pages: it comes, it goes, or it takes the place of another.
use Rattle.std.specs.Prelude.{◌≡◌, ◌≤◌, ◌+◌, ◌^◌, ℕ, List, [], ◌∷◌, length, Option, Some, None, IsTrue}
use Rattle.gaz_page.specs.declared.tree_root.Root.{Root}
use Rattle.gaz_page.specs.Pages.{PagesView}
use Rattle.gaz_leaf.specs.Node.{Pair, key_of}
use Rattle.gaz_tree.specs.Pairs.{put, without}
use Rattle.gaz_heap.specs.Place.{record_at, is_chain}
use Rattle.gaz_rows.specs.Laid.{IsLaid, HasRoom, all_but}
use Rattle.gaz_rows.specs.Work.{put_zeros, without_all, missing_in}
use Rattle.gaz_rows.specs.Steps.{RecordsLeft, pair_at, with_new}

-- The pages are laid with these pairs. At these places stands what stood there, and a new line, if there is one, at a place of its own.
pub record IsChanged (old new : PagesView) (now : Root) (pairs : List Pair) (others : List ℕ) (line : Option (List ℕ)) (place : ℕ) : Type 0 where
  pub laid : IsLaid new now pairs (now.heap ∷ []) (with_new line place others)
  pub left : RecordsLeft line place others (record_at old.page) (record_at new.page)

-- A line has come: it stands somewhere, its key has this place, and its other keys are put.
pub record HasCome (old new : PagesView) (now : Root) (pairs : List Pair) (places : List ℕ) (key : List ℕ) (more : List (List ℕ)) (line : List ℕ) : Type 0 where
  pub place : ℕ
  pub changed : IsChanged old new now (put_zeros (missing_in [] more) (put (pair_at key place) pairs)) places (Some line) place

-- A line has gone from a place, with its key and its other keys.
pub record HasGone (old new : PagesView) (now : Root) (pairs : List Pair) (places : List ℕ) (key : List ℕ) (more : List (List ℕ)) (place : ℕ) : Type 0 where
  pub changed : IsChanged old new now (without_all (missing_in [] more) (without (key_of key) pairs)) (all_but place places) None 0

-- A line has taken the place of another: of the other keys, those that only the old one had are taken out, and those that only the new one has
-- are put. The new line stands where the old one stood, if that was no chain and the new one isn't longer.
pub record HasReplaced (old new : PagesView) (now : Root) (pairs : List Pair) (places : List ℕ) (key : List ℕ) (was more : List (List ℕ)) (place : ℕ) (line : List ℕ) : Type 0 where
  pub place_now : ℕ
  pub changed : IsChanged old new now (put_zeros (missing_in was more) (put (pair_at key place_now) (without_all (missing_in more was) pairs))) (all_but place places) (Some line) place_now
  pub stays : (earlier : List ℕ) → record_at old.page place ≡ Some earlier → (IsTrue (is_chain place) → ⊥) → length line ≤ length earlier → place_now ≡ place

-- the root says something new of the tree and of the page for new records alone
abbrev pub HasNewPages : Root → Root → Type 0
HasNewPages root now = now ≡ record root { top = now.top; height = now.height; heap = now.heap }

-- There are pairs and pages left for any step.
pub record HasLeft (v : PagesView) (pairs : List Pair) : Type 0 where
  pub room : HasRoom 200 v
  pub few : length pairs + 10 ≤ 2 ^ 30
