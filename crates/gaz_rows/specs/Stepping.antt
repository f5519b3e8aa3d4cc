-- What a step promises, and its parts for a line that comes, goes, or takes the place of another.
use Rattle.std.specs.Prelude.{◌≡◌, ◌≤◌, ◌<◌, ◌+◌, ◌*◌, ℕ, Bool, false, List, [], ◌∷◌, length, take, Option, Some, None, Result, Ok, Err, Contains, IsTrue}
use Rattle.gaz_num.specs.declared.words.Kind.{Kind}
use Rattle.gaz_num.specs.declared.words.Reason.{Reason}
use Rattle.gaz_num.specs.declared.words.Table.{Table}
use Rattle.gaz_num.specs.declared.words.Table.TheVariants.{Codes}
use Rattle.gaz_num.specs.Pieces.{column}
use Rattle.gaz_num.specs.Check.{key_in}
use Rattle.gaz_plain.specs.Gazetteer.{Gazetteer, after_line, limit_of, table_of, is_delete, line_with}
use Rattle.gaz_page.specs.declared.tree_root.Root.{Root}
use Rattle.gaz_page.specs.Pages.{PagesView, SamePages}
use Rattle.gaz_leaf.specs.Node.{Pair, key_of}
use Rattle.gaz_tree.specs.Pairs.{lookup}
use Rattle.gaz_heap.specs.Place.{record_at, is_chain}
use Rattle.gaz_keys.specs.Lines.{IsKeyed, more_keys}
use Rattle.gaz_rows.specs.declared.fault.StepFault.{StepFault}
use Rattle.gaz_rows.specs.declared.fault.StepFault.TheVariants.{Malformed, Full, Failed, Damaged, Memory}
use Rattle.gaz_rows.specs.Laid.{IsLaid}
use Rattle.gaz_rows.specs.Index.{Slots, line_key}
use Rattle.gaz_rows.specs.Steps.{SameSlots, IsSlotOf, IsSlotFor, counted, recounted, line_put}
use Rattle.gaz_rows.specs.Store.{IsStore, IsStepFaultOf, StepFailsOnce}
use Rattle.gaz_rows.specs.Work.{ChangesFew, missing_in}
use Rattle.gaz_rows.specs.Change.{HasLeft}

-- The line is refused by its check, with this reason, exactly where there is one.
abbrev pub IsChecked : Option Reason → Result Unit StepFault → Type 0
IsChecked (Some reason) result = result ≡ Err (Malformed reason)
IsChecked None (Err (Malformed reason)) = ⊥
IsChecked None other = Unit

-- The line is taken, and the pages stand for the gazetteer after it.
abbrev pub HasSteppedTo : Gazetteer → Kind → List ℕ → PagesView → Root → Type 0
HasSteppedTo gaz kind line new now = (next : Gazetteer) × (after_line gaz kind line ≡ Ok next) × IsStore next new now

-- Pages that stand for a gazetteer stand after the step for the one after the line.
abbrev pub HasStepped : Kind → List ℕ → PagesView → Root → PagesView → Root → Type 0
HasStepped kind line old root new now = (gaz : Gazetteer) → IsStore gaz old root → HasSteppedTo gaz kind line new now

-- Over pages that stand for a gazetteer the fault is that of the definition, or no damage.
abbrev pub FailsRightly : Kind → List ℕ → PagesView → Root → StepFault → Type 0
FailsRightly kind line old root fault = (gaz : Gazetteer) → IsStore gaz old root → IsStepFaultOf (after_line gaz kind line) fault

-- After a refusal by its check or for want of room in the table the pages and the root are what they were. After other faults the store is to be
-- dropped.
abbrev pub IsRefused : PagesView → Root → PagesView → Root → Result Unit StepFault → Type 0
IsRefused old root new now (Err (Malformed reason)) = (IsTrue old.is_told → SamePages old new) × (new.changed ≡ old.changed) × (now ≡ root)
IsRefused old root new now (Err (Full table)) = (IsTrue old.is_told → SamePages old new) × (new.changed ≡ old.changed) × (now ≡ root)
IsRefused old root new now other = Unit

-- The pages and the root are what they were, and no page was changed.
pub record StandsStill (old : PagesView) (root : Root) (new : PagesView) (now : Root) : Type 0 where
  pub same : SamePages old new
  pub unchanged : new.changed ≡ old.changed
  pub root_same : now ≡ root

-- The table has already what a line puts there: this line, or none where it takes out. So it is with a comment.
abbrev pub HasAlready : Gazetteer → Kind → List ℕ → Type 0
HasAlready gaz kind line = (key : List ℕ) → key_in kind line ≡ Some key → line_with (table_of kind) key gaz ≡ line_put kind line

-- A line that changes nothing in the gazetteer for which the pages stand changes no page.
abbrev pub IsIdle : Kind → List ℕ → PagesView → Root → PagesView → Root → Type 0
IsIdle kind line old root new now = (gaz : Gazetteer) → IsStore gaz old root → HasAlready gaz kind line → StandsStill old root new now

-- how many pages change at most where a line takes the place of another: those of its record, of its key, and of the other keys that the two
-- don't share
abbrev pub most_between : Table → List ℕ → List ℕ → ℕ
most_between table was line =
    75 + 20 * (length (missing_in (more_keys table line) (more_keys table was)) + length (missing_in (more_keys table was) (more_keys table line)))

-- A line that takes the place of another changes so few pages.
abbrev pub ChangesBetween : Kind → List ℕ → PagesView → Root → PagesView → Type 0
ChangesBetween kind line old root new = (gaz : Gazetteer) → IsStore gaz old root → (key was : List ℕ) → key_in kind line ≡ Some key → is_delete kind ≡ false
    → line_with (table_of kind) key gaz ≡ Some was → new.changed ≤ old.changed + most_between (table_of kind) was line

-- A line that takes the place of another, and isn't longer, stands where that one stood, if that was no chain of pages.
abbrev pub StaysThere : Kind → List ℕ → PagesView → Root → PagesView → Type 0
StaysThere kind line old root new = (gaz : Gazetteer) (stands : IsStore gaz old root) (key was : List ℕ) → key_in kind line ≡ Some key → is_delete kind ≡ false
    → line_with (table_of kind) key gaz ≡ Some was → (place : ℕ) → lookup (key_of (line_key stands.slots (table_of kind) was)) stands.pairs ≡ Some place
    → (IsTrue (is_chain place) → ⊥) → length line ≤ length was → record_at new.page place ≡ Some line

-- The same of pages that are laid with a line at the place.
abbrev pub PutsInItsPlace : PagesView → Root → PagesView → ℕ → List ℕ → List ℕ → Type 0
PutsInItsPlace old root new place was line = (pairs : List Pair) (places : List ℕ) → IsLaid old root pairs (root.heap ∷ []) places → Contains places place
    → record_at old.page place ≡ Some was → (IsTrue (is_chain place) → ⊥) → length line ≤ length was → record_at new.page place ≡ Some line

-- An admin code that comes has then the least slot that no code with the same first bytes had.
abbrev pub TakesLeastSlot : Kind → List ℕ → PagesView → Root → PagesView → Root → Type 0
TakesLeastSlot kind line old root new now = (gaz next : Gazetteer) (stands : IsStore gaz old root) (after : IsStore next new now) (code : List ℕ) → table_of kind ≡ Codes
    → key_in kind line ≡ Some code → line_with Codes code gaz ≡ None → IsSlotFor stands.slots gaz code (after.slots code)

-- The table is full only where the line would be put there, and the root counts as many lines in it as it may hold.
abbrev pub IsFullBy : Kind → Root → StepFault → Type 0
IsFullBy kind root (Full table) = (is_delete kind ≡ false) × (table ≡ table_of kind) × (limit_of (table_of kind) ≤ counted root.counts (table_of kind))
IsFullBy kind root other = Unit

-- Memory of the pages is wanting from now on only where the answer says that memory is.
abbrev pub StepStarves : Bool → Bool → Result Unit StepFault → Type 0
StepStarves before now (Err Memory) = IsTrue before → IsTrue now
StepStarves before now other = now ≡ before

-- What a step costs: at most so many pages are changed, by a tree of a height of at most 6, which stays such a tree. The count of faults rises
-- by one where the pages failed, and else stands.
pub record StepCosts (most : ℕ) (old : PagesView) (root : Root) (new : PagesView) (now : Root) (result : Result Unit StepFault) : Type 0 where
  pub told : new.is_told ≡ old.is_told
  pub read_only : new.is_read_only ≡ old.is_read_only
  pub reads_grow : old.reads ≤ new.reads
  pub few : root.height ≤ 6 → ChangesFew most old new root now
  pub faults : StepFailsOnce old.faults new.faults result
  pub starved : StepStarves old.is_starved new.is_starved result

-- the root with other numbers of the tree, another page for new records and other counts at most
abbrev pub HasNewCounts : Root → Root → Type 0
HasNewCounts root now = now ≡ record root { top = now.top; height = now.height; heap = now.heap; counts = now.counts }

-- The root counts a table so.
abbrev pub HasCount : Table → ℕ → Root → Root → Type 0
HasCount table count root now = now.counts ≡ recounted root.counts table count

-- a line that stands in the store: at this place, with these bytes
pub record StandsAt (v : PagesView) (key : List ℕ) (pairs : List Pair) (place : ℕ) (line : List ℕ) : Type 0 where
  pub at : lookup (key_of key) pairs ≡ Some place
  pub record_is : record_at v.page place ≡ Some line

-- The fault of a line that comes is that its table is full, or memory is wanting where it isn't. Over pages with room that are laid so it is no damage.
abbrev pub ComesRightly : Table → Root → PagesView → StepFault → Type 0
ComesRightly table root v (Full other) = (other ≡ table) × (limit_of table ≤ counted root.counts table)
ComesRightly table root v (Malformed reason) = ⊥
ComesRightly table root v (Damaged page) = (pairs : List Pair) (places : List ℕ) → IsTrue v.is_told → IsLaid v root pairs (root.heap ∷ []) places → HasLeft v pairs → ⊥
ComesRightly table root v Memory = counted root.counts table < limit_of table
ComesRightly table root v Failed = Unit

-- The fault of a line that goes, or is replaced, is no damage over pages with room that are laid so and have the line in its place.
abbrev pub ChangesRightly : Table → Root → PagesView → ℕ → List ℕ → StepFault → Type 0
ChangesRightly table root v place was (Full other) = ⊥
ChangesRightly table root v place was (Malformed reason) = ⊥
ChangesRightly table root v place was (Damaged page) =
    (pairs : List Pair) (places : List ℕ) → IsTrue v.is_told → IsLaid v root pairs (root.heap ∷ []) places → HasLeft v pairs → Contains places place → IsKeyed table was
    → 1 ≤ counted root.counts table → ⊥
ChangesRightly table root v place was other = Unit

-- A key is found with its place and the record there, in the front of the buffer; or it is in none of the pairs.
abbrev pub IsFoundAt : List ℕ → PagesView → List Pair → List ℕ → Option (ℕ × ℕ) → Type 0
IsFoundAt key v pairs buf None = lookup (key_of key) pairs ≡ None
IsFoundAt key v pairs buf (Some found) = StandsAt v key pairs found.0 (take found.1 buf)

-- The key by which the place of a line's like stands, over pages that stand for a gazetteer: with these slots, of which a new code has a free one.
pub record IsKeyOver (gaz : Gazetteer) (slots : Slots) (kind : Kind) (line key : List ℕ) : Type 0 where
  pub now : Slots
  pub same : SameSlots gaz slots now
  pub slot : table_of kind ≡ Codes → IsSlotOf now gaz (column 1 line)
  pub chosen : table_of kind ≡ Codes → IsSlotFor slots gaz (column 1 line) (now (column 1 line))
  pub is : line_key now (table_of kind) line ≡ key

-- The fault is one of the pages or of memory, and no refusal.
abbrev pub IsOfPages : StepFault → Type 0
IsOfPages (Malformed reason) = ⊥
IsOfPages (Full table) = ⊥
IsOfPages other = Unit
