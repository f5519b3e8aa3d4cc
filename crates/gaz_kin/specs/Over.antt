-- What holds over pages that stand for a gazetteer.
use Rattle.std.specs.Prelude.{ℕ, ◌*◌, ◌+◌, List, IsTrue, Result}
use Rattle.gaz_plain.specs.Gazetteer.{Gazetteer}
use Rattle.gaz_page.specs.declared.tree_root.Root.{Root}
use Rattle.gaz_page.specs.Pages.{PagesView}
use Rattle.gaz_leaf.specs.Node.{Pair}
use Rattle.gaz_scan.specs.declared.scan.Scan.{Scan}
use Rattle.gaz_scan.specs.Scan.{Comes, tree_of}
use Rattle.gaz_rows.specs.declared.fault.AskFault.{AskFault}
use Rattle.gaz_rows.specs.Store.{IsStore, HasAsked}

-- Where the pages stand for a gazetteer, this holds of it.
abbrev pub OverStore : PagesView → Root → (Gazetteer → Type 0) → Type 0
OverStore v root P = IsTrue v.is_told → (gaz : Gazetteer) → IsStore gaz v root → P gaz

-- Where they do, it holds of the gazetteer and of the pairs that a scan has still to give.
abbrev pub OverScan : PagesView → Root → Scan → (Gazetteer → List Pair → Type 0) → Type 0
OverScan v root scan P = IsTrue v.is_told → (gaz : Gazetteer) → IsStore gaz v root → (left : List Pair) → Comes v.page scan left → P gaz left

-- Questions leave the same pages, and the answer has a cause, however many pages were read.
abbrev pub HasOnlyAsked : {T : Type 0} → PagesView → PagesView → Result T AskFault → Type 0
HasOnlyAsked old new result = (most : ℕ) × HasAsked most old new result

-- how many pages are read for each key of a scan whose row is looked at
abbrev pub each_of : Scan → Root → ℕ
each_of scan root = 2 * (tree_of scan).height + (root.height + 17)
