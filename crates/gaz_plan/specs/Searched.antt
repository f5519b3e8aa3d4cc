-- What a search and its parts promise over pages that stand for a gazetteer.
use Rattle.std.specs.Prelude.{◌≡◌, ◌<◌, ◌^◌, ℕ, Bool, true, false, ◌&&◌, List, [], ◌∷◌, length, take, Contains, Option, Some, None, Result, Ok, Err, IsTrue, if◌then◌else◌}
use Rattle.gaz_row.specs.Row.{id_of}
use Rattle.gaz_pick.specs.Asked.{Asked}
use Rattle.gaz_pick.specs.Match.{passes_all, pair_of}
use Rattle.gaz_pick.specs.Order.{Pair as Picked, with_pair}
use Rattle.gaz_plain.specs.Gazetteer.{Gazetteer}
use Rattle.gaz_page.specs.declared.tree_root.Root.{Root}
use Rattle.gaz_page.specs.Pages.{PagesView}
use Rattle.gaz_leaf.specs.Node.{Pair}
use Rattle.gaz_keys.specs.Lines.{id_at}
use Rattle.gaz_tree.specs.Pairs.{lookup}
use Rattle.gaz_scan.specs.declared.scan.Scan.{Scan}
use Rattle.gaz_scan.specs.Scan.{Comes}
use Rattle.gaz_rows.specs.declared.fault.AskFault.{AskFault}
use Rattle.gaz_rows.specs.declared.fault.AskFault.TheVariants.{Failed, Damaged, Memory}
use Rattle.gaz_rows.specs.Stands.{tag_in}
use Rattle.gaz_rows.specs.Store.{IsStore}
use Rattle.gaz_kin.specs.Over.{HasOnlyAsked}
use Rattle.gaz_plan.specs.declared.wanted.Test.{Test}
use Rattle.gaz_plan.specs.declared.walk.Way.{Way}
use Rattle.gaz_plan.specs.Wanted.{fits_other}
use Rattle.gaz_plan.specs.Seen.{SeesMore}
use Rattle.gaz_plan.specs.Ways.{number_at, fits_itself, stands_for}

-- what the pages answered where there is this fault: memory for names is none of theirs
abbrev pub fault_by_pages : AskFault → Result Unit AskFault
fault_by_pages Failed = Err Failed
fault_by_pages (Damaged page) = Err (Damaged page)
fault_by_pages Memory = Ok tt

-- what the pages answered
abbrev pub by_pages : {T : Type 0} → Result T AskFault → Result Unit AskFault
by_pages (Ok given) = Ok tt
by_pages (Err fault) = fault_by_pages fault

-- A search leaves the same pages, and what the pages answered has a cause.
abbrev pub HasSearched : {T : Type 0} → PagesView → PagesView → Result T AskFault → Type 0
HasSearched old new result = HasOnlyAsked old new (by_pages result)

-- Where the pages stand for a gazetteer, this holds of it if the key has this tag and this place.
abbrev pub OverKey : PagesView → Root → ℕ → ℕ → ℕ → (Gazetteer → Type 0) → Type 0
OverKey v root tag key place P = IsTrue v.is_told → (gaz : Gazetteer) → (stands : IsStore gaz v root) → lookup key stands.pairs ≡ Some place → tag_in key ≡ tag → P gaz

-- Where they do, this holds of it and of the pairs of the tree.
abbrev pub OverPairs : PagesView → Root → (Gazetteer → List Pair → Type 0) → Type 0
OverPairs v root P = IsTrue v.is_told → (gaz : Gazetteer) → (stands : IsStore gaz v root) → P gaz stands.pairs

-- The line is a row, with the id in the key.
pub record IsRowOf (gaz : Gazetteer) (key : ℕ) (line : List ℕ) : Type 0 where
  pub there : Contains gaz.rows line
  pub id : number_at 1 key ≡ id_of line

-- the pairs that are held after a row was tested
abbrev pub after_test : Bool → ℕ → Picked → List Picked → List Picked
after_test true keep pair old = take keep (with_pair pair old)
after_test false keep pair old = old

-- whether a row passes the tests of its columns, and nothing is asked of names or one of its own fits
abbrev pub takes_row : Asked → List ℕ → Bool
takes_row asked row = passes_all asked row && fits_itself asked row

-- the pairs that are held after the row that was found was tested by its columns, if one was
abbrev pub after_found : Asked → ℕ → Option (List ℕ) → List Picked → List Picked
after_found asked keep None old = old
after_found asked keep (Some row) old = after_test (passes_all asked row) keep (pair_of row) old

-- the place of which an alternate name is one, if there is one and it fits
abbrev pub place_named : Test → Option (List ℕ) → Option (List ℕ) → Option ℕ
place_named test lang None = None
place_named test lang (Some alternate) = if fits_other test lang alternate then Some (id_at 2 alternate) else None

-- The pairs are of those of the tree, their keys have the tag, and they are fewer than those of a tree may be.
pub record AreOf (tag : ℕ) (all pairs : List Pair) : Type 0 where
  pub found : (pair : Pair) → Contains pairs pair → lookup pair.key all ≡ Some pair.value
  pub tagged : (pair : Pair) → Contains pairs pair → tag_in pair.key ≡ tag
  pub few : length pairs < 2 ^ 30

-- Where the pages stand for a gazetteer, this holds of it and of such pairs that a scan has still to give.
abbrev pub OverTagged : PagesView → Root → Scan → ℕ → (Gazetteer → List Pair → Type 0) → Type 0
OverTagged v root scan tag P = IsTrue v.is_told → (gaz : Gazetteer) → (stands : IsStore gaz v root) → (left : List Pair) → Comes v.page scan left → AreOf tag stands.pairs left → P gaz left

-- The first of the pairs came, and the others are still to come.
pub record IsFirst (pages : ℕ → List ℕ) (scan : Scan) (left : List Pair) : Type 0 where
  pub pair : Pair
  pub rest : List Pair
  pub first : left ≡ pair ∷ rest
  pub comes : Comes pages scan rest

-- The rows for which the next key stands were seen; or none was left.
abbrev pub SeesNext : Gazetteer → Asked → Way → ℕ → (ℕ → List ℕ) → Scan → List Pair → List Picked → List Picked → Bool → Type 0
SeesNext gaz asked way keep pages scan left old new true = (next : IsFirst pages scan left) × SeesMore gaz asked keep (stands_for asked way next.pair.key) old new
SeesNext gaz asked way keep pages scan left old new false = (left ≡ []) × (new ≡ old)
