-- Countries whose lines name a place, among the keys that a scan has still to give.
use Rattle.std.specs.Prelude.{◌≡◌, ℕ, Bool, true, false, List, [], ◌∷◌, ◌++◌, Some, Result, Ok, Err, IsTrue, Contains}
use Rattle.gaz_num.specs.Numbers.{id_in}
use Rattle.gaz_num.specs.Pieces.{column}
use Rattle.gaz_name.specs.Name.{first_bytes}
use Rattle.gaz_parent.specs.Parent.{is_this, names}
use Rattle.gaz_pick.specs.Order.{Pair as Picked}
use Rattle.gaz_plain.specs.Children.{SeesMore}
use Rattle.gaz_plain.specs.Gazetteer.{Gazetteer}
use Rattle.gaz_page.specs.declared.tree_root.Root.{Root}
use Rattle.gaz_page.specs.Pages.{PagesView}
use Rattle.gaz_leaf.specs.Node.{Pair, key_of}
use Rattle.gaz_tree.specs.Pairs.{lookup}
use Rattle.gaz_scan.specs.declared.scan.Scan.{Scan}
use Rattle.gaz_scan.specs.Scan.{Comes}
use Rattle.gaz_keys.specs.Keys.{country_key}
use Rattle.gaz_rows.specs.declared.fault.AskFault.{AskFault}
use Rattle.gaz_rows.specs.Stands.{tag_in}
use Rattle.gaz_rows.specs.Store.{IsStore, IsSound}
use Rattle.gaz_kin.specs.declared.below.Named.{Named}
use Rattle.gaz_kin.specs.declared.below.Named.TheVariants.{End, Place, Other}
use Rattle.gaz_kin.specs.Below.{IsBeginning}

-- The pairs are among those of the tree, and their keys are those of countries.
abbrev pub AreCountries : List Pair → List Pair → Type 0
AreCountries all pairs = (pair : Pair) → Contains pairs pair → (lookup pair.key all ≡ Some pair.value) × (tag_in pair.key ≡ 5)

-- Over pages that stand for a gazetteer this holds of it, and of the pairs of countries that a scan has still to give.
abbrev pub OverCountries : PagesView → Root → Scan → (Gazetteer → List Pair → Type 0) → Type 0
OverCountries v root scan P = IsTrue v.is_told → (gaz : Gazetteer) → (stands : IsStore gaz v root) → (left : List Pair) → Comes v.page scan left → AreCountries stands.pairs left → P gaz left

-- The first of the pairs that were to come is that of a country's line, of which this holds, and the others are still to come.
pub record IsNextCountry (gaz : Gazetteer) (pages : ℕ → List ℕ) (scan : Scan) (left : List Pair) (P : List ℕ → Type 0) : Type 0 where
  pub pair : Pair
  pub rest : List Pair
  pub first : left ≡ pair ∷ rest
  pub comes : Comes pages scan rest
  pub line : List ℕ
  pub there : Contains gaz.countries line
  pub at : pair.key ≡ key_of (country_key (first_bytes 4 (column 1 line)))
  pub has : P line

-- What a look at the next country comes to: none was left, it names the place, or it doesn't.
abbrev pub LooksNamed : Gazetteer → ℕ → (ℕ → List ℕ) → Scan → List Pair → Result Named AskFault → Type 0
LooksNamed gaz id new scan left (Ok End) = left ≡ []
LooksNamed gaz id new scan left (Ok (Place beginning)) = IsNextCountry gaz new scan left (λ line. (is_this id (id_in (column 17 line)) ≡ true) × IsBeginning (column 1 line ++ 0 ∷ []) beginning)
LooksNamed gaz id new scan left (Ok Other) = IsNextCountry gaz new scan left (λ line. is_this id (id_in (column 17 line)) ≡ false)
LooksNamed gaz id new scan left (Err fault) = IsSound fault

-- The rows of the next country were seen, if its line names the place; or none was left.
abbrev pub SeesCountry : Gazetteer → ℕ → ℕ → (ℕ → List ℕ) → Scan → List Pair → List Picked → List Picked → Bool → Type 0
SeesCountry gaz id keep pages scan left old new true = (next : IsNextCountry gaz pages scan left (λ line. Unit {0})) × SeesMore gaz id keep (λ row. names (column 9 row) id next.line) old new
SeesCountry gaz id keep pages scan left old new false = (left ≡ []) × (new ≡ old)
