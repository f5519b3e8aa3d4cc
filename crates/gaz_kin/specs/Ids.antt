-- Ids in keys, and what a look at the next one comes to.
use Rattle.std.specs.Prelude.{◌≡◌, ◌/◌, ◌%◌, ◌^◌, ◌≤◌, ℕ, Bool, true, false, List, [], ◌∷◌, length, map, Option, Some, None, Result, Ok, Err, IsTrue}
use Rattle.gaz_plain.specs.Gazetteer.{Gazetteer}
use Rattle.gaz_page.specs.declared.tree_root.Root.{Root}
use Rattle.gaz_page.specs.Pages.{PagesView}
use Rattle.gaz_leaf.specs.Node.{Pair}
use Rattle.gaz_scan.specs.declared.scan.Scan.{Scan}
use Rattle.gaz_scan.specs.Scan.{Comes}
use Rattle.gaz_rows.specs.declared.fault.AskFault.{AskFault}
use Rattle.gaz_rows.specs.Store.{IsSound, IsStore}
use Rattle.gaz_kin.specs.declared.ids.Part.{Part}
use Rattle.gaz_kin.specs.declared.ids.Part.TheVariants.{Other, Last}
use Rattle.gaz_kin.specs.declared.ids.Look.{Look}
use Rattle.gaz_kin.specs.declared.ids.Look.TheVariants as look

-- the id in a key that is a number: behind the class of a link, or at the end
abbrev pub id_in_key : Part → ℕ → ℕ
id_in_key Other key = key / 2 ^ 176 % 2 ^ 32
id_in_key Last key = key % 2 ^ 32

-- the ids in the keys of pairs
abbrev pub ids_in : Part → List Pair → List ℕ
ids_in part pairs = map (λ pair. id_in_key part pair.key) pairs

-- The first of the pairs that were to come has this id, and the others are still to come.
pub record IsNext (part : Part) (pages : ℕ → List ℕ) (scan : Scan) (left : List Pair) (id : ℕ) : Type 0 where
  pub pair : Pair
  pub rest : List Pair
  pub first : left ≡ pair ∷ rest
  pub has : id_in_key part pair.key ≡ id
  pub comes : Comes pages scan rest

-- The id of the first pair that was to come, or none was left.
abbrev pub GivesId : Part → (ℕ → List ℕ) → Scan → List Pair → Result (Option ℕ) AskFault → Type 0
GivesId part new scan left (Ok None) = left ≡ []
GivesId part new scan left (Ok (Some id)) = IsNext part new scan left id
GivesId part new scan left (Err fault) = IsSound fault

-- The first id fits or doesn't, and the others are still to come.
pub record IsTested (part : Part) (fits : ℕ → Bool) (result : Bool) (pages : ℕ → List ℕ) (scan : Scan) (left : List Pair) (id : ℕ) : Type 0 where
  pub next : IsNext part pages scan left id
  pub test : fits id ≡ result

-- What a look at the next id comes to: none was left, it fits, or it doesn't.
abbrev pub Looks : Part → (ℕ → Bool) → (ℕ → List ℕ) → Scan → List Pair → Result Look AskFault → Type 0
Looks part fits new scan left (Ok look.End) = left ≡ []
Looks part fits new scan left (Ok (look.Fits id)) = IsTested part fits true new scan left id
Looks part fits new scan left (Ok (look.Passed id)) = IsTested part fits false new scan left id
Looks part fits new scan left (Err fault) = IsSound fault

-- Over pages that stand for a gazetteer this holds of it, and of the pairs that a scan has still to give, if they are no more than so many.
abbrev pub OverFew : ℕ → PagesView → Root → Scan → (Gazetteer → List Pair → Type 0) → Type 0
OverFew most v root scan P = IsTrue v.is_told → (gaz : Gazetteer) → IsStore gaz v root → (left : List Pair) → Comes v.page scan left → length left ≤ most → P gaz left
