-- What a look-up by a key, a scan and a look at the codes of a range find, of the tree and the records alone.
use Rattle.std.specs.Prelude.{◌≡◌, ◌≢◌, ◌<◌, ◌≤◌, ◌%◌, ◌^◌, suc, ◌∷◌, take, length, map, find, All, unwrap_or, count_by, Bool, true, ℕ, List, [], Option, Some, None, IsSome, IsTrue, Contains, bytes_eq, option_and_then, Result, Ok, Err, if◌then◌else◌}
use Rattle.gaz_num.specs.Pieces.{column}
use Rattle.gaz_num.specs.declared.words.Table.{Table}
use Rattle.gaz_plain.specs.Gazetteer.{Gazetteer, lines_in}
use Rattle.gaz_page.specs.declared.tree_root.Root.{Root}
use Rattle.gaz_page.specs.Pages.{PagesView}
use Rattle.gaz_heap.specs.Place.{record_at}
use Rattle.gaz_leaf.specs.Node.{Pair, key_of}
use Rattle.gaz_tree.specs.Pairs.{lookup}
use Rattle.gaz_tree.specs.Tree.{IsTop}
use Rattle.gaz_scan.specs.declared.scan.Scan.{Scan}
use Rattle.gaz_scan.specs.Scan.{Comes, IsGiven}
use Rattle.gaz_rows.specs.declared.fault.AskFault.{AskFault}
use Rattle.gaz_rows.specs.declared.fault.AskFault.TheVariants.{Failed}
use Rattle.gaz_rows.specs.declared.codes.Look.{Look}
use Rattle.gaz_rows.specs.declared.codes.Look.TheVariants.{Last, Other}
use Rattle.gaz_rows.specs.declared.codes.Look.TheVariants as look
use Rattle.gaz_rows.specs.declared.codes.Search.{Search}
use Rattle.gaz_rows.specs.declared.codes.Search.TheVariants.{Free}
use Rattle.gaz_rows.specs.declared.codes.Search.TheVariants as search
use Rattle.gaz_name.specs.Name.{first_bytes}
use Rattle.gaz_keys.specs.Keys.{IsKey}
use Rattle.gaz_keys.specs.Parts.{tag_of, has_place}
use Rattle.gaz_keys.specs.Lines.{key_at}
use Rattle.gaz_rows.specs.Store.{IsAnswer, IsSound, IsStoreBut}

-- what stands at the key: the record at the place that the tree has for it
abbrev pub record_of : List ℕ → PagesView → List Pair → Option (List ℕ)
record_of key v pairs = option_and_then (record_at v.page) (lookup (key_of key) pairs)

-- A record stands at the place that the tree has for the key, if it has one.
abbrev pub HasRecord : List ℕ → PagesView → List Pair → Type 0
HasRecord key v pairs = (place : ℕ) → lookup (key_of key) pairs ≡ Some place → IsSome (record_at v.page place)

-- Where there is a tree, this holds of its pairs.
abbrev pub OverTree : PagesView → Root → (List Pair → Type 0) → Type 0
OverTree v root P = IsTrue v.is_told → (pairs : List Pair) → IsTop v.page root.height root.top pairs → P pairs

-- Where there is a tree, and a record at the place that it has for the key, this holds of the pairs.
abbrev pub OverRecord : List ℕ → PagesView → Root → (List Pair → Type 0) → Type 0
OverRecord key v root P =
    IsTrue v.is_told → (pairs : List Pair) → IsTop v.page root.height root.top pairs → HasRecord key v pairs → P pairs

-- The answer is this record, or none.
abbrev pub Finds : List ℕ → PagesView → Root → List ℕ → Option ℕ → Type 0
Finds key v root buf found = OverRecord key v root (λ pairs. IsAnswer (record_of key v pairs) buf found)

-- whether the first column of a line is the code
abbrev pub has_code : List ℕ → List ℕ → Bool
has_code code line = bytes_eq (column 1 line) code

-- a record whose first column is the code
abbrev pub if_coded : List ℕ → Option (List ℕ) → Option (List ℕ)
if_coded code None = None
if_coded code (Some line) = if has_code code line then Some line else None

-- The answer is this record if its first column is the code, or none.
abbrev pub FindsCoded : List ℕ → List ℕ → PagesView → Root → List ℕ → Option ℕ → Type 0
FindsCoded key code v root buf found = OverRecord key v root (λ pairs. IsAnswer (if_coded code (record_of key v pairs)) buf found)

-- The fault is no damage.
abbrev pub FailsSoundly : List ℕ → PagesView → Root → AskFault → Type 0
FailsSoundly key v root fault = OverRecord key v root (λ pairs. IsSound fault)

-- As `Gives` of a scan: the first pair to come is given; or none came any more; or the pages failed, and what was to come comes still.
abbrev pub GivesNext : (ℕ → List ℕ) → (ℕ → List ℕ) → Scan → List Pair → Result (Option (List ℕ × ℕ)) AskFault → Type 0
GivesNext old new scan left (Ok None) = (left ≡ []) × Comes new scan []
GivesNext old new scan left (Ok (Some given)) = IsGiven new scan left given
GivesNext old new scan left (Err Failed) = Comes old scan left
GivesNext old new scan left (Err _) = ⊥

-- The key, which is of those whose value is a place, has this place in the tree.
pub record IsPlaceOf (v : PagesView) (root : Root) (key : List ℕ) (place : ℕ) : Type 0 where
  pub is_key : IsKey key
  pub placed : has_place (tag_of key) ≡ true
  pub pairs : List Pair
  pub top : IsTop v.page root.height root.top pairs
  pub at : lookup (key_of key) pairs ≡ Some place

-- A line of some table has the key, with some slot if it is an admin code.
pub record IsLineOf (gaz : Gazetteer) (key line : List ℕ) : Type 0 where
  pub table : Table
  pub slot : ℕ
  pub there : Contains (lines_in gaz table) line
  pub is : key_at table slot line ≡ key

-- Over pages that stand for a gazetteer this holds of it and of each key with the place.
abbrev pub OverPlace : PagesView → Root → ℕ → (Gazetteer → List ℕ → Type 0) → Type 0
OverPlace v root place P =
    IsTrue v.is_told → (waiting : List (List ℕ)) (gaz : Gazetteer) → IsStoreBut waiting gaz v root → (key : List ℕ) → IsPlaceOf v root key place → P gaz key

-- the records at the places of these pairs
abbrev pub records_of : (ℕ → List ℕ) → List Pair → List (List ℕ)
records_of pages pairs = map (λ pair. unwrap_or (record_at pages pair.value) []) pairs

-- A record stands at the place of each.
abbrev pub HaveRecords : (ℕ → List ℕ) → List Pair → Type 0
HaveRecords pages pairs = All (λ pair. IsSome (record_at pages pair.value)) pairs

-- the first of these records whose first column is the code
abbrev pub coded_in : List ℕ → (ℕ → List ℕ) → List Pair → Option (List ℕ)
coded_in code pages pairs = find (has_code code) (records_of pages pairs)

-- the slot in a key of an admin code that is a number
abbrev pub slot_in : ℕ → ℕ
slot_in key = key % 2 ^ 32

-- The slots of these pairs rise, from one that is at least so high.
abbrev pub SlotsRise : ℕ → List Pair → Type 0
SlotsRise low [] = Unit {0}
SlotsRise low (pair ∷ pairs) = (low ≤ slot_in pair.key) × SlotsRise (suc (slot_in pair.key)) pairs

-- One of the pairs has the slot, and this line stands at its place.
pub record StandsInSlot (pages : ℕ → List ℕ) (pairs : List Pair) (slot : ℕ) (line : List ℕ) : Type 0 where
  pub pair : Pair
  pub there : Contains pairs pair
  pub at : slot_in pair.key ≡ slot
  pub stands : record_at pages pair.value ≡ Some line

-- The slot has four bytes. Each lesser one is that of one of the pairs, and if their slots rise, none of them has this one.
pub record IsFreeIn (pairs : List Pair) (slot : ℕ) : Type 0 where
  pub small : slot < 2 ^ 32
  pub taken : (less : ℕ) → less < slot → (pair : Pair) × Contains pairs pair × (slot_in pair.key ≡ less)
  pub free : SlotsRise 0 pairs → (pair : Pair) → Contains pairs pair → slot_in pair.key ≢ slot

-- The first pair was given, which has this slot and whose line hasn't the code. The others are still to come.
pub record IsPassed (slot : ℕ) (code : List ℕ) (old new : ℕ → List ℕ) (scan : Scan) (left : List Pair) : Type 0 where
  pub pair : Pair
  pub rest : List Pair
  pub first : left ≡ pair ∷ rest
  pub at : slot_in pair.key ≡ slot
  pub comes : Comes new scan rest
  pub have : HaveRecords new rest
  pub same : coded_in code new rest ≡ coded_in code old left

-- What a look at the next pair comes to: none was left, the line with the code, or another line.
abbrev pub Looks : List ℕ → (ℕ → List ℕ) → (ℕ → List ℕ) → Scan → List ℕ → List Pair → Result Look AskFault → Type 0
Looks code old new scan buf left (Ok Last) = left ≡ []
Looks code old new scan buf left (Ok (look.Found slot size)) = (coded_in code old left ≡ Some (take size buf)) × StandsInSlot old left slot (take size buf)
Looks code old new scan buf left (Ok (Other slot)) = IsPassed slot code old new scan left
Looks code old new scan buf left (Err fault) = IsSound fault

-- A line that is found has at most 65,535 bytes.
abbrev pub IsShort : Look → Type 0
IsShort (look.Found slot size) = size ≤ 65535
IsShort other = Unit

-- What a search among pairs comes to: the line with the code, or the least free slot.
abbrev pub Searches : List ℕ → (ℕ → List ℕ) → List ℕ → List Pair → Search → Type 0
Searches code pages buf left (search.Found slot size) = (coded_in code pages left ≡ Some (take size buf)) × StandsInSlot pages left slot (take size buf)
Searches code pages buf left (Free slot) = (coded_in code pages left ≡ None) × IsFreeIn left slot

-- how many bytes the line with the code has, if there is one
abbrev pub size_found : Search → Option ℕ
size_found (search.Found slot size) = Some size
size_found (Free slot) = None

-- the slot of the code, or the free one
abbrev pub slot_found : Search → ℕ
slot_found (search.Found slot size) = slot
slot_found (Free slot) = slot

-- P holds of the pairs that a scan has still to give, where records stand at their places, and there are no more than so many.
abbrev pub OverRange : ℕ → PagesView → Scan → (List Pair → Type 0) → Type 0
OverRange most v scan P =
    IsTrue v.is_told → (left : List Pair) → Comes v.page scan left → HaveRecords v.page left → length left ≤ most → P left

-- how many codes have the same first bytes as this one
abbrev pub like_codes : Gazetteer → List ℕ → ℕ
like_codes gaz code = count_by (λ line. bytes_eq (first_bytes 23 (column 1 line)) (first_bytes 23 code)) gaz.codes
