-- What a step does to the index: to the values of keys and the bytes at places, and to the pairs of the tree.
use Rattle.std.specs.Prelude.{◌≡◌, ◌≢◌, ◌<◌, ◌⊎◌, ◌+◌, ◌-◌, ◌^◌, ℕ, List, [], ◌∷◌, Option, Some, None, IsSome, is_some, IsTrue, false, bytes_eq, if◌then◌else◌, option_and_then, Contains}
use Rattle.gaz_num.specs.declared.words.Kind.{Kind}
use Rattle.gaz_num.specs.declared.words.Table.{Table}
use Rattle.gaz_num.specs.declared.words.Table.TheVariants.{Rows, Alternates, Links, Countries, Codes}
use Rattle.gaz_num.specs.Pieces.{column}
use Rattle.gaz_name.specs.Name.{first_bytes}
use Rattle.gaz_page.specs.declared.root.LineCounts.{LineCounts}
use Rattle.gaz_page.specs.declared.tree_root.Root.{Root}
use Rattle.gaz_page.specs.Pages.{PagesView}
use Rattle.gaz_heap.specs.Place.{record_at}
use Rattle.gaz_num.specs.Check.{reason_against, key_in}
use Rattle.gaz_plain.specs.Gazetteer.{Gazetteer, IsGazetteer, table_of, is_delete, is_one_line, lines_in, line_with}
use Rattle.gaz_leaf.specs.Node.{Pair, key_of}
use Rattle.gaz_tree.specs.Pairs.{Within, lookup, put}
use Rattle.gaz_keys.specs.Keys.{IsKey}
use Rattle.gaz_keys.specs.Lines.{more_keys}
use Rattle.gaz_rows.specs.Index.{Slots, line_key, line_keys, IsIndexed}
use Rattle.gaz_rows.specs.Stands.{value_in, places_in}
use Rattle.gaz_rows.specs.Laid.{IsLaid, all_but}
use Rattle.gaz_rows.specs.Work.{put_zeros, without_all, missing_in}
use Rattle.gaz_keys.specs.Parts.{tag_of, has_place}

-- the line that a line of a kind puts, and none where it only takes out
abbrev pub line_put : Kind → List ℕ → Option (List ℕ)
line_put kind line = if is_delete kind then None else Some line

-- the keys of a line, if there is one
abbrev pub keys_by : Slots → Table → Option (List ℕ) → List (List ℕ)
keys_by slots table None = []
keys_by slots table (Some line) = line_keys slots table line

-- its other keys, whose value is 0
abbrev pub more_by : Table → Option (List ℕ) → List (List ℕ)
more_by table None = []
more_by table (Some line) = more_keys table line

-- That line of that table is this one.
abbrev pub IsOne : Table → Option (List ℕ) → Table → List ℕ → Type 0
IsOne table one other line = (other ≡ table) × (one ≡ Some line)

-- In a table the one line, if there is one, has gone, and the other, if there is one, has come. All other lines are what they were.
pub record AreReplaced (gaz next : Gazetteer) (table : Table) (old new : Option (List ℕ)) : Type 0 where
  pub was : (line : List ℕ) → old ≡ Some line → Contains (lines_in gaz table) line
  pub came : (line : List ℕ) → new ≡ Some line → Contains (lines_in next table) line
  -- A line that is there is the new one, or was there and isn't the old one.
  pub before : (other : Table) (line : List ℕ) → Contains (lines_in next other) line
      → IsOne table new other line ⊎ (Contains (lines_in gaz other) line × (IsOne table old other line → ⊥))
  -- A line that was there is the old one, or is there still.
  pub after : (other : Table) (line : List ℕ) → Contains (lines_in gaz other) line → IsOne table old other line ⊎ Contains (lines_in next other) line
  -- A new line that was there is the old one.
  pub fresh : (line : List ℕ) → new ≡ Some line → Contains (lines_in gaz table) line → old ≡ Some line

-- how many lines a table has, by the counts of all
abbrev pub counted : LineCounts → Table → ℕ
counted counts Rows = counts.rows
counted counts Alternates = counts.alternates
counted counts Links = counts.links
counted counts Countries = counts.countries
counted counts Codes = counts.codes

-- the counts with so many lines of a table
abbrev pub recounted : LineCounts → Table → ℕ → LineCounts
recounted counts Rows n = record counts { rows = n }
recounted counts Alternates n = record counts { alternates = n }
recounted counts Links n = record counts { links = n }
recounted counts Countries n = record counts { countries = n }
recounted counts Codes n = record counts { codes = n }

-- one where there is a line, and none where there is none
abbrev pub one_if : Option (List ℕ) → ℕ
one_if line = if is_some line then 1 else 0

-- Slots agree on the codes of a gazetteer.
abbrev pub SameSlots : Gazetteer → Slots → Slots → Type 0
SameSlots gaz slots now = (line : List ℕ) → Contains gaz.codes line → now (column 1 line) ≡ slots (column 1 line)

-- the slots with this one for a code
abbrev pub slot_with : Slots → List ℕ → ℕ → Slots
slot_with slots code slot = λ text. if bytes_eq text code then slot else slots text

-- No code of the gazetteer with the same first bytes as this one has the slot.
abbrev pub IsFreeSlot : Slots → Gazetteer → List ℕ → ℕ → Type 0
IsFreeSlot slots gaz code slot = (line : List ℕ) → Contains gaz.codes line → first_bytes 23 (column 1 line) ≡ first_bytes 23 code → slots (column 1 line) ≢ slot

-- The slot of a code has four bytes, and no other code of the gazetteer with the same first bytes has it.
pub record IsSlotOf (slots : Slots) (gaz : Gazetteer) (code : List ℕ) : Type 0 where
  pub small : slots code < 2 ^ 32
  pub alone : (line : List ℕ) → Contains gaz.codes line → first_bytes 23 (column 1 line) ≡ first_bytes 23 code → slots (column 1 line) ≡ slots code → column 1 line ≡ code

-- The slot for a code: its own where the gazetteer has it, else the least of those that no code with the same first bytes has.
pub record IsSlotFor (slots : Slots) (gaz : Gazetteer) (code : List ℕ) (slot : ℕ) : Type 0 where
  pub own : (was : List ℕ) → line_with Codes code gaz ≡ Some was → slots code ≡ slot
  pub new : line_with Codes code gaz ≡ None → (slot < 2 ^ 32) × IsFreeSlot slots gaz code slot
  -- Each lesser one is that of some such code.
  pub least : line_with Codes code gaz ≡ None → (less : ℕ) → less < slot
      → (line : List ℕ) × Contains gaz.codes line × (first_bytes 23 (column 1 line) ≡ first_bytes 23 code) × (slots (column 1 line) ≡ less)

-- A key is that of one line alone.
abbrev pub KeysTell : Slots → Gazetteer → Type 0
KeysTell slots gaz = (table other : Table) (line another key : List ℕ) → Contains (lines_in gaz table) line → Contains (lines_in gaz other) another
    → Contains (line_keys slots table line) key → Contains (line_keys slots other another) key → (table ≡ other) × (line ≡ another)

-- The keys of lines have 32 bytes.
abbrev pub LineKeysFit : Slots → Gazetteer → Type 0
LineKeysFit slots gaz = (table : Table) (line key : List ℕ) → Contains (lines_in gaz table) line → Contains (line_keys slots table line) key → IsKey key

-- The values of keys once the keys of the old line have gone and those of the new one have come. `place` is where the new line stands.
pub record KeysStepped (slots : Slots) (table : Table) (old new : Option (List ℕ)) (place : ℕ) (value value_now : List ℕ → Option ℕ) : Type 0 where
  pub at : (line : List ℕ) → new ≡ Some line → value_now (line_key slots table line) ≡ Some place
  pub zeros : (key : List ℕ) → Contains (more_by table new) key → value_now key ≡ Some 0
  pub gone : (key : List ℕ) → Contains (keys_by slots table old) key → (Contains (keys_by slots table new) key → ⊥) → value_now key ≡ None
  pub others : (key : List ℕ) → IsKey key → (Contains (keys_by slots table old) key → ⊥) → (Contains (keys_by slots table new) key → ⊥) → value_now key ≡ value key

-- The bytes at places once the old line has gone and the new one stands at its place. The other lines stand where they stood.
pub record RecordsStepped (slots : Slots) (gaz : Gazetteer) (table : Table) (old new : Option (List ℕ)) (place : ℕ) (value : List ℕ → Option ℕ) (bytes bytes_now : ℕ → Option (List ℕ)) : Type 0 where
  pub there : (line : List ℕ) → new ≡ Some line → bytes_now place ≡ Some line
  pub others : (other : Table) (line : List ℕ) (stood : ℕ) → Contains (lines_in gaz other) line → (IsOne table old other line → ⊥) → value (line_key slots other line) ≡ Some stood → bytes_now stood ≡ bytes stood
  -- The new line stands at the place of no other line.
  pub alone : (other : Table) (line another : List ℕ) → Contains (lines_in gaz other) line → (IsOne table old other line → ⊥) → new ≡ Some another → value (line_key slots other line) ≡ Some place → ⊥

-- a key with its value as the tree has them
abbrev pub pair_at : List ℕ → ℕ → Pair
pair_at key value = record { key = key_of key; value = value }

-- The pairs after a step. Where it puts no line, all keys of the old one are taken out. Else the other keys that only the old line has are
-- taken out, the key with the place is put, and the other keys that only the new line has are put.
abbrev pub pairs_after : Slots → Table → Option (List ℕ) → Option (List ℕ) → ℕ → List Pair → List Pair
pairs_after slots table old None place pairs = without_all (keys_by slots table old) pairs
pairs_after slots table old (Some line) place pairs =
    put_zeros (missing_in (more_by table old) (more_keys table line))
    (put (pair_at (line_key slots table line) place)
    (without_all (missing_in (more_keys table line) (more_by table old)) pairs))

-- where a line stands, if there is one
abbrev pub place_by : Slots → Table → List Pair → Option (List ℕ) → Option ℕ
place_by slots table pairs one = option_and_then (λ line. lookup (key_of (line_key slots table line)) pairs) one

-- the places but this one, if there is one
abbrev pub but_old : Option ℕ → List ℕ → List ℕ
but_old None places = places
but_old (Some place) places = all_but place places

-- the places and that of a new line, if there is one
abbrev pub with_new : Option (List ℕ) → ℕ → List ℕ → List ℕ
with_new None place places = places
with_new (Some line) place places = place ∷ places

-- What the records of a step leave, where lines stood at these places beside the old one: the new line at its place, which is none of these,
-- and at these what stood there.
pub record RecordsLeft (new : Option (List ℕ)) (place : ℕ) (places : List ℕ) (bytes bytes_now : ℕ → Option (List ℕ)) : Type 0 where
  pub there : (line : List ℕ) → new ≡ Some line → bytes_now place ≡ Some line
  pub unlisted : (line : List ℕ) → new ≡ Some line → Contains places place → ⊥
  pub same : (stood : ℕ) → Contains places stood → bytes_now stood ≡ bytes stood

-- Lists have the same members.
pub record SameMembers (one other : List ℕ) : Type 0 where
  pub to : (place : ℕ) → Contains one place → Contains other place
  pub from : (place : ℕ) → Contains other place → Contains one place

-- the line that one of a kind with this key replaces, if there is one
abbrev pub old_by : Gazetteer → Kind → List ℕ → Option (List ℕ)
old_by gaz kind key = line_with (table_of kind) key gaz

-- the places of the lines but that one
abbrev pub other_places : Slots → Gazetteer → Kind → List ℕ → List Pair → List ℕ
other_places slots gaz kind key pairs = but_old (place_by slots (table_of kind) pairs (old_by gaz kind key)) (places_in pairs)

-- the pairs after a step with a line of a kind and its key, where it stands at this place if it is put
abbrev pub pairs_with : Slots → Gazetteer → Kind → List ℕ → List ℕ → ℕ → List Pair → List Pair
pairs_with slots gaz kind line key place pairs = pairs_after slots (table_of kind) (old_by gaz kind key) (line_put kind line) place pairs

-- A gazetteer with a date meets a line that its check accepts and that has a key. Pairs whose keys rise, and records, hold the gazetteer. Other
-- slots agree with its own on its codes, and a code that comes has one of them.
pub record MeetsLine (slots now : Slots) (gaz : Gazetteer) (kind : Kind) (line key : List ℕ) (pairs : List Pair) (bytes : ℕ → Option (List ℕ)) : Type 0 where
  pub is_gazetteer : IsGazetteer gaz
  pub dated : IsSome gaz.date
  pub one_line : IsTrue (is_one_line line)
  pub accepted : reason_against kind line ≡ None
  pub keyed : key_in kind line ≡ Some key
  pub rising : Within 0 (2 ^ 256) pairs
  pub held : IsIndexed slots gaz (value_in [] pairs) bytes
  pub same_slots : SameSlots gaz slots now
  pub slot : table_of kind ≡ Codes → IsSlotOf now gaz (column 1 line)

-- What the calls of a step leave: the date, the counts with one more line and one less, pages on which the pairs after the step are laid, with
-- records at the places of the other lines and of the new one, and these records.
pub record IsLeft (old new : PagesView) (root now : Root) (slots : Slots) (gaz : Gazetteer) (kind : Kind) (line key : List ℕ) (pairs : List Pair) (place : ℕ) : Type 0 where
  pub day : now.day ≡ root.day
  pub counts : now.counts ≡ recounted root.counts (table_of kind) (counted root.counts (table_of kind) + one_if (line_put kind line) - one_if (old_by gaz kind key))
  pub laid : IsLaid new now (pairs_with slots gaz kind line key place pairs) (now.heap ∷ []) (with_new (line_put kind line) place (other_places slots gaz kind key pairs))
  pub records : RecordsLeft (line_put kind line) place (other_places slots gaz kind key pairs) (record_at old.page) (record_at new.page)

-- No key of a list has a place.
abbrev pub ArePlaceless : List (List ℕ) → Type 0
ArePlaceless keys = (key : List ℕ) → Contains keys key → has_place (tag_of key) ≡ false

-- Lists of keys have the same members.
pub record SameKeys (one other : List (List ℕ)) : Type 0 where
  pub to : (key : List ℕ) → Contains one key → Contains other key
  pub from : (key : List ℕ) → Contains other key → Contains one key

-- These keys wait: those that waited, and these.
pub record AreGathered (waiting more now : List (List ℕ)) : Type 0 where
  pub to : (key : List ℕ) → Contains now key → Contains waiting key ⊎ Contains more key
  pub from : (key : List ℕ) → Contains waiting key → Contains now key
  pub come : (key : List ℕ) → Contains more key → Contains now key
