-- What the keys of names lead to: candidates, which are gathered, and the row of each is read once.
use Rattle.std.specs.Prelude.{◌≡◌, ◌⊎◌, ◌<◌, ◌≤◌, ◌+◌, ◌*◌, ℕ, Bool, true, false, not, ◌&&◌, ◌||◌, List, [], ◌∷◌, ◌++◌, length, filter, Contains, Option, Some, None, ◌==◌, slice_index, slice_index_or, if◌then◌else◌}
use Rattle.std.specs.List.{list_any, flat_map}
use Rattle.gaz_num.specs.declared.words.Table.TheVariants.{Alternates}
use Rattle.gaz_row.specs.Row.{id_of}
use Rattle.gaz_pick.specs.Asked.{Asked}
use Rattle.gaz_pick.specs.Order.{Pair as Picked}
use Rattle.gaz_plain.specs.Gazetteer.{Gazetteer, line_with}
use Rattle.gaz_leaf.specs.Node.{Pair}
use Rattle.gaz_rows.proofs.RoomPairs.{bytes_of}
use Rattle.gaz_scan.specs.declared.scan.Scan.{Scan}
use Rattle.gaz_plan.specs.declared.gather.Candidate.{Candidate}
use Rattle.gaz_plan.specs.Wanted.{wanted_of, fits_any}
use Rattle.gaz_plan.specs.Seen.{SeesMore}
use Rattle.gaz_plan.specs.Searched.{IsFirst, place_named}
use Rattle.gaz_plan.specs.Ways.{number_at, fits_itself}

-- ---- what keys lead to

-- whether a key of a name, as a number, is of an alternate name
abbrev pub is_alternate : ℕ → Bool
is_alternate key = slice_index (bytes_of key) 23 == 2

-- how many of these keys are
abbrev pub alternates_among : List Pair → ℕ
alternates_among pairs = length (filter (λ pair. is_alternate pair.key) pairs)

-- a place, which came by an alternate name that fits
abbrev pub by_alternate : Option ℕ → Option Candidate
by_alternate None = None
by_alternate (Some place) = Some (record { place = place; by_own = false })

-- What a key of a name leads to: the place of an alternate name that fits, or the row of whose own names it is one.
abbrev pub candidate_by : Gazetteer → Asked → ℕ → Option Candidate
candidate_by gaz asked key =
    if is_alternate key then by_alternate (place_named (wanted_of asked.name) asked.lang (line_with Alternates (number_at 28 key ∷ []) gaz)) else Some (record { place = number_at 24 key; by_own = true })

-- the candidate, if there is one
abbrev pub listed : Option Candidate → List Candidate
listed None = []
listed (Some candidate) = candidate ∷ []

-- what these keys lead to
abbrev pub candidates_of : Gazetteer → Asked → List Pair → List Candidate
candidates_of gaz asked pairs = flat_map (λ pair. listed (candidate_by gaz asked pair.key)) pairs

-- An alternate name that fits led to the candidate, unless it came by one of its own names.
abbrev pub IsLedTo : Gazetteer → Asked → Candidate → Type 0
IsLedTo gaz asked candidate = candidate.by_own ≡ false → fits_any (wanted_of asked.name) asked.lang candidate.place gaz.alternates ≡ true

abbrev pub AreLedTo : Gazetteer → Asked → List Candidate → Type 0
AreLedTo gaz asked candidates = (candidate : Candidate) → Contains candidates candidate → IsLedTo gaz asked candidate

-- ---- the rows of candidates

-- the row is that of the candidate; where this came by one of its own names, one of them fits
abbrev pub is_sought : Asked → Candidate → List ℕ → Bool
is_sought asked candidate row = candidate.place == id_of row && (not candidate.by_own || fits_itself asked row)

-- it is that of one of them
abbrev pub is_gathered : Asked → List Candidate → List ℕ → Bool
is_gathered asked candidates row = list_any (λ candidate. is_sought asked candidate row) candidates

-- these are the places of all of them
abbrev pub HavePlaces : List ℕ → List Candidate → Type 0
HavePlaces places candidates = (candidate : Candidate) → Contains candidates candidate → Contains places candidate.place

-- Where the keys are few enough to be gathered together, each row is read once, whatever keys lead to it, and each alternate name once: 23 pages
-- are enough for a line, and 12 for a key.
abbrev pub IsReadOnce : Gazetteer → Asked → List Pair → ℕ → ℕ → Type 0
IsReadOnce gaz asked pairs before after =
    length pairs ≤ 512 → (places : List ℕ) → HavePlaces places (candidates_of gaz asked pairs) → after ≤ before + 12 * (length pairs + 1) + 23 * (alternates_among pairs + length places)

-- Each place is no less than the one before, and where it is the same, one that came by an alternate name is before one that didn't.
abbrev pub StandsBehind : Candidate → Candidate → Type 0
StandsBehind first next = (first.place < next.place) ⊎ ((first.place ≡ next.place) × (next.by_own ≡ false → first.by_own ≡ false))

abbrev pub AreInOrder : List Candidate → Type 0
AreInOrder candidates = (k : ℕ) (d : Candidate) → k + 1 < length candidates → StandsBehind (slice_index_or candidates k d) (slice_index_or candidates (k + 1) d)

-- The one before this index is of the same place.
abbrev pub IsAgain : List Candidate → ℕ → Type 0
IsAgain candidates at = (0 < at) × ((k : ℕ) (d : Candidate) → k + 1 ≡ at → (slice_index_or candidates k d).place ≡ (slice_index_or candidates at d).place)

-- ---- how they are gathered

-- The candidate stands behind the others, or it stands alone after the rows of these were offered.
abbrev pub Joins : Gazetteer → Asked → ℕ → Candidate → List Candidate → List Candidate → List Picked → List Picked → Type 0
Joins gaz asked keep candidate before after old new =
    ((after ≡ before ++ candidate ∷ []) × (new ≡ old)) ⊎ ((after ≡ candidate ∷ []) × SeesMore gaz asked keep (is_gathered asked before) old new)

-- If there is one it does so, and else nothing changes.
abbrev pub JoinsIf : Gazetteer → Asked → ℕ → Option Candidate → List Candidate → List Candidate → List Picked → List Picked → Type 0
JoinsIf gaz asked keep None before after old new = (after ≡ before) × (new ≡ old)
JoinsIf gaz asked keep (Some candidate) before after old new = Joins gaz asked keep candidate before after old new

-- What the first of the pairs leads to was gathered, while there was room without a row read.
pub record HasGathered (gaz : Gazetteer) (asked : Asked) (keep : ℕ) (pages : ℕ → List ℕ) (scan : Scan) (left : List Pair) (before after : List Candidate) (old new : List Picked) : Type 0 where
  pub next : IsFirst pages scan left
  pub joins : JoinsIf gaz asked keep (candidate_by gaz asked next.pair.key) before after old new
  pub room : length before < 512 → after ≡ before ++ listed (candidate_by gaz asked next.pair.key)

-- What the next key leads to was gathered; or none was left.
abbrev pub GathersNext : Gazetteer → Asked → ℕ → (ℕ → List ℕ) → Scan → List Pair → List Candidate → List Candidate → List Picked → List Picked → Bool → Type 0
GathersNext gaz asked keep pages scan left before after old new true = HasGathered gaz asked keep pages scan left before after old new
GathersNext gaz asked keep pages scan left before after old new false = (left ≡ []) × (after ≡ before) × (new ≡ old)
