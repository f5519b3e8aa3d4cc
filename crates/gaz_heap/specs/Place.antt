-- Records by their places.
use Rattle.std.specs.Prelude.{◌/◌, ◌%◌, ℕ, Bool, nat_lt, ◌==◌, List, [], ◌∷◌, Option, None, if◌then◌else◌}
use Rattle.gaz_slots.specs.RecordPage.{record_in, shown_in}
use Rattle.gaz_heap.specs.Chain.{chain_at, chain_pages, long_enough}

-- A place is a page's number times 65,536 and a slot. Slot 65,535 is a chain that begins at the page.
abbrev pub page_of : ℕ → ℕ
page_of place = place / 65536

abbrev pub slot_of : ℕ → ℕ
slot_of place = place % 65536

abbrev pub is_chain : ℕ → Bool
is_chain place = slot_of place == 65535

-- the record at a place, or none
unfoldable pub record_at : (ℕ → List ℕ) → ℕ → Option (List ℕ)
record_at pages place =
    if nat_lt (page_of place) 4294967296
    then (if is_chain place then long_enough (chain_at 17 pages (page_of place)) else record_in (page_of place) (pages (page_of place)) (slot_of place))
    else None

-- The record that the pages show at a place, or none: of a record page only its header, its mark and the slot of the place are looked at.
-- Where there is a record, it is shown.
unfoldable pub shown_at : (ℕ → List ℕ) → ℕ → Option (List ℕ)
shown_at pages place =
    if nat_lt (page_of place) 4294967296
    then (if is_chain place then long_enough (chain_at 17 pages (page_of place)) else shown_in (page_of place) (pages (page_of place)) (slot_of place))
    else None

-- the pages on which it stands
unfoldable pub pages_of : (ℕ → List ℕ) → ℕ → List ℕ
pages_of pages place = if is_chain place then chain_pages 17 pages (page_of place) else page_of place ∷ []
