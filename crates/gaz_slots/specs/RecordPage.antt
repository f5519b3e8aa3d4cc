-- A record page: a list of slots from its front, and records from its end towards them.
use Rattle.std.specs.Prelude.{ℕ, zero, suc, ◌+◌, ◌*◌, nat_lt, nat_le, Bool, true, not, ◌==◌, ◌&&◌, ◌||◌, List, length, slice_index, Option, None, if◌then◌else◌}
use Rattle.gaz_num.specs.Numbers.{some_if}
use Rattle.gaz_page.specs.Root.{number_at}
use Rattle.gaz_page.specs.Free.{short_at}
use Rattle.gaz_slots.specs.Bytes.{part}

-- the test holds at each number below n
abbrev pub all_below : ℕ → (ℕ → Bool) → Bool
all_below zero test = true
all_below (suc n) test = all_below n test && test n

-- how many slots the page has
abbrev pub count_in : List ℕ → ℕ
count_in page = short_at 2 page

-- the mark, where records begin
abbrev pub mark_in : List ℕ → ℕ
mark_in page = short_at 12 page

-- where the record of a slot begins, 0 where the slot is free
abbrev pub from_in : List ℕ → ℕ → ℕ
from_in page slot = short_at (16 + 4 * slot) page

-- how many bytes the record of a slot has
abbrev pub size_in : List ℕ → ℕ → ℕ
size_in page slot = short_at (18 + 4 * slot) page

-- kind 3, the page's own number, and zeros but for the count and the mark
abbrev pub has_record_head : ℕ → List ℕ → Bool
has_record_head number page =
    (length page == 4096) && (slice_index page 0 == 3) && (slice_index page 1 == 0) && (number_at 4 page == number)
    && (number_at 8 page == 0) && (short_at 14 page == 0)

-- the mark stands behind the slots and not past the page's end
abbrev pub has_mark : List ℕ → Bool
has_mark page = nat_le (16 + 4 * count_in page) (mark_in page) && nat_le (mark_in page) 4096

-- the slot is free, or its record stands between the mark and the page's end
abbrev pub is_within : List ℕ → ℕ → Bool
is_within page slot =
    (from_in page slot == 0) || (nat_le (mark_in page) (from_in page slot) && nat_le (from_in page slot + size_in page slot) 4096)

-- one of them is free, or their records don't overlap
abbrev pub is_apart : List ℕ → ℕ → ℕ → Bool
is_apart page one other =
    (from_in page one == 0) || (from_in page other == 0)
    || nat_le (from_in page one + size_in page one) (from_in page other) || nat_le (from_in page other + size_in page other) (from_in page one)

-- a record page in form, of this number
unfoldable pub is_record_page : ℕ → List ℕ → Bool
is_record_page number page =
    has_record_head number page && has_mark page && all_below (count_in page) (is_within page)
    && all_below (count_in page) (λ slot. all_below slot (is_apart page slot))

-- the slot has a record
abbrev pub is_used : List ℕ → ℕ → Bool
is_used page slot = nat_lt slot (count_in page) && not (from_in page slot == 0)

-- the record of a slot of a page with these bytes, or none
unfoldable pub slot_record : List ℕ → ℕ → Option (List ℕ)
slot_record page slot = some_if (is_used page slot) (part (from_in page slot) (size_in page slot) page)

-- the record of a slot of a record page in form, or none
unfoldable pub record_in : ℕ → List ℕ → ℕ → Option (List ℕ)
record_in number page slot = if is_record_page number page then slot_record page slot else None

-- The page shows a slot: its header and its mark are those of a record page of this number, and this slot is in form. The other slots
-- aren't looked at.
abbrev pub shows : ℕ → List ℕ → ℕ → Bool
shows number page slot = has_record_head number page && has_mark page && is_within page slot

-- the record that a page shows in a slot, or none
unfoldable pub shown_in : ℕ → List ℕ → ℕ → Option (List ℕ)
shown_in number page slot = if shows number page slot then slot_record page slot else None
