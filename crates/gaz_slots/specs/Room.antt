-- Whether a record page has room for one record more, once its records stand one behind the other.
use Rattle.std.specs.Prelude.{◌≤◌, ◌<◌, ◌+◌, ◌*◌, ◌-◌, ◌==◌, ℕ, zero, suc, List, if◌then◌else◌}
use Rattle.gaz_slots.specs.RecordPage.{all_below, count_in, from_in, size_in, is_used}

-- how many bytes of records a slot stands for
abbrev pub held_by : List ℕ → ℕ → ℕ
held_by page slot = if from_in page slot == 0 then 0 else size_in page slot

-- how many bytes the records of the first slots have together
abbrev pub held_below : ℕ → List ℕ → ℕ
held_below zero page = zero
held_below (suc slot) page = held_below slot page + held_by page slot

-- how many of the first slots there are up to the last used one
abbrev pub used_below : ℕ → List ℕ → ℕ
used_below zero page = zero
used_below (suc slot) page = if from_in page slot == 0 then used_below slot page else suc slot

-- how many slots there are up to the last used one of the page
abbrev pub last_used : List ℕ → ℕ
last_used page = used_below (count_in page) page

-- the slots that one record more needs: those up to the last used one, and a new one where each of them is used
abbrev pub slots_with_one : List ℕ → ℕ
slots_with_one page = if all_below (last_used page) (is_used page) then last_used page + 1 else last_used page

-- How many bytes the page takes with one record more, of n bytes, where all records stand one behind the other: its header, its slots
-- and its records.
unfoldable pub size_with : ℕ → List ℕ → ℕ
size_with n page = 16 + 4 * slots_with_one page + held_below (count_in page) page + n

-- a record of n bytes fits the page
abbrev pub Fits : ℕ → List ℕ → Type 0
Fits n page = size_with n page ≤ 4096

-- it doesn't, even where the page is packed
abbrev pub IsTooFull : ℕ → List ℕ → Type 0
IsTooFull n page = 4096 < size_with n page

-- How many bytes the page takes with a record of n bytes in place of the one of a slot, where all records stand one behind the other: its
-- header, its slots, its other records and this one.
unfoldable pub size_with_other : ℕ → ℕ → List ℕ → ℕ
size_with_other slot n page = 16 + 4 * last_used page + (held_below (count_in page) page - held_by page slot) + n

-- such a record doesn't fit, even where the page is packed
abbrev pub IsTooFullFor : ℕ → ℕ → List ℕ → Type 0
IsTooFullFor slot n page = 4096 < size_with_other slot n page
