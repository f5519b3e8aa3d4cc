-- What a change of one slot makes of a record page.
use Rattle.std.specs.Prelude.{◌≡◌, ◌≢◌, ◌<◌, ◌+◌, max, ℕ, true, List, ◌∷◌, [], ◌++◌, length, replicate, Some, None}
use Rattle.std.specs.Int.{w32, to_be_bytes}
use Rattle.gaz_slots.specs.RecordPage.{count_in, mark_in, from_in, size_in, is_record_page, slot_record}
use Rattle.gaz_slots.specs.Room.{held_below, last_used}

-- The slot has these bytes as its record, the other slots have what they had, and the page is in form.
pub record Placed (number slot : ℕ) (bytes old new : List ℕ) : Type 0 where
  pub form : is_record_page number new ≡ true
  pub there : slot_record new slot ≡ Some bytes
  pub others : (k : ℕ) → k ≢ slot → slot_record new k ≡ slot_record old k
  pub count : count_in new ≡ count_in old
  pub mark : mark_in new + length bytes ≡ mark_in old

-- The slot is free, the other slots have what they had, and the page is in form.
pub record Cleared (number slot : ℕ) (old new : List ℕ) : Type 0 where
  pub form : is_record_page number new ≡ true
  pub free : slot_record new slot ≡ None
  pub others : (k : ℕ) → k ≢ slot → slot_record new k ≡ slot_record old k
  pub count : count_in new ≡ count_in old
  pub mark : mark_in new ≡ mark_in old

-- There is one slot more, which is free, the others have what they had, and the page is in form.
pub record Added (number : ℕ) (old new : List ℕ) : Type 0 where
  pub form : is_record_page number new ≡ true
  pub free : from_in new (count_in old) ≡ 0
  pub records : (k : ℕ) → slot_record new k ≡ slot_record old k
  pub count : count_in new ≡ count_in old + 1
  pub mark : mark_in new ≡ mark_in old

-- bytes 0 to 15 of a record page without a slot: kind 3, its number, and the mark at the page's end
abbrev pub empty_head : ℕ → List ℕ
empty_head number = 3 ∷ 0 ∷ 0 ∷ 0 ∷ to_be_bytes w32 number ++ (0 ∷ 0 ∷ 0 ∷ 0 ∷ 16 ∷ 0 ∷ 0 ∷ 0 ∷ [])

-- a record page without a slot
unfoldable pub empty_page : ℕ → List ℕ
empty_page number = empty_head number ++ replicate 4080 0

-- The slot is there and free, as it was or as a new one behind the others. All records stay, and the page is in form.
pub record Opened (number slot : ℕ) (old new : List ℕ) : Type 0 where
  pub form : is_record_page number new ≡ true
  pub free : from_in new slot ≡ 0
  pub was_free : slot_record old slot ≡ None
  pub records : (k : ℕ) → slot_record new k ≡ slot_record old k
  pub count : count_in new ≡ max (count_in old) (slot + 1)
  pub mark : mark_in new ≡ mark_in old

-- A free slot, or a new one behind the others, has these bytes as its record. The others have what they had, and the page is in form.
pub record Filled (number slot : ℕ) (bytes old new : List ℕ) : Type 0 where
  pub form : is_record_page number new ≡ true
  pub there : slot_record new slot ≡ Some bytes
  pub was_free : slot_record old slot ≡ None
  pub others : (k : ℕ) → k ≢ slot → slot_record new k ≡ slot_record old k

-- the same, with the number of slots and where the records begin
pub record FilledExactly (number slot : ℕ) (bytes old new : List ℕ) : Type 0 where
  pub filled : Filled number slot bytes old new
  pub count : count_in new ≡ max (count_in old) (slot + 1)
  pub mark : mark_in new + length bytes ≡ mark_in old

-- A slot has these bytes as its record in place of the one that it had. The others have what they had, and the page is in form.
pub record Replaced (number slot : ℕ) (bytes old new : List ℕ) : Type 0 where
  pub form : is_record_page number new ≡ true
  pub there : slot_record new slot ≡ Some bytes
  pub others : (k : ℕ) → k ≢ slot → slot_record new k ≡ slot_record old k

-- the same, and each record stands where it stood
pub record Overwritten (number slot : ℕ) (bytes old new : List ℕ) : Type 0 where
  pub replaced : Replaced number slot bytes old new
  pub count : count_in new ≡ count_in old
  pub froms : (k : ℕ) → k < count_in old → from_in new k ≡ from_in old k
  pub size : size_in new slot ≡ length bytes
  pub sizes : (k : ℕ) → k < count_in old → k ≢ slot → size_in new k ≡ size_in old k

-- The same records stand in the same slots, one behind the other, there are no slots behind the last used one, and the page is in form.
pub record Packs (number : ℕ) (old new : List ℕ) : Type 0 where
  pub form : is_record_page number new ≡ true
  pub count : count_in new ≡ last_used old
  pub mark : mark_in new + held_below (count_in old) old ≡ 4096
  pub records : (k : ℕ) → slot_record new k ≡ slot_record old k

-- the first slots have the records that they have in another page, one behind the other, and there are no more slots
pub record PacksFirst (number slots : ℕ) (old new : List ℕ) : Type 0 where
  pub form : is_record_page number new ≡ true
  pub count : count_in new ≡ slots
  pub mark : mark_in new + held_below slots old ≡ 4096
  pub records : (k : ℕ) → k < slots → slot_record new k ≡ slot_record old k
