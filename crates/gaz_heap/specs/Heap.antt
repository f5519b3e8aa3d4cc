-- What the calls on records do to the pages.
use Rattle.std.specs.Prelude.{if◌then◌else◌, ◌==◌, ◌≢◌, ◌<◌, ◌≡◌, ◌+◌, ◌⊎◌, ℕ, true, false, Bool, List, take, length, Option, None, Some, Result, Ok, Err, IfSome, IsTrue}
use Rattle.gaz_page.specs.Pages.{PagesView, SamePages, Gives, damage}
use Rattle.gaz_page.specs.Free.{free_link}
use Rattle.gaz_page.specs.declared.pages.PageFault.{PageFault}
use Rattle.gaz_page.specs.declared.pages.PageFault.TheVariants.{Failed, Damaged, Memory}
use Rattle.gaz_slots.specs.Bytes.{IsCopied}
use Rattle.gaz_slots.specs.RecordPage.{count_in, from_in, size_in, is_used, is_record_page, slot_record, record_in}
use Rattle.gaz_slots.specs.Room.{IsTooFull, IsTooFullFor}
use Rattle.gaz_slots.specs.Overflow.{is_overflow_page, next_in, piece_in}
use Rattle.gaz_slots.specs.Edited.{Filled, Cleared, Replaced}
use Rattle.gaz_page.specs.Chains.{Each, Among}
use Rattle.gaz_heap.specs.Chain.{chain_pages}
use Rattle.gaz_heap.specs.Place.{record_at}

-- The answer is the record, copied into the front of a buffer. Damage is answered exactly where there is none, and want of memory never.
abbrev pub GetsRecord : Option (List ℕ) → List ℕ → Result ℕ PageFault → Type 0
GetsRecord record_ buf (Ok n) = IsCopied n buf record_
GetsRecord record_ buf (Err (Damaged _)) = record_ ≡ None
GetsRecord record_ buf (Err Failed) = Unit
GetsRecord record_ buf (Err Memory) = ⊥

-- The record at a place is copied into the front of a buffer, where there is one. Where there is none, damage may be answered.
abbrev pub Gets : (ℕ → List ℕ) → ℕ → List ℕ → Result ℕ PageFault → Type 0
Gets pages place buf (Ok n) = IfSome (record_at pages place) (λ bytes. (n ≡ length bytes) × (take n buf ≡ bytes))
Gets pages place buf (Err (Damaged _)) = record_at pages place ≡ None
Gets pages place buf (Err Failed) = Unit
Gets pages place buf (Err Memory) = ⊥

-- the page has a used slot
abbrev pub HasUsed : List ℕ → Type 0
HasUsed page = (slot : ℕ) × (slot < count_in page) × (from_in page slot ≢ 0)

-- The record was put into the least free slot of a record page, and no other page changed.
pub record Stores (number slot : ℕ) (bytes : List ℕ) (old new : PagesView) : Type 0 where
  pub form : is_record_page number (old.page number) ≡ true
  pub filled : Filled number slot bytes (old.page number) (new.page number)
  pub least : (k : ℕ) → k < slot → IsTrue (is_used (old.page number) k)
  pub others : (n : ℕ) → n ≢ number → new.page n ≡ old.page n
  pub free : new.free ≡ old.free
  pub fresh : new.fresh ≡ old.fresh

-- the answer to a record for a page: its slot, none where it doesn't fit the page even packed, or a fault
abbrev pub StoresIn : ℕ → List ℕ → PagesView → PagesView → Result (Option ℕ) PageFault → Type 0
StoresIn number bytes old new (Ok (Some slot)) = Stores number slot bytes old new × (slot < 1020)
StoresIn number bytes old new (Ok None) = SamePages old new × (is_record_page number (old.page number) ≡ true) × HasUsed (old.page number) × IsTooFull (length bytes) (old.page number)
StoresIn number bytes old new (Err (Damaged page)) = (page ≡ number) × (is_record_page number (old.page number) ≡ false)
StoresIn number bytes old new (Err _) = Unit

-- The record stands alone in slot 0 of a page that was taken for it, and no other page changed.
pub record StoresNew (number : ℕ) (bytes : List ℕ) (old new : PagesView) : Type 0 where
  pub taken : number ≡ (if old.free == 0 then old.fresh else old.free)
  pub free : Some new.free ≡ (if old.free == 0 then Some 0 else free_link old.free (old.page old.free))
  pub fresh : new.fresh ≡ (if old.free == 0 then old.fresh + 1 else old.fresh)
  pub form : is_record_page number (new.page number) ≡ true
  pub there : slot_record (new.page number) 0 ≡ Some bytes
  pub alone : (slot : ℕ) → slot ≢ 0 → slot_record (new.page number) slot ≡ None
  pub others : (n : ℕ) → n ≢ number → new.page n ≡ old.page n

-- the answer to a record for a new page
abbrev pub StoresAlone : List ℕ → PagesView → PagesView → Result ℕ PageFault → Type 0
StoresAlone bytes old new (Ok number) = StoresNew number bytes old new
StoresAlone bytes old new (Err (Damaged page)) = damage old ≡ Some page
StoresAlone bytes old new (Err _) = Unit

-- Damage is answered only where a take meets it.
abbrev pub TakeDamage : PagesView → Result ℕ PageFault → Type 0
TakeDamage old (Err (Damaged page)) = damage old ≡ Some page
TakeDamage old _ = Unit

-- Damage is answered only where there is a page for new records that isn't a record page in form, or where a take meets it.
abbrev pub PutDamage : ℕ → PagesView → Result ℕ PageFault → Type 0
PutDamage current old (Err (Damaged page)) = ((page ≡ current) × (current ≢ 0) × (is_record_page current (old.page current) ≡ false)) ⊎ (damage old ≡ Some page)
PutDamage current old _ = Unit

-- A piece of a long record stands in a page that was taken for it, and no other page changed.
pub record StoresPiece (number next : ℕ) (piece : List ℕ) (old new : PagesView) : Type 0 where
  pub taken : number ≡ (if old.free == 0 then old.fresh else old.free)
  pub free : Some new.free ≡ (if old.free == 0 then Some 0 else free_link old.free (old.page old.free))
  pub fresh : new.fresh ≡ (if old.free == 0 then old.fresh + 1 else old.fresh)
  pub form : is_overflow_page number (new.page number) ≡ true
  pub link : next_in (new.page number) ≡ next
  pub holds : piece_in (new.page number) ≡ piece
  pub others : (n : ℕ) → n ≢ number → new.page n ≡ old.page n

-- the answer to a piece for a new page
abbrev pub StoresPieceIn : ℕ → List ℕ → PagesView → PagesView → Result ℕ PageFault → Type 0
StoresPieceIn next piece old new (Ok number) = StoresPiece number next piece old new
StoresPieceIn next piece old new (Err (Damaged page)) = damage old ≡ Some page
StoresPieceIn next piece old new (Err _) = Unit

-- The slot of a record page was made free, and no other page changed.
pub record Clears (number slot : ℕ) (old new : PagesView) : Type 0 where
  pub form : is_record_page number (old.page number) ≡ true
  pub was_used : IsTrue (is_used (old.page number) slot)
  pub cleared : Cleared number slot (old.page number) (new.page number)
  pub others : (n : ℕ) → n ≢ number → new.page n ≡ old.page n
  pub free : new.free ≡ old.free
  pub fresh : new.fresh ≡ old.fresh

-- The only record of a record page was dropped with its page, and no other page changed.
pub record GivesLast (number slot : ℕ) (old new : PagesView) : Type 0 where
  pub form : is_record_page number (old.page number) ≡ true
  pub was_used : IsTrue (is_used (old.page number) slot)
  pub alone : (other : ℕ) → other ≢ slot → slot_record (old.page number) other ≡ None
  pub gives : Gives number old new

-- the answer to a drop of a slot: it is free, in a page that is to stay or has another record, or its page is
abbrev pub DropsSlot : ℕ → ℕ → Bool → PagesView → PagesView → Result Unit PageFault → Type 0
DropsSlot number slot stays old new (Ok _) = (Clears number slot old new × ((stays ≡ true) ⊎ HasUsed (new.page number))) ⊎ (GivesLast number slot old new × (stays ≡ false))
DropsSlot number slot stays old new (Err (Damaged page)) = (page ≡ number) × (record_in number (old.page number) slot ≡ None)
DropsSlot number slot stays old new (Err _) = Unit

-- the answer to a drop of a piece: its page is given, and the next one is answered
abbrev pub DropsPiece : ℕ → PagesView → PagesView → Result ℕ PageFault → Type 0
DropsPiece page old new (Ok next) = (is_overflow_page page (old.page page) ≡ true) × (next_in (old.page page) ≡ next) × Gives page old new
DropsPiece page old new (Err (Damaged damaged)) = (damaged ≡ page) × (is_overflow_page page (old.page page) ≡ false)
DropsPiece page old new (Err _) = Unit

-- Damage is answered only of a page without a record in the slot.
abbrev pub SlotDamage : {T : Type 0} → ℕ → ℕ → PagesView → Result T PageFault → Type 0
SlotDamage number slot old (Err (Damaged page)) = (page ≡ number) × (record_in number (old.page number) slot ≡ None)
SlotDamage number slot old _ = Unit

-- The slot of a record page has a record in place of the one that it had, and no other page changed.
pub record HasReplaced (number slot : ℕ) (bytes : List ℕ) (old new : PagesView) : Type 0 where
  pub form : is_record_page number (old.page number) ≡ true
  pub was_used : IsTrue (is_used (old.page number) slot)
  pub replaced : Replaced number slot bytes (old.page number) (new.page number)
  pub others : (n : ℕ) → n ≢ number → new.page n ≡ old.page n
  pub free : new.free ≡ old.free
  pub fresh : new.fresh ≡ old.fresh

-- The slot has a record, which is shorter than this one, and the page has no room for this one in place of it, even where it is packed.
pub record HasNoRoom (number slot : ℕ) (bytes page : List ℕ) : Type 0 where
  pub form : is_record_page number page ≡ true
  pub used : IsTrue (is_used page slot)
  pub longer : size_in page slot < length bytes
  pub full : IsTooFullFor slot (length bytes) page

-- the answer to a record for a slot that has one: it has this one, it stays as it was, or a fault
abbrev pub ReplacesSlot : ℕ → ℕ → List ℕ → PagesView → PagesView → Result Bool PageFault → Type 0
ReplacesSlot number slot bytes old new (Ok true) = HasReplaced number slot bytes old new
ReplacesSlot number slot bytes old new (Ok false) = SamePages old new × HasNoRoom number slot bytes (old.page number)
ReplacesSlot number slot bytes old new (Err (Damaged page)) = (page ≡ number) × (record_in number (old.page number) slot ≡ None)
ReplacesSlot number slot bytes old new (Err _) = Unit

-- Damage is answered only where there is no record.
abbrev pub DropDamage : {T : Type 0} → Option (List ℕ) → Result T PageFault → Type 0
DropDamage record_ (Err (Damaged _)) = record_ ≡ None
DropDamage record_ _ = Unit

-- The pages of a chain were overflow pages in form, and no other page changed.
pub record GivesAll (first : ℕ) (old new : PagesView) : Type 0 where
  pub forms : Each (λ n. is_overflow_page n (old.page n) ≡ true) (chain_pages 17 old.page first)
  pub stays : (n : ℕ) → (Among (chain_pages 17 old.page first) n → ⊥) → new.page n ≡ old.page n
  pub fresh : new.fresh ≡ old.fresh
