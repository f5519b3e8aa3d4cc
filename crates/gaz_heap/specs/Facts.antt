-- What is supposed of pages that hold records, and what a put and a drop then make of the records.
use Rattle.std.specs.Prelude.{◌≡◌, ◌≢◌, ◌≤◌, ◌<◌, ◌+◌, ◌-◌, ◌^◌, ◌⊎◌, ℕ, true, false, IsTrue, List, length, Some, None, Result, Err, IsSome}
use Rattle.gaz_page.specs.declared.pages.PageFault.{PageFault}
use Rattle.gaz_page.specs.declared.pages.PageFault.TheVariants.{Damaged}
use Rattle.gaz_page.specs.Pages.{PagesView}
use Rattle.gaz_page.specs.Chains.{Each, Among, InUse, IsTakenSince, IsFreeChain, TakeMeets}
use Rattle.gaz_slots.specs.Overflow.{is_overflow_page}
use Rattle.gaz_slots.specs.RecordPage.{is_record_page, is_used, slot_record}
use Rattle.gaz_heap.specs.Place.{record_at, pages_of, page_of, slot_of, is_chain}
use Rattle.gaz_heap.specs.Heap.{HasNoRoom}

-- what is supposed of the pages: these are free, and the page for new records, if there is one, was taken once
pub record IsHeap (v : PagesView) (current : ℕ) (free : List ℕ) : Type 0 where
  pub least : 1 ≤ v.fresh
  pub chain : IsFreeChain v v.free free
  pub page : (current ≡ 0) ⊎ InUse v current

-- a place that is spoken of: it has this record, on pages that were taken once
pub record Holds (v : PagesView) (place : ℕ) (bytes : List ℕ) : Type 0 where
  pub at : record_at v.page place ≡ Some bytes
  pub pages : Each (InUse v) (pages_of v.page place)

-- two places share no page of a chain
abbrev pub ShareNone : PagesView → ℕ → ℕ → Type 0
ShareNone v one other = IsTrue (is_chain one) → IsTrue (is_chain other) → (n : ℕ) → Among (pages_of v.page one) n → Among (pages_of v.page other) n → ⊥

-- a place that is spoken of has its record still, on the same pages
pub record StillHolds (old new : PagesView) (place : ℕ) (bytes : List ℕ) : Type 0 where
  pub holds : Holds new place bytes
  pub pages : pages_of new.page place ≡ pages_of old.page place

-- a page that a record may be put into: the one for new records where it is in form, a free one, or one that was never taken
abbrev pub MayHold : PagesView → ℕ → List ℕ → ℕ → Type 0
MayHold v current free n = ((n ≡ current) × (is_record_page n (v.page n) ≡ true)) ⊎ (Among free n ⊎ (v.fresh ≤ n))

-- the page for new records is none, or a record page in form
abbrev pub IsForRecords : PagesView → ℕ → Type 0
IsForRecords v current = (current ≡ 0) ⊎ (is_record_page current (v.page current) ≡ true)

-- The record of a slot, where its page was taken once.
abbrev pub SlotStays : PagesView → PagesView → ℕ → Type 0
SlotStays old new place =
    (InUse old (page_of place) → record_at new.page place ≡ record_at old.page place) × ((InUse old (page_of place) → ⊥) → record_at new.page place ≡ None)

-- what a put makes of pages of which these were free; `now` is the page for new records after it
pub record Puts (old new : PagesView) (current now : ℕ) (free : List ℕ) (bytes : List ℕ) (place : ℕ) : Type 0 where
  -- the place has the record, and is none of those spoken of before
  pub holds : Holds new place bytes
  pub unlisted : (earlier : List ℕ) → Holds old place earlier → ⊥
  -- its pages were the one for new records, or free, or never taken
  pub owns : (n : ℕ) → Among (pages_of new.page place) n → MayHold old current free n
  -- all other places spoken of keep theirs
  pub others : (other : ℕ) (earlier : List ℕ) → Holds old other earlier → StillHolds old new other earlier
  pub apart : (other : ℕ) (earlier : List ℕ) → Holds old other earlier → ShareNone new place other
  -- what was supposed still holds, with fewer free pages
  pub left : List ℕ
  pub heap : IsHeap new now left
  pub fewer : (n : ℕ) → Among left n → Among free n
  pub taken : (n : ℕ) → Among free n ⊎ IsTakenSince old new n → Among left n ⊎ Among (pages_of new.page place) n
  -- at most 17 pages were taken
  pub grows : old.fresh ≤ new.fresh
  pub takes : length free + new.fresh ≤ length left + old.fresh + 17
  -- all pages but the place's stay
  pub stays : (n : ℕ) → (Among (pages_of new.page place) n → ⊥) → new.page n ≡ old.page n
  -- the used slots are those of before and that of the place
  pub slots : (other : ℕ) → (IsTrue (is_chain other) → ⊥) → other ≢ place → InUse new (page_of other) → SlotStays old new other
  -- the page for new records stays one, and where it was full it has another in its place
  pub records : IsForRecords old current → IsForRecords new now

-- A record was put into the page for new records: into its least free slot, and no page was taken for it.
pub record PutsThere (old new : PagesView) (current now place : ℕ) : Type 0 where
  pub page : page_of place ≡ current
  pub same : now ≡ current
  pub least : (slot : ℕ) → slot < slot_of place → IsTrue (is_used (old.page current) slot)
  pub free : new.free ≡ old.free
  pub fresh : new.fresh ≡ old.fresh

-- what a drop makes of pages of which these were free
pub record Drops (old new : PagesView) (current : ℕ) (free : List ℕ) (place : ℕ) : Type 0 where
  -- the place has no record
  pub gone : record_at new.page place ≡ None
  -- all other places spoken of keep theirs
  pub others : (other : ℕ) (earlier : List ℕ) → Holds old other earlier → other ≢ place → ShareNone old place other → StillHolds old new other earlier
  -- what was supposed still holds, with the pages that were given
  pub after : List ℕ
  pub heap : IsHeap new current after
  pub more : (n : ℕ) → Among free n → Among after n
  pub given : (n : ℕ) → Among after n → Among free n ⊎ Among (pages_of old.page place) n
  -- each page of the place that isn't the one for new records, and has no used slot left, is free
  pub emptied : (n : ℕ) → Among (pages_of old.page place) n → n ≢ current → (is_record_page n (new.page n) ≡ true → (slot : ℕ) → slot_record (new.page n) slot ≡ None) → Among after n
  -- a long record gives all its pages
  pub whole : IsTrue (is_chain place) → (n : ℕ) → Among (pages_of old.page place) n → Among after n
  -- all pages but the place's stay, and none is newly taken
  pub stays : (n : ℕ) → (Among (pages_of old.page place) n → ⊥) → new.page n ≡ old.page n
  pub fresh : new.fresh ≡ old.fresh
  -- the used slots are those of before without that of the place
  pub slots : (other : ℕ) → (IsTrue (is_chain other) → ⊥) → other ≢ place → record_at new.page other ≡ record_at old.page other
  -- the page for new records stays one
  pub records : IsForRecords old current → IsForRecords new current

-- what a record that is put in place of the one at a place makes of pages
pub record Replaces (old new : PagesView) (place : ℕ) (bytes : List ℕ) : Type 0 where
  -- the place is one of a slot, and has this record where it had another
  pub slotted : IsTrue (is_chain place) → ⊥
  pub had : IsSome (record_at old.page place)
  pub has : record_at new.page place ≡ Some bytes
  -- where it is spoken of, it is so still, as all other places
  pub holds : (earlier : List ℕ) → Holds old place earlier → Holds new place bytes
  pub others : (other : ℕ) (earlier : List ℕ) → Holds old other earlier → other ≢ place → StillHolds old new other earlier
  -- its page is a record page still, and all other pages stay
  pub pages : pages_of new.page place ≡ pages_of old.page place
  pub form : is_record_page (page_of place) (new.page (page_of place)) ≡ true
  pub stays : (n : ℕ) → n ≢ page_of place → new.page n ≡ old.page n
  -- each other place has the record that it had, and none where it had none
  pub rest : (other : ℕ) → other ≢ place → record_at new.page other ≡ record_at old.page other
  -- no page is taken or given, and what was supposed still holds
  pub first : new.free ≡ old.free
  pub fresh : new.fresh ≡ old.fresh
  pub heap : (current : ℕ) (free : List ℕ) → IsHeap old current free → IsHeap new current free
  -- the page for new records stays one
  pub records : (current : ℕ) → IsForRecords old current → IsForRecords new current

-- A record isn't put in place of the one at a place: the place stands for a chain, or the record is too long for a record page, or it is longer
-- than the one in the slot, and the page has no room for it even without that one and packed.
abbrev pub IsRefused : PagesView → ℕ → List ℕ → Type 0
IsRefused v place bytes = IsTrue (is_chain place) ⊎ ((4076 < length bytes) ⊎ HasNoRoom (page_of place) (slot_of place) bytes (v.page (page_of place)))

-- what was given by now of the pages of a chain, `whole`; these are left
pub record Given (old now : PagesView) (free whole left : List ℕ) : Type 0 where
  pub after : List ℕ
  pub fresh : now.fresh ≡ old.fresh
  pub chain : IsFreeChain now now.free after
  pub more : (n : ℕ) → Among free n → Among after n
  pub given : (n : ℕ) → Among after n → Among free n ⊎ Among whole n
  pub all : (n : ℕ) → Among whole n → Among after n ⊎ Among left n
  pub within : (n : ℕ) → Among left n → Among whole n
  pub stays : (n : ℕ) → (Among whole n → ⊥) → now.page n ≡ old.page n
  pub stand : (n : ℕ) → Among left n → now.page n ≡ old.page n

-- Pages are used up: fewer than 17 are free, and fewer than 18 were never taken.
abbrev pub IsUsedUp : PagesView → List ℕ → Type 0
IsUsedUp v free = (2 ^ 32 - 18 ≤ v.fresh) × (length free < 17)

-- the damage that a put names: the page for new records, where there is one and it isn't a record page in form, or 0 where pages are used up
abbrev pub PutFails : PagesView → ℕ → List ℕ → Result ℕ PageFault → Type 0
PutFails old current free (Err (Damaged page)) = ((page ≡ current) × (current ≢ 0) × (is_record_page current (old.page current) ≡ false)) ⊎ ((page ≡ 0) × IsUsedUp old free)
PutFails old current free _ = Unit

-- the same for a long record, whose pages are all taken
abbrev pub LongFails : PagesView → List ℕ → Result ℕ PageFault → Type 0
LongFails old free (Err (Damaged page)) = (page ≡ 0) × IsUsedUp old free
LongFails old free _ = Unit

-- the damage that a put of a long record names, whatever is supposed of the pages: what one of 17 takes meets
abbrev pub LongNames : PagesView → Result ℕ PageFault → Type 0
LongNames old (Err (Damaged page)) = TakeMeets 17 old page
LongNames old _ = Unit

-- The damage that a put names, whatever is supposed of the pages: the page for new records, where it isn't a record page in form and the record
-- is one for it, or what one of 17 takes meets.
abbrev pub PutNames : PagesView → ℕ → List ℕ → Result ℕ PageFault → Type 0
PutNames old current bytes (Err (Damaged page)) = ((length bytes ≤ 4076) × (page ≡ current) × (current ≢ 0) × (is_record_page current (old.page current) ≡ false)) ⊎ TakeMeets 17 old page
PutNames old current bytes _ = Unit

-- each page of the place is one of its kind: a record page in form of which the slot is used, or an overflow page in form
abbrev pub MayBeDropped : PagesView → ℕ → Type 0
MayBeDropped v place =
    (IsTrue (is_chain place) → Each (λ n. is_overflow_page n (v.page n) ≡ true) (pages_of v.page place))
    × ((IsTrue (is_chain place) → ⊥) → (is_record_page (page_of place) (v.page (page_of place)) ≡ true) × IsTrue (is_used (v.page (page_of place)) (slot_of place)))

-- what a drop of any place makes of pages, whatever is supposed of them: no page changes but those of the place
pub record DropsAny (old new : PagesView) (place : ℕ) : Type 0 where
  pub low : page_of place < 2 ^ 32
  pub was : MayBeDropped old place
  pub stays : (n : ℕ) → (Among (pages_of old.page place) n → ⊥) → new.page n ≡ old.page n
  pub fresh : new.fresh ≡ old.fresh
