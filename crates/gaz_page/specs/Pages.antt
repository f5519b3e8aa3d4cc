-- What pages tell, what each call does to them, and when it may fail.
use Rattle.std.specs.Prelude.{◌≡◌, ◌≢◌, ℕ, ◌+◌, ◌≤◌, Bool, ◌==◌, IsTrue, List, Option, Some, None, Result, Ok, Err, if◌then◌else◌}
use Rattle.std.specs.Option.{is_none}
use Rattle.gaz_num.specs.Counts.{RisesOnce}
use Rattle.gaz_num.specs.Numbers.{some_if}
use Rattle.gaz_page.specs.Free.{free_link}
use Rattle.gaz_page.specs.declared.pages.PageFault.{PageFault}
use Rattle.gaz_page.specs.declared.pages.PageFault.TheVariants.{Failed, Damaged, Memory}

-- what pages tell
pub record PagesView : Type 0 where
  -- Whether they tell their bytes. It never changes.
  pub is_told : Bool
  -- the bytes of each page
  pub page : ℕ → List ℕ
  -- the first free page, or 0
  pub free : ℕ
  -- the least page number that was never taken
  pub fresh : ℕ
  -- how often a call failed
  pub faults : ℕ
  -- Whether memory was wanting in some call. It stays so.
  pub is_starved : Bool
  -- how many pages were read
  pub reads : ℕ
  -- how many pages were changed
  pub changed : ℕ
  -- Whether they can't be changed. It never changes.
  pub is_read_only : Bool

-- the pages with these bytes in one of them
unfoldable pub with_page : ℕ → List ℕ → (ℕ → List ℕ) → ℕ → List ℕ
with_page number bytes pages n = if n == number then bytes else pages n

-- The count rises by one where the call failed, and else stands.
abbrev pub IsCounted : {T : Type 0} → ℕ → ℕ → Result T PageFault → Type 0
IsCounted before now (Err Failed) = RisesOnce before now
IsCounted before now _ = now ≡ before

-- The call failed.
abbrev pub IsFailed : {T : Type 0} → Result T PageFault → Type 0
IsFailed (Err Failed) = Unit
IsFailed _ = ⊥

-- P holds, unless the call failed.
abbrev pub UnlessFailed : {T : Type 0} → Result T PageFault → Type 0 → Type 0
UnlessFailed result P = (IsFailed result → ⊥) → P

-- Memory is wanting from now on where the call answers so, and else as it was.
abbrev pub IsStarvedBy : {T : Type 0} → Bool → Bool → Result T PageFault → Type 0
IsStarvedBy before now (Err Memory) = IsTrue now
IsStarvedBy before now _ = now ≡ before

-- what a call leaves of the counts by which its answer has a cause: it failed only where the count of faults rose, and memory was
-- wanting only where the pages say so
pub record HasPageCause {T : Type 0} (old new : PagesView) (result : Result T PageFault) : Type 0 where
  pub grows : old.faults ≤ new.faults
  pub counted : IsCounted old.faults new.faults result
  pub starved : IsStarvedBy old.is_starved new.is_starved result

-- The counts of a call that may read so many pages and change so many. Pages that tell go on to tell, and pages that can't be
-- changed stay so.
pub record Counts (most_reads most_changed : ℕ) (old new : PagesView) : Type 0 where
  pub told : new.is_told ≡ old.is_told
  pub read_only : new.is_read_only ≡ old.is_read_only
  pub reads_grow : old.reads ≤ new.reads
  pub reads : new.reads ≤ old.reads + most_reads
  pub changed : new.changed ≤ old.changed + most_changed

-- the same pages, of which the same ones are free
pub record SamePages (old new : PagesView) : Type 0 where
  pub pages : new.page ≡ old.page
  pub free : new.free ≡ old.free
  pub fresh : new.fresh ≡ old.fresh

-- what calls leave that read so many pages at most, and change none
pub record HasReads {T : Type 0} (most : ℕ) (old new : PagesView) (result : Result T PageFault) : Type 0 where
  pub same : UnlessFailed result (IsTrue old.is_told → SamePages old new)
  pub counts : Counts most 0 old new
  pub unchanged : new.changed ≡ old.changed
  pub cause : HasPageCause old new result

-- what calls leave that read and change so many pages at most
pub record Costs {T : Type 0} (most_reads most_changed : ℕ) (old new : PagesView) (result : Result T PageFault) : Type 0 where
  pub counts : Counts most_reads most_changed old new
  pub cause : HasPageCause old new result

-- One page has these bytes, and the others have what they had.
pub record Writes (number : ℕ) (bytes : List ℕ) (old new : PagesView) : Type 0 where
  pub pages : new.page ≡ with_page number bytes old.page
  pub free : new.free ≡ old.free
  pub fresh : new.fresh ≡ old.fresh

-- The first free page is given, or where none is the least that was never taken. No other page changes.
pub record Takes (old new : PagesView) (number : ℕ) : Type 0 where
  pub first : number ≡ (if old.free == 0 then old.fresh else old.free)
  pub free : Some new.free ≡ (if old.free == 0 then Some 0 else free_link old.free (old.page old.free))
  pub fresh : new.fresh ≡ (if old.free == 0 then old.fresh + 1 else old.fresh)
  pub others : (n : ℕ) → n ≢ number → new.page n ≡ old.page n

-- The page is free and the first, and links to the one that was the first. No other page changes.
pub record Gives (number : ℕ) (old new : PagesView) : Type 0 where
  pub linked : free_link number (new.page number) ≡ Some old.free
  pub free : new.free ≡ number
  pub fresh : new.fresh ≡ old.fresh
  pub others : (n : ℕ) → n ≢ number → new.page n ≡ old.page n

-- the damage that a take meets: a first free page that isn't one in form, or 0 where no page is free and none is left
unfoldable pub damage : PagesView → Option ℕ
damage v =
    if v.free == 0 then some_if (v.fresh == 4294967295) 0
    else some_if (is_none (free_link v.free (v.page v.free))) v.free

-- Damage is answered exactly where there is some.
abbrev pub IsDamaged : {T : Type 0} → Option ℕ → Result T PageFault → Type 0
IsDamaged damage (Ok _) = damage ≡ None
IsDamaged damage (Err (Damaged page)) = damage ≡ Some page
IsDamaged damage (Err _) = Unit

-- The answer isn't damage.
abbrev pub NotDamaged : PageFault → Type 0
NotDamaged (Damaged _) = ⊥
NotDamaged _ = Unit

-- The answer isn't want of memory.
abbrev pub NoMemory : PageFault → Type 0
NoMemory Memory = ⊥
NoMemory _ = Unit
