-- What a station tells, what each call does to it, and what a stop may leave of it.
use Rattle.std.specs.Prelude.{◌≡◌, ◌≢◌, ◌⊎◌, ℕ, ◌+◌, ◌-◌, ◌/◌, ◌<◌, ◌≤◌, max, Bool, IsTrue, List, ◌++◌, length, take, drop, replicate, slice_index}
use Rattle.gaz_outside.specs.declared.station.Area.{Area}
use Rattle.gaz_outside.specs.declared.station.Area.TheVariants.{Mark, Log, Root, Left, Right}

-- the areas in their order
abbrev pub area_place : Area → ℕ
area_place Mark = 0
area_place Log = 1
area_place Root = 2
area_place Left = 3
area_place Right = 4

-- what a stop leaves: the five areas, and the text that was printed
pub record Outcome : Type 0 where
  pub areas : Area → List ℕ
  pub text : List ℕ

-- what a station tells
pub record StationView : Type 1 where
  -- Whether it tells its bytes. It never changes.
  pub is_told : Bool
  -- what an area reads
  pub bytes : Area → List ℕ
  -- what a stop at this moment may leave of an area
  pub may_leave : Area → List ℕ → Type 0
  -- the text that was printed
  pub printed : List ℕ
  -- the moment, a number that never falls
  pub moment : ℕ
  -- what a stop at some moment from that one on might have left
  pub left_since : ℕ → Outcome → Type 0
  -- how often it failed
  pub faults : ℕ
  -- how many pieces were read
  pub reads : ℕ
  -- how many pieces were written
  pub writes : ℕ

-- The bytes of a file after these are put at an offset. A gap before them is filled with zeros.
abbrev pub overlaid : List ℕ → ℕ → List ℕ → List ℕ
overlaid file at bytes = take at (file ++ replicate (at - length file) 0) ++ bytes ++ drop (at + length bytes) file

-- after a write of n bytes that was cut short: any bytes in the range and past the old end, the same elsewhere
pub record Torn (at n : ℕ) (old new : List ℕ) : Type 0 where
  pub no_shorter : length old ≤ length new
  pub no_longer : length new ≤ max (length old) (at + n)
  pub same : (i : ℕ) → i < length old → (i < at) ⊎ (at + n ≤ i) → slice_index new i ≡ slice_index old i

-- what a stop at this moment may leave of all areas, and of the text
pub record Leaves (v : StationView) (c : Outcome) : Type 0 where
  pub areas : (a : Area) → v.may_leave a (c.areas a)
  pub text : c.text ≡ v.printed

-- a stop now leaves of this area what it reads
abbrev pub IsStable : StationView → Area → Type 0
IsStable v a = (c : List ℕ) → v.may_leave a c → c ≡ v.bytes a

-- Time goes on: a stop since t might have left what it might have left before, or what it may leave during the call.
pub record Elapses (old new : StationView) (during : Outcome → Type 0) : Type 0 where
  pub later : old.moment ≤ new.moment
  pub nothing_else : (t : ℕ) (c : Outcome) → t ≤ old.moment → new.left_since t c → old.left_since t c ⊎ during c
  pub keeps : (t : ℕ) (c : Outcome) → t ≤ old.moment → old.left_since t c → new.left_since t c

-- an area has its bytes still, and a stop leaves no more of it than before
pub record AreaStays (old new : StationView) (a : Area) : Type 0 where
  pub bytes : new.bytes a ≡ old.bytes a
  pub outcomes : (c : List ℕ) → new.may_leave a c → old.may_leave a c

-- what a stop leaves of each area is an outcome of v
abbrev pub LeavesAreas : StationView → Outcome → Type 0
LeavesAreas v c = (a : Area) → v.may_leave a (c.areas a)

-- Where bytes are told, every area stays, and a stop at no moment leaves more of the areas than before. No piece of them is
-- read or written.
pub record AreasStay (old new : StationView) : Type 0 where
  pub each : IsTrue old.is_told → (a : Area) → AreaStays old new a
  pub time : IsTrue old.is_told → Elapses old new (LeavesAreas old)
  pub unread : new.reads ≡ old.reads
  pub unwritten : new.writes ≡ old.writes

-- nothing that is told changes
pub record Stays (old new : StationView) : Type 0 where
  pub areas : (a : Area) → AreaStays old new a
  pub printed : new.printed ≡ old.printed
  pub time : Elapses old new (Leaves new)

-- at most this range of the area changes, and what is past its end
pub record Writes (area : Area) (at n : ℕ) (old new : StationView) : Type 0 where
  pub torn : Torn at n (old.bytes area) (new.bytes area)
  pub outcomes : (c : List ℕ) → new.may_leave area c → (d : List ℕ) × old.may_leave area d × Torn at n d c
  pub others : (a : Area) → a ≢ area → AreaStays old new a
  pub printed : new.printed ≡ old.printed
  pub time : Elapses old new (Leaves new)

-- the text with a front of the piece behind it
abbrev pub HasFrontOf : List ℕ → List ℕ → List ℕ → Type 0
HasFrontOf piece old new = (n : ℕ) × (n ≤ length piece) × (new ≡ old ++ take n piece)

-- what a stop inside a print leaves
pub record LeavesFront (piece : List ℕ) (old new : StationView) (c : Outcome) : Type 0 where
  pub areas : (a : Area) → new.may_leave a (c.areas a)
  pub text : HasFrontOf piece old.printed c.text

-- at most a front of the piece comes behind the text
pub record Appends (piece : List ℕ) (old new : StationView) : Type 0 where
  pub areas : (a : Area) → AreaStays old new a
  pub printed : HasFrontOf piece old.printed new.printed
  pub time : Elapses old new (LeavesFront piece old new)

-- how many pieces of 4,096 bytes, a last short one counted
abbrev pub pieces : ℕ → ℕ
pieces n = (n + 4095) / 4096

-- the counts, over calls that make at most so many reads and writes
pub record Counts (most_reads most_writes : ℕ) (old new : StationView) : Type 0 where
  pub told : new.is_told ≡ old.is_told
  pub reads_grow : old.reads ≤ new.reads
  pub reads : new.reads ≤ old.reads + most_reads
  pub writes_grow : old.writes ≤ new.writes
  pub writes : new.writes ≤ old.writes + most_writes

-- A stop at any moment since old leaves what has P.
pub record LeavesOnly (old new : StationView) (P : Outcome → Type 0) : Type 0 where
  pub later : old.moment ≤ new.moment
  pub each : (c : Outcome) → new.left_since old.moment c → P c
  -- for a run that began earlier
  pub before : (t : ℕ) (c : Outcome) → t ≤ old.moment → new.left_since t c → old.left_since t c ⊎ P c

-- What a stop leaves is, area by area, an outcome of v after a change by R.
pub record Near (R : Area → List ℕ → List ℕ → Type 0) (v : StationView) (c : Outcome) : Type 0 where
  pub areas : (a : Area) → (d : List ℕ) × v.may_leave a d × R a d (c.areas a)
  pub text : c.text ≡ v.printed

-- Calls that change each area by R at most, at every moment, and print nothing.
pub record Confined (R : Area → List ℕ → List ℕ → Type 0) (old new : StationView) : Type 0 where
  pub bytes : (a : Area) → R a (old.bytes a) (new.bytes a)
  pub outcomes : (a : Area) (c : List ℕ) → new.may_leave a c → (d : List ℕ) × old.may_leave a d × R a d c
  pub printed : new.printed ≡ old.printed
  pub moments : LeavesOnly old new (Near R old)

-- a change of one area alone
abbrev pub OnlyIn : Area → (List ℕ → List ℕ → Type 0) → Area → List ℕ → List ℕ → Type 0
OnlyIn area S a d c = (a ≡ area → S d c) × (a ≢ area → c ≡ d)

-- a change of two areas alone, by a write of each that may be cut short
abbrev pub TornInTwo : Area → ℕ → ℕ → Area → ℕ → ℕ → Area → List ℕ → List ℕ → Type 0
TornInTwo first at n second from m a d c = (a ≡ first → Torn at n d c) × (a ≡ second → Torn from m d c) × (a ≢ first → a ≢ second → c ≡ d)

-- any change of one area alone
abbrev pub AnyIn : Area → Area → List ℕ → List ℕ → Type 0
AnyIn area a d c = a ≢ area → c ≡ d

-- The next four say what a stop may leave at least. The trait asks for none of them; a station in memory promises them.
-- That a stop between two calls counts for all earlier moments is a law of each station: `counts_now`, and `keeps` of `Elapses`.

-- What a stop might have left of the area before, it may leave now.
abbrev pub StillMayLeave : Area → StationView → StationView → Type 0
StillMayLeave a old new = (c : List ℕ) → old.may_leave a c → new.may_leave a c

-- No outcome goes away.
abbrev pub KeepsOutcomes : StationView → StationView → Type 0
KeepsOutcomes old new = (a : Area) → StillMayLeave a old new

-- After a write each outcome of before, cut short in each way, is one of now. The other areas lose none.
pub record MayTear (area : Area) (at n : ℕ) (old new : StationView) : Type 0 where
  pub torn : (d c : List ℕ) → old.may_leave area d → Torn at n d c → new.may_leave area c
  pub others : (a : Area) → a ≢ area → StillMayLeave a old new

-- A stop inside a print may have left each front of the piece, and no outcome of the areas goes away.
pub record MayCut (piece : List ℕ) (old new : StationView) : Type 0 where
  pub fronts : (t : ℕ) (c : Outcome) → t ≤ old.moment → LeavesFront piece old old c → new.left_since t c
  pub areas : KeepsOutcomes old new
