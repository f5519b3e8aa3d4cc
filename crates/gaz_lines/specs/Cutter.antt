-- What a cutter holds and still has to give, and what one call gives.
use Rattle.std.specs.Prelude.{◌≡◌, ℕ, ◌+◌, ◌<◌, ◌≤◌, ◌⊎◌, false, true, List, [], ◌∷◌, ◌++◌, length, take, Option, Some, None, option_map, IfSome, Result, Ok, Err}
use Rattle.std.specs.List.{repeat}
use Rattle.std.specs.Io.KnownBytes.{prepend_known}
use Rattle.gaz_outside.specs.Outside.{ShelfView, IsPrefix, RisesOnce}
use Rattle.gaz_lines.specs.Lines.{IsLine, Rest, rest_of, onto}
use Rattle.gaz_lines.specs.Window.{items}
use Rattle.gaz_lines.specs.Files.{place_in, left_at}
use Rattle.gaz_lines.specs.declared.cutter.LineCutter.{LineCutter}
use Rattle.gaz_lines.specs.declared.cutter.Reads.TheVariants.{Nothing, Source, File}
use Rattle.gaz_lines.specs.declared.fault.LineFault.{LineFault}
use Rattle.gaz_lines.specs.declared.fault.LineFault.TheVariants.{Failed, TooLong, FileTooLong}

-- the bytes that were taken and not given yet; those of a line too long that were let go read as 0
abbrev pub held : LineCutter → List ℕ
held cutter = repeat cutter.dropped (0 ∷ []) ++ items cutter.window

-- these, and then the bytes that are left
abbrev pub pending : LineCutter → Option (List ℕ) → Option (List ℕ)
pending cutter left = prepend_known (held cutter) left

-- what is still to be given, where the bytes that are left are told
abbrev pub rest : LineCutter → Option (List ℕ) → Option Rest
rest cutter left = option_map (rest_of cutter.line_limit cutter.allowed) (pending cutter left)

-- the most bytes of a line that is given
abbrev pub line_limit_of : LineCutter → ℕ
line_limit_of cutter = cutter.line_limit

-- the most bytes of a source or a file
abbrev pub file_limit_of : LineCutter → ℕ
file_limit_of cutter = cutter.file_limit

-- how many bytes of the file limit stand behind the lines that were given or refused
abbrev pub allowed_of : LineCutter → ℕ
allowed_of cutter = cutter.allowed

-- the number of the last line that was given or refused
abbrev pub line_of : LineCutter → ℕ
line_of cutter = cutter.number

-- What is held goes on past the file limit, and no LF ends a line within it.
abbrev pub IsPast : LineCutter → Type 0
IsPast cutter = IsLine (take cutter.allowed (held cutter)) × (cutter.allowed < length (held cutter))

-- The end of the source or the file was seen.
abbrev pub HasEnded : LineCutter → Type 0
HasEnded cutter = cutter.ended ≡ true

-- It read a source since `new` or the last `restart`, and no file.
abbrev pub ReadsSource : LineCutter → Type 0
ReadsSource cutter = cutter.reads ≡ Source

-- It read no file since `new` or the last `restart`.
abbrev pub MayReadSource : LineCutter → Type 0
MayReadSource cutter = (cutter.reads ≡ Nothing) ⊎ (cutter.reads ≡ Source)

-- how far the file was read that is read since `new` or the last `restart`
abbrev pub place_of : LineCutter → ℕ
place_of cutter = place_in cutter.reads

-- It read the file with this number since `new` or the last `restart`, and no other, and no source.
abbrev pub ReadsFile : LineCutter → ℕ → Type 0
ReadsFile cutter file = (at : ℕ) × (cutter.reads ≡ File file at)

-- It read no source and no file with another number since `new` or the last `restart`.
abbrev pub MayReadFile : LineCutter → ℕ → Type 0
MayReadFile cutter file = (cutter.reads ≡ Nothing) ⊎ ReadsFile cutter file

-- A line of what is pending goes, with its LF, or at the end, where it isn't empty.
pub record Cuts (at_end : Type 0) (line : List ℕ) (allowed allowed_now : ℕ) (old new : Option (List ℕ)) : Type 0 where
  pub is_line : IsLine line
  pub ends : ((old ≡ prepend_known (line ++ 10 ∷ []) new) × (allowed ≡ allowed_now + (length line + 1)))
      ⊎ ((old ≡ prepend_known line new) × IfSome new (λ bytes. bytes ≡ []) × (allowed ≡ allowed_now + length line) × (0 < length line) × at_end)

-- what was answered, as bytes
abbrev pub answer_of : {X : Type 0} → (X → List ℕ) → Result (Option X) LineFault → Result (Option (List ℕ)) LineFault
answer_of bytes (Ok (Some line)) = Ok (Some (bytes line))
answer_of bytes (Ok None) = Ok None
answer_of bytes (Err fault) = Err fault

-- The answer is what stands first in the rest, and goes from it. A failure leaves the rest as it was.
abbrev pub GivesFirst : Option Rest → Option Rest → Result (Option (List ℕ)) LineFault → Type 0
GivesFirst old new (Ok (Some line)) = old ≡ option_map (onto (Some line)) new
GivesFirst old new (Ok None) = (new ≡ old) × IfSome old (λ rest. rest ≡ record { lines = []; is_past = false })
GivesFirst old new (Err (TooLong n)) = old ≡ option_map (onto None) new
GivesFirst old new (Err FileTooLong) = (new ≡ old) × IfSome old (λ rest. rest ≡ record { lines = []; is_past = true })
GivesFirst old new (Err Failed) = new ≡ old

-- A line that is given has no LF, and goes with its LF, or at the end. It is within the limit, as its bytes are.
pub record GivesLine (at_end : Type 0) (limit allowed allowed_now : ℕ) (old new : Option (List ℕ)) (line : List ℕ) : Type 0 where
  pub within : length line ≤ limit
  pub cuts : Cuts at_end line allowed allowed_now old new

-- A line that is too long goes like any other.
pub record Refuses (at_end : Type 0) (limit allowed allowed_now : ℕ) (old new : Option (List ℕ)) : Type 0 where
  pub line : List ℕ
  pub too_long : limit < length line
  pub cuts : Cuts at_end line allowed allowed_now old new

-- What holds where a line is too long, and nothing where not.
abbrev pub OnTooLong : {X : Type 0} → Result X LineFault → Type 0 → Type 0
OnTooLong (Err (TooLong n)) P = P
OnTooLong other P = Unit {0}

-- The line that was given, if one was, is so.
abbrev pub IfLine : {X : Type 0} → (X → Type 0) → Result (Option X) LineFault → Type 0
IfLine P (Ok (Some line)) = P line
IfLine P other = Unit {0}

-- A line that is given or too long has the next number, and a failure, or an end, none.
abbrev pub Numbers : {X : Type 0} → ℕ → ℕ → Result (Option X) LineFault → Type 0
Numbers before now (Ok (Some line)) = now ≡ before + 1
Numbers before now (Err (TooLong n)) = (now ≡ before + 1) × (n ≡ now)
Numbers before now other = now ≡ before

-- Without a further line the end was seen, and past the file limit this is known of what is held.
abbrev pub Closes : {X : Type 0} → LineCutter → Result (Option X) LineFault → Type 0
Closes new (Ok None) = HasEnded new
Closes new (Err FileTooLong) = IsPast new
Closes new other = Unit {0}

-- Nothing was read since `new` or the last `restart`.
pub record IsFresh (cutter : LineCutter) : Type 0 where
  pub held : held cutter ≡ []
  pub allowed : cutter.allowed ≡ cutter.file_limit
  pub number : cutter.number ≡ 0
  pub ended : cutter.ended ≡ false
  pub reads : cutter.reads ≡ Nothing

-- What one call gave.
pub record Gave (old new : LineCutter) (left left_now : Option (List ℕ)) (answer : Result (Option (List ℕ)) LineFault) : Type 0 where
  pub gives : GivesFirst (rest old left) (rest new left_now) answer
  pub line : IfLine (GivesLine (HasEnded new) old.line_limit old.allowed new.allowed (pending old left) (pending new left_now)) answer
  pub refuses : OnTooLong answer (Refuses (HasEnded new) old.line_limit old.allowed new.allowed (pending old left) (pending new left_now))
  pub numbers : Numbers old.number new.number answer
  pub closes : Closes new answer
  -- After the end nothing is left, and it stays the end.
  pub still_ended : HasEnded old → HasEnded new
  pub ended : HasEnded new → IfSome left_now (λ bytes. bytes ≡ [])
  pub line_limit : new.line_limit ≡ old.line_limit
  pub file_limit : new.file_limit ≡ old.file_limit

-- The source was asked only where no LF was held within the limit, and gave at most so many bytes the last time.
pub record Waited (allowed room : ℕ) (holding : List ℕ) (old left : Option (List ℕ)) : Type 0 where
  -- what was read before the last time
  pub part : List ℕ
  pub is_line : IsLine part
  pub within : length part ≤ allowed
  pub holds : IsPrefix holding part
  -- what the source gave then
  pub chunk : List ℕ
  pub fits : length chunk ≤ room
  pub given : old ≡ prepend_known (part ++ chunk) left

-- What holds where the call failed, and nothing where not.
abbrev pub OnFailed : {X : Type 0} → Result X LineFault → Type 0 → Type 0
OnFailed (Err Failed) P = P
OnFailed other P = Unit {0}

-- The count of faults rises by one where the call failed, and else stands.
abbrev pub FailedOnce : {X : Type 0} → ℕ → ℕ → Result X LineFault → Type 0
FailedOnce before now (Err Failed) = RisesOnce before now
FailedOnce before now other = now ≡ before

-- The last fault's name is the file's where the call failed, and else the one before.
abbrev pub BlamesFile : {X : Type 0} → Option (List ℕ) → ShelfView → ShelfView → Result X LineFault → Type 0
BlamesFile name old new (Err Failed) = new.last_fault ≡ name
BlamesFile name old new other = new.last_fault ≡ old.last_fault

-- What one call gave of a source.
pub record GaveOfSource (old new : LineCutter) (left left_now : Option (List ℕ)) (answer : Result (Option (List ℕ)) LineFault) : Type 0 where
  pub gave : Gave old new left left_now answer
  pub reads : ReadsSource new

-- What one call gave of a file: its lines, whether the shelf wasn't called, and when it was read.
pub record GaveOfFile (uncalled : Type 0) (old new : LineCutter) (file : ℕ) (shelf shelf_now : ShelfView) (answer : Result (Option (List ℕ)) LineFault) : Type 0 where
  pub gave : Gave old new (left_at shelf file (place_of old)) (left_at shelf_now file (place_of new)) answer
  pub reads : ReadsFile new file
  pub waits : uncalled ⊎ Waited old.allowed 65536 (held old) (pending old (left_at shelf file (place_of old))) (left_at shelf_now file (place_of new))
  pub waits_in_vain : OnFailed answer (Waited old.allowed 0 (held old) (pending old (left_at shelf file (place_of old))) (left_at shelf_now file (place_of new)))
