-- What a cutter does with what it holds, without reading.
use Rattle.std.specs.Prelude.{◌≡◌, ℕ, ◌+◌, ◌-◌, ◌<◌, ◌≤◌, ◌⊎◌, false, true, [], length, take, drop, slice_index, Option, Some, None, Result, Ok, Err}
use Rattle.gaz_lines.specs.Lines.{IsLine}
use Rattle.gaz_lines.specs.Window.{items, bytes_at, has_room}
use Rattle.gaz_lines.specs.declared.cutter.LineCutter.{LineCutter}
use Rattle.gaz_lines.specs.declared.window.Span.{Span}
use Rattle.gaz_lines.specs.declared.cutter.Step.{Step}
use Rattle.gaz_lines.specs.declared.cutter.Step.TheVariants.{Done, More}
use Rattle.gaz_lines.specs.declared.fault.LineFault.{LineFault}
use Rattle.gaz_lines.specs.declared.fault.LineFault.TheVariants.{TooLong, FileTooLong}

-- What a step leaves as it was.
pub record SameBut (old new : LineCutter) : Type 0 where
  pub line_limit : new.line_limit ≡ old.line_limit
  pub file_limit : new.file_limit ≡ old.file_limit
  pub ended : new.ended ≡ old.ended
  pub reads : new.reads ≡ old.reads

-- the line that was cut off is within the limit and stands there, or it is too long
abbrev pub Shows : ℕ → LineCutter → LineCutter → Result (Option Span) LineFault → Type 0
Shows size old new (Ok (Some span)) = (old.dropped ≡ 0) × (bytes_at new.window span ≡ Some (take size (items old.window))) × (size ≤ old.line_limit)
Shows size old new (Err (TooLong n)) = (n ≡ new.number) × (old.line_limit < old.dropped + size)
Shows size old new other = ⊥

-- A line was cut off what is held, with so many bytes behind it.
pub record CutOff (size ending : ℕ) (old new : LineCutter) (result : Result (Option Span) LineFault) : Type 0 where
  pub shows : Shows size old new result
  pub held : items new.window ≡ drop (size + ending) (items old.window)
  pub dropped : new.dropped ≡ 0
  pub allowed : old.allowed ≡ new.allowed + (old.dropped + (size + ending))
  pub number : new.number ≡ old.number + 1
  pub same : SameBut old new

-- There is room now, and what was held is held, or let go where it is longer than any line.
pub record MadeRoom (old new : LineCutter) (count : ℕ) : Type 0 where
  pub room : has_room new.window
  pub count_is : count ≡ length (items new.window)
  pub held : ((items new.window ≡ items old.window) × (new.dropped ≡ old.dropped))
      ⊎ ((items new.window ≡ []) × (new.dropped ≡ old.dropped + length (items old.window)))
  pub allowed : new.allowed ≡ old.allowed
  pub number : new.number ≡ old.number
  pub same : SameBut old new

-- The cutter found the end of a line at its LF or at the end of the text, or the file limit, or it has room for more.
abbrev pub Stepped : LineCutter → LineCutter → Step → Type 0
Stepped old new (More count) =
    IsLine (items old.window) × (old.dropped + length (items old.window) ≤ old.allowed) × (old.ended ≡ false) × MadeRoom old new count
Stepped old new (Done (Err FileTooLong)) =
    (new ≡ old) × IsLine (take (old.allowed - old.dropped) (items old.window)) × (old.allowed < old.dropped + length (items old.window))
Stepped old new (Done (Ok None)) = (new ≡ old) × (old.ended ≡ true) × (old.dropped ≡ 0) × (items old.window ≡ [])
Stepped old new (Done result) =
    ((size : ℕ) × IsLine (take size (items old.window)) × (size < length (items old.window)) × (slice_index (items old.window) size ≡ 10) × CutOff size 1 old new result)
    ⊎ (IsLine (items old.window) × (old.ended ≡ true) × (0 < old.dropped + length (items old.window)) × CutOff (length (items old.window)) 0 old new result)
