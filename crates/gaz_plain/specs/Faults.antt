-- When a step on plain lists fails.
use Rattle.std.specs.Prelude.{◌≡◌, ℕ, ◌<◌, ◌≤◌, Result, Err, IsOk}
use Rattle.gaz_plain.specs.declared.fault.PlainFault.{PlainFault}
use Rattle.gaz_plain.specs.declared.fault.PlainFault.TheVariants.{Malformed, Full, Memory}
use Rattle.gaz_num.specs.declared.words.Table.{Table}
use Rattle.gaz_plain.specs.Gazetteer.{Gazetteer, LineFault, malformed, full, limit_of}

-- The fault is that of the definition. Memory may be wanting only where the line would be taken.
abbrev pub IsFaultOf : Result Gazetteer LineFault → PlainFault → Type 0
IsFaultOf taken (Malformed reason) = taken ≡ Err (malformed reason)
IsFaultOf taken (Full table) = taken ≡ Err (full table)
IsFaultOf taken Memory = IsOk taken

-- The fault of a line that isn't put into its table, which would have this many lines with it: there are too many, or memory is
-- wanting where there aren't.
abbrev pub IsPutFault : Table → ℕ → PlainFault → Type 0
IsPutFault table count (Malformed reason) = ⊥
IsPutFault table count (Full passed) = (passed ≡ table) × (limit_of table < count)
IsPutFault table count Memory = count ≤ limit_of table
