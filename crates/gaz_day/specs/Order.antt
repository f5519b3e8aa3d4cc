-- Whether a day was refused for its date.
use Rattle.std.specs.Prelude.{⊤, Result, Err}
use Rattle.gaz_rows.specs.declared.fault.ChangeFault.{ChangeFault}
use Rattle.gaz_rows.specs.declared.fault.ChangeFault.TheVariants.{NotLoaded, Sequence}

-- The answer is no refusal for the date.
abbrev pub IsInOrder : Result Unit ChangeFault → Type 0
IsInOrder (Err NotLoaded) = ⊥
IsInOrder (Err (Sequence have)) = ⊥
IsInOrder other = ⊤
