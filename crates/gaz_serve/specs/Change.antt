-- What is told of a load or a day, in the program.
use Rattle.std.specs.Prelude.{List, [], ◌∷◌, Result, Ok, Err}
use Rattle.gaz_outside.specs.Outside.{ShelfView, SameFiles, FindsFiles, SameNumbers, NoneOpen}
use Rattle.gaz_num.specs.declared.words.FileName.{FileName}
use Rattle.gaz_num.specs.Refusal.{Refusal, not_loaded, sequence, absent, shelf, too_long, malformed, full, memory}
use Rattle.gaz_rows.specs.declared.fault.ChangeFault.{ChangeFault}
use Rattle.gaz_rows.specs.declared.fault.ChangeFault.TheVariants as change
use Rattle.gaz_serve.specs.declared.step.EndFault.{EndFault}
use Rattle.gaz_serve.specs.declared.step.EndFault.TheVariants.{Station, Damaged}

-- what is told of a change that is refused, or why the run ends there
abbrev pub told_by : ChangeFault → Result Refusal EndFault
told_by change.NotLoaded = Ok not_loaded
told_by (change.Sequence have) = Ok (sequence have)
told_by (change.Absent file) = Ok (absent file)
told_by (change.Shelf file) = Ok (shelf file)
told_by (change.TooLong file) = Ok (too_long file)
told_by (change.Malformed file line reason) = Ok (malformed file line reason)
told_by (change.Full file line table) = Ok (full file line table)
told_by change.Station = Err Station
told_by (change.Damaged page) = Err (Damaged page)
told_by change.Memory = Ok memory

-- Where files were to be opened, no number is open at the end, and the shelf may have found others. Else it is as it was.
abbrev pub Closes : List FileName → ShelfView → ShelfView → Type 0
Closes [] old new = SameNumbers old new × SameFiles old new
Closes (name ∷ names) old new = NoneOpen new × FindsFiles old new
