use Rattle.std.proofs.Common.{ℕ, ◌<◌, IsSome}
use Rattle.gaz_outside.specs.OpenFiles.{name_in}
use Rattle.gaz_outside.proofs.open_files.OpenFiles.free_place.Given as goal

abbrev pub invariant-loop-place : goal.invariant-loop-place
invariant-loop-place g l = (earlier : ℕ) → earlier < l.place → IsSome (name_in l.self earlier)
