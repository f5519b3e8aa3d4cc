use Rattle.std.proofs.Common.{◌≢◌, ℕ, ◌≤◌, Some}
use Rattle.gaz_outside.specs.Listed.{listed, name_at}
use Rattle.gaz_outside.proofs.mem_shelf.place_of.Given as goal

abbrev pub invariant-loop-place : goal.invariant-loop-place
invariant-loop-place l = (later : ℕ) → l.place ≤ later → name_at (listed l.files) later ≢ Some l.name
