use Rattle.std.proofs.Common.{◌≡◌, drop}
use Rattle.gaz_num.specs.Pieces.{fields}
use Rattle.gaz_num.proofs.columns.skip_columns.Given as goal

abbrev pub invariant-loop : goal.invariant-loop
invariant-loop l = drop l.counter (fields l.line) ≡ fields l.rest
