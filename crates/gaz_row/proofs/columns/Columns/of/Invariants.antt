use Rattle.gaz_row.proofs.WalkLemmas.{Walked}
use Rattle.gaz_row.proofs.columns.Columns.of.Given as goal

abbrev pub invariant-loop-place : goal.invariant-loop-place
invariant-loop-place l = Walked l.place l.texts l.rest l.line
