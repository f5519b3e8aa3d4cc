use Rattle.std.proofs.Common.{sym, subst, inr}
use Rattle.std.specs.Prelude.{IsSome}
use Rattle.gaz_trials.proofs.line_tests.lines_of_file.Goals as goal
use Rattle.gaz_trials.proofs.line_tests.lines_of_file.Goals.{in-Ok-Some-next_shelf+in_ok-extend_from_slice-in-Ok-Some-next_shelf, in-Err-TooLong+in_ok-extend_from_slice-in-Err-TooLong, in-Err-FileTooLong+in_ok-extend_from_slice-in-Err-FileTooLong}

pub loop-preserved : goal.loop-preserved
loop-preserved g c =
    let gave = c.next_shelf.follows.holds-at-none in
    let opened = subst IsSome (sym (c.next_shelf.ensures.numbers c.in-Ok-Some.file)) c.loop.invariant.opened in
    elim c.match-next_shelf.branch [
      | in-Ok-Some-next_shelf+in_ok-extend_from_slice-in-Ok-Some-next_shelf w ↦ record { reads = rw w.cutter-is (inr gave.reads); opened = opened; ended = rw w.cutter-is gave.gave.ended }
      | in-Err-TooLong+in_ok-extend_from_slice-in-Err-TooLong w ↦ record { reads = rw w.cutter-is (inr gave.reads); opened = opened; ended = rw w.cutter-is gave.gave.ended }
      | in-Err-FileTooLong+in_ok-extend_from_slice-in-Err-FileTooLong w ↦ record { reads = rw w.cutter-is (inr gave.reads); opened = opened; ended = rw w.cutter-is gave.gave.ended }
    ]
