use Rattle.std.proofs.Common.{refl, ap}
use Rattle.std.specs.Result.{is_ok}
use Rattle.std.proofs.lemmas.Bool.{true≢false}
use Rattle.gaz_lines.proofs.cutter.LineCutter.next_shelf.Goals as goal

pub returns-in-Ok-None : goal.returns-in-Ok-None
returns-in-Ok-None g c =
    let e = c.in-Ok-None.ensures in (
      (refl, λ _. tt, record { gave = rw c.in-Ok-None.field-0-is at e.gave; reads = e.reads; waits = e.waits; waits_in_vain = tt }),
      record {
        after_borrow = tt;
        line = tt;
        past = λ is. absurd (true≢false (ap is_ok (e.past is)));
        rests = e.rests;
        same = e.same;
        numbers = e.numbers;
        blames = e.blames;
        cause = e.cause;
      },
    )
