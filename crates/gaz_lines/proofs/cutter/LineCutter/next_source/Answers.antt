use Rattle.std.proofs.Common.{refl, ap}
use Rattle.std.specs.Result.{is_ok}
use Rattle.std.proofs.lemmas.Bool.{true≢false}
use Rattle.gaz_lines.proofs.cutter.LineCutter.next_source.Goals as goal

pub returns-in-Ok-None : goal.returns-in-Ok-None
returns-in-Ok-None g c =
    let e = c.in-Ok-None.ensures in (
      (refl, λ _. tt, record { gave = rw c.in-Ok-None.field-0-is at e.gave; reads = e.reads }),
      record {
        after_borrow = tt;
        line = tt;
        waits = e.waits;
        waits_in_vain = tt;
        past = λ is. absurd (true≢false (ap is_ok (e.past is)));
        rests = e.rests;
        told = e.told;
        cause = e.cause;
      },
    )
