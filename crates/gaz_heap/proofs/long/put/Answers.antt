use Rattle.std.proofs.Common.{ℕ, Ok, Err}
use Rattle.std.specs.Prelude.{IfOk, Result}
use Rattle.gaz_page.specs.declared.pages.PageFault.{PageFault}
use Rattle.gaz_heap.proofs.UsedUp.{short_fails, long_fails}
use Rattle.gaz_heap.proofs.Passing.{short_names, long_names}
use Rattle.gaz_heap.proofs.long.put.Goals as goal

more_ok : (P Q : ℕ → Type 0) (r : Result ℕ PageFault) → ((n : ℕ) → P n → Q n) → IfOk r P → IfOk r Q
more_ok P Q (Ok n) more p = more n p
more_ok P Q (Err e) more p = tt

pub returns-clause-puts : goal.returns-clause-puts
returns-clause-puts g c = more_ok _ _ c.put_long.result (λ place puts told free heap. puts told c.args.current.now free heap) c.put_long.ensures.puts

pub returns-then-bytes-le-SHORT-clause-damaged : goal.returns-then-bytes-le-SHORT-clause-damaged
returns-then-bytes-le-SHORT-clause-damaged g c told free heap =
    short_fails (g.P.Pages.view c.args.pages.now) c.args.current.now free c.put_short.result heap (c.put_short.ensures.damaged told)

pub returns-clause-damaged : goal.returns-clause-damaged
returns-clause-damaged g c told free heap =
    long_fails (g.P.Pages.view c.args.pages.now) c.args.current.now free c.put_long.result (c.put_long.ensures.damaged told free heap.least heap.chain)

pub returns-then-bytes-le-SHORT-clause-there : goal.returns-then-bytes-le-SHORT-clause-there
returns-then-bytes-le-SHORT-clause-there g c = more_ok _ _ c.put_short.result (λ place there told _. there told) c.put_short.ensures.there

pub returns-then-bytes-le-SHORT-clause-named : goal.returns-then-bytes-le-SHORT-clause-named
returns-then-bytes-le-SHORT-clause-named g c told =
    short_names (g.P.Pages.view c.args.pages.now) c.args.current.now c.args.bytes.now c.put_short.result c.if-bytes-le-SHORT.true (c.put_short.ensures.damaged told)

pub returns-clause-named : goal.returns-clause-named
returns-clause-named g c told =
    long_names (g.P.Pages.view c.args.pages.now) c.args.current.now c.args.bytes.now c.put_long.result (c.put_long.ensures.named told)
