use Rattle.std.proofs.Common.{◌≡◌, ◌≤◌, ◌+◌, ℕ, List, length, sym, ap, ◌∙◌, arith, subst}
use Rattle.std.specs.Prelude.{Option, Err}
use Rattle.gaz_page.specs.declared.pages.PageFault.{PageFault}
use Rattle.gaz_page.specs.declared.pages.PageFault.TheVariants.{Failed}
use Rattle.gaz_page.specs.Pages.{HasReads, NoMemory}
use Rattle.gaz_heap.specs.Heap.{GetsRecord}
use Rattle.gaz_heap.specs.Chain.{chain_at, long_enough}
use Rattle.gaz_heap.proofs.Chain.{behind_nothing}
use Rattle.gaz_heap.proofs.Pieces.{found_last, last_copied, last_short, end_of_chain, found_more, found_broken}
use Rattle.gaz_heap.proofs.Asked.{asked_none, asked_more, asked_ok, asked_damaged, asked_failed, page_read}
use Rattle.gaz_heap.proofs.heap.get_chain.Goals as goal

pub loop-turn-init : goal.loop-turn-init
loop-turn-init g c = record {
  rest = λ told. ap (λ (o : Option (List ℕ)). long_enough o) (sym (behind_nothing (chain_at 17 (g.P.Pages.view c.args.pages.now).page c.args.first)));
  asked = asked_none (g.P.Pages.view c.args.pages.now);
  keeps = g.met.P.Pages.keeps_same c.args.pages.now;
  at = omega arith;
}

pub loop-turn-preserved : goal.loop-turn-preserved
loop-turn-preserved g c =
    let i = c.loop-turn.invariant in
    let read = c.read.follows.holds-at-none in
    let e = c.in-More.ensures in
    record {
      rest = λ told. found_more c.loop-turn._turn (g.P.Pages.view c.args.pages.now).page c.loop-turn.page c.loop-turn.at c.in-More.next c.in-Ok.bytes.now c.loop-turn.buf c.copy_piece-piece.new.buf _ c.loop-turn-test.true (i.rest told)
          (page_read c.loop-turn._turn (g.P.Pages.view c.args.pages.now) (g.P.Pages.view c.loop-turn.pages) c.loop-turn.page c.in-Ok.bytes.now i.asked told c.in-Ok.ensures.bytes) e.0 e.1 e.2;
      asked = asked_more c.loop-turn._turn (g.P.Pages.view c.args.pages.now) (g.P.Pages.view c.loop-turn.pages) (g.P.Pages.view c.read.follows.lender-at-none) c.in-Ok.bytes i.asked (rw c.in-Ok.is at read.1);
      keeps = g.met.P.Pages.keeps_on c.args.pages.now c.loop-turn.pages c.read.follows.lender-at-none i.keeps read.0;
      at = e.0.within;
    }

pub copy_piece-piece-requires : goal.copy_piece-piece-requires
copy_piece-piece-requires g c = record { size = c.in-Ok.ensures.size; room = omega (arith, c.loop-turn.auto.buf, c.requires); at = c.loop-turn.invariant.at }

pub returns-in-Err : goal.returns-in-Err
returns-in-Err g c =
    let i = c.loop-turn.invariant in
    let failed = c.in-Err.ensures.failed in
    let is : c.read.result ≡ Err Failed = c.in-Err.is ∙ ap (λ (f : PageFault). Err f) failed in
    let read = c.read.follows.holds-at-none in
    let reads_ : HasReads {T = ℕ} 17 (g.P.Pages.view c.args.pages.now) (g.P.Pages.view c.read.follows.lender-at-none) (Err Failed) = asked_failed c.loop-turn._turn 17 (g.P.Pages.view c.args.pages.now) (g.P.Pages.view c.loop-turn.pages) (g.P.Pages.view c.read.follows.lender-at-none) i.asked (rw is at read.1) (omega (arith, c.loop-turn-test.true)) in
    record {
      shown = λ told. subst (λ (f : PageFault). GetsRecord (long_enough (chain_at 17 (g.P.Pages.view c.args.pages.now).page c.args.first)) c.loop-turn.buf (Err f)) (sym failed) tt;
      fits = tt;
      memory = subst NoMemory (sym failed) tt;
      reads = subst (λ (f : PageFault). HasReads {T = ℕ} 17 (g.P.Pages.view c.args.pages.now) (g.P.Pages.view c.read.follows.lender-at-none) (Err f)) (sym failed) reads_;
      keeps = g.met.P.Pages.keeps_on c.args.pages.now c.loop-turn.pages c.read.follows.lender-at-none i.keeps read.0;
    }

pub returns-then-at-n-le-SHORT : goal.returns-then-at-n-le-SHORT
returns-then-at-n-le-SHORT g c =
    let i = c.loop-turn.invariant in
    let read = c.read.follows.holds-at-none in
    let e = c.in-Last.ensures in
    let room : c.loop-turn.at + c.in-Last.n ≤ length c.copy_piece-piece.new.buf = omega (arith, e.0.within, c.copy_piece-piece.auto.buf, c.loop-turn.auto.buf, c.requires) in
    record {
      shown = λ told. last_short c.loop-turn.at c.in-Last.n c.copy_piece-piece.new.buf _ (found_last c.loop-turn._turn (g.P.Pages.view c.args.pages.now).page c.loop-turn.page c.loop-turn.at c.in-Last.n c.in-Ok.bytes.now c.loop-turn.buf c.copy_piece-piece.new.buf _ c.loop-turn-test.true (i.rest told) (page_read c.loop-turn._turn (g.P.Pages.view c.args.pages.now) (g.P.Pages.view c.loop-turn.pages) c.loop-turn.page c.in-Ok.bytes.now i.asked told c.in-Ok.ensures.bytes) e.0 e.1 room) c.if-at-n-le-SHORT.true room;
      fits = tt;
      memory = tt;
      reads = asked_damaged _ 17 (g.P.Pages.view c.args.pages.now) (g.P.Pages.view c.read.follows.lender-at-none) c.args.first (asked_more c.loop-turn._turn (g.P.Pages.view c.args.pages.now) (g.P.Pages.view c.loop-turn.pages) (g.P.Pages.view c.read.follows.lender-at-none) c.in-Ok.bytes i.asked (rw c.in-Ok.is at read.1)) (omega (arith, c.loop-turn-test.true));
      keeps = g.met.P.Pages.keeps_on c.args.pages.now c.loop-turn.pages c.read.follows.lender-at-none i.keeps read.0;
    }

pub returns-in-Last : goal.returns-in-Last
returns-in-Last g c =
    let i = c.loop-turn.invariant in
    let read = c.read.follows.holds-at-none in
    let e = c.in-Last.ensures in
    let room : c.loop-turn.at + c.in-Last.n ≤ length c.copy_piece-piece.new.buf = omega (arith, e.0.within, c.copy_piece-piece.auto.buf, c.loop-turn.auto.buf, c.requires) in
    record {
      shown = λ told. last_copied c.loop-turn.at c.in-Last.n c.copy_piece-piece.new.buf _ (found_last c.loop-turn._turn (g.P.Pages.view c.args.pages.now).page c.loop-turn.page c.loop-turn.at c.in-Last.n c.in-Ok.bytes.now c.loop-turn.buf c.copy_piece-piece.new.buf _ c.loop-turn-test.true (i.rest told) (page_read c.loop-turn._turn (g.P.Pages.view c.args.pages.now) (g.P.Pages.view c.loop-turn.pages) c.loop-turn.page c.in-Ok.bytes.now i.asked told c.in-Ok.ensures.bytes) e.0 e.1 room) c.if-at-n-le-SHORT.false e.0.within room;
      fits = e.0.within;
      memory = tt;
      reads = asked_ok _ 17 (g.P.Pages.view c.args.pages.now) (g.P.Pages.view c.read.follows.lender-at-none) _ (asked_more c.loop-turn._turn (g.P.Pages.view c.args.pages.now) (g.P.Pages.view c.loop-turn.pages) (g.P.Pages.view c.read.follows.lender-at-none) c.in-Ok.bytes i.asked (rw c.in-Ok.is at read.1)) (omega (arith, c.loop-turn-test.true));
      keeps = g.met.P.Pages.keeps_on c.args.pages.now c.loop-turn.pages c.read.follows.lender-at-none i.keeps read.0;
    }

pub returns-in-Broken : goal.returns-in-Broken
returns-in-Broken g c =
    let i = c.loop-turn.invariant in
    let read = c.read.follows.holds-at-none in
    record {
      shown = λ told. found_broken c.loop-turn._turn (g.P.Pages.view c.args.pages.now).page c.loop-turn.page c.loop-turn.at c.in-Ok.bytes.now c.loop-turn.buf _ c.loop-turn-test.true (i.rest told) (page_read c.loop-turn._turn (g.P.Pages.view c.args.pages.now) (g.P.Pages.view c.loop-turn.pages) c.loop-turn.page c.in-Ok.bytes.now i.asked told c.in-Ok.ensures.bytes) (omega (arith, i.at, c.loop-turn.auto.buf, c.requires)) c.in-Broken.ensures;
      fits = tt;
      memory = tt;
      reads = asked_damaged _ 17 (g.P.Pages.view c.args.pages.now) (g.P.Pages.view c.read.follows.lender-at-none) c.loop-turn.page (asked_more c.loop-turn._turn (g.P.Pages.view c.args.pages.now) (g.P.Pages.view c.loop-turn.pages) (g.P.Pages.view c.read.follows.lender-at-none) c.in-Ok.bytes i.asked (rw c.in-Ok.is at read.1)) (omega (arith, c.loop-turn-test.true));
      keeps = g.met.P.Pages.keeps_on c.args.pages.now c.loop-turn.pages c.read.follows.lender-at-none i.keeps read.0;
    }

pub returns : goal.returns
returns g c =
    let i = c.loop-turn.invariant in
    record {
      shown = λ told. end_of_chain c.loop-turn._turn (g.P.Pages.view c.args.pages.now).page c.loop-turn.page c.loop-turn.at c.loop-turn.buf _ (omega (arith, c.loop-turn-test.false)) (i.rest told);
      fits = tt;
      memory = tt;
      reads = asked_damaged c.loop-turn._turn 17 (g.P.Pages.view c.args.pages.now) (g.P.Pages.view c.loop-turn.pages) c.args.first i.asked (omega (arith, c.loop-turn.auto));
      keeps = i.keeps;
    }
