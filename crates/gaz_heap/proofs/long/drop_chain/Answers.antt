use Rattle.std.proofs.Common.{arith}
use Rattle.gaz_heap.specs.Chain.{chain_pages}
use Rattle.gaz_heap.proofs.Asked.{told_still}
use Rattle.gaz_heap.proofs.Changed.{changed_none, changed_more}
use Rattle.gaz_heap.proofs.ChainDrops.{given_none, step_given, last_given_page}
use Rattle.gaz_heap.proofs.Walks.{walked_none, walked_more, walked_all, walked_past}
use Rattle.gaz_heap.proofs.AnyDrops.{chain_damage}
use Rattle.gaz_heap.proofs.long.drop_chain.Goals as goal

pub loop-turn-init : goal.loop-turn-init
loop-turn-init g c = record {
  changed = changed_none (g.P.Pages.view c.args.pages.now);
  keeps = g.met.P.Pages.keeps_same c.args.pages.now;
  walked = λ told. walked_none (g.P.Pages.view c.args.pages.now) c.args.first;
  given = λ told free bytes chain used there. (given_none (g.P.Pages.view c.args.pages.now) free (chain_pages 17 (g.P.Pages.view c.args.pages.now).page c.args.first) chain, (bytes, there));
}

pub loop-turn-preserved : goal.loop-turn-preserved
loop-turn-preserved g c =
    let i = c.loop-turn.invariant in
    record {
      changed = changed_more c.loop-turn._turn c.loop-turn._turn 1 1 (g.P.Pages.view c.args.pages.now) (g.P.Pages.view c.loop-turn.pages) (g.P.Pages.view c.drop_piece.new.pages) c.in-Ok.next i.changed (rw c.in-Ok.is at c.drop_piece.ensures.costs);
      keeps = g.met.P.Pages.keeps_on c.args.pages.now c.loop-turn.pages c.drop_piece.new.pages i.keeps c.drop_piece.ensures.keeps;
      walked = λ told.
          let d = c.in-Ok.ensures.drops (told_still (g.P.Pages.view c.args.pages.now) (g.P.Pages.view c.loop-turn.pages) i.changed.counts.told told) in
          walked_more (g.P.Pages.view c.args.pages.now) (g.P.Pages.view c.loop-turn.pages) (g.P.Pages.view c.drop_piece.new.pages) c.args.first c.loop-turn.page c.in-Ok.next c.loop-turn._turn (i.walked told) d.0 d.1 c.if-next-eq0.false d.2;
      given = λ told free bytes chain used there.
          let so_far = i.given told free bytes chain used there in
          let d = c.in-Ok.ensures.drops (told_still (g.P.Pages.view c.args.pages.now) (g.P.Pages.view c.loop-turn.pages) i.changed.counts.told told) in
          step_given c.loop-turn._turn (g.P.Pages.view c.args.pages.now) (g.P.Pages.view c.loop-turn.pages) (g.P.Pages.view c.drop_piece.new.pages) free (chain_pages 17 (g.P.Pages.view c.args.pages.now).page c.args.first) so_far.1.0 c.loop-turn.page c.in-Ok.next c.loop-turn-test.true so_far.0 so_far.1.1 d.0 d.1 d.2 used c.if-next-eq0.false;
    }

pub returns-then-next-eq0-clause-given : goal.returns-then-next-eq0-clause-given
returns-then-next-eq0-clause-given g c told free bytes chain used there =
    let i = c.loop-turn.invariant in
    let so_far = i.given told free bytes chain used there in
    let d = c.in-Ok.ensures.drops (told_still (g.P.Pages.view c.args.pages.now) (g.P.Pages.view c.loop-turn.pages) i.changed.counts.told told) in
    last_given_page c.loop-turn._turn (g.P.Pages.view c.args.pages.now) (g.P.Pages.view c.loop-turn.pages) (g.P.Pages.view c.drop_piece.new.pages) free (chain_pages 17 (g.P.Pages.view c.args.pages.now).page c.args.first) c.loop-turn.page c.in-Ok.next c.loop-turn-test.true so_far.0 d.0 d.1 d.2 used c.if-next-eq0.true

pub returns-then-next-eq0-clause-any : goal.returns-then-next-eq0-clause-any
returns-then-next-eq0-clause-any g c told =
    let i = c.loop-turn.invariant in
    let d = c.in-Ok.ensures.drops (told_still (g.P.Pages.view c.args.pages.now) (g.P.Pages.view c.loop-turn.pages) i.changed.counts.told told) in
    walked_all (g.P.Pages.view c.args.pages.now) (g.P.Pages.view c.loop-turn.pages) (g.P.Pages.view c.drop_piece.new.pages) c.args.first c.loop-turn.page c.in-Ok.next c.loop-turn._turn c.loop-turn-test.true (i.walked told) d.0 d.1 c.if-next-eq0.true d.2

pub returns-in-Err-clause-damaged : goal.returns-in-Err-clause-damaged
returns-in-Err-clause-damaged g c told =
    let i = c.loop-turn.invariant in
    let d = c.in-Err.ensures.drops (told_still (g.P.Pages.view c.args.pages.now) (g.P.Pages.view c.loop-turn.pages) i.changed.counts.told told) in
    chain_damage (g.P.Pages.view c.args.pages.now) (g.P.Pages.view c.loop-turn.pages) (g.P.Pages.view c.drop_piece.new.pages) c.args.first c.loop-turn.page c.loop-turn._turn c.in-Err.fault c.loop-turn-test.true (i.walked told) d

pub returns-clause-damaged : goal.returns-clause-damaged
returns-clause-damaged g c told =
    let i = c.loop-turn.invariant in
    walked_past (g.P.Pages.view c.args.pages.now) (g.P.Pages.view c.loop-turn.pages) c.args.first c.loop-turn.page c.loop-turn._turn (omega (arith, c.loop-turn-test.false, c.loop-turn.auto)) (i.walked told)
