use Rattle.std.proofs.Common.{◌+◌, ◌*◌, ◌∙◌, sym, subst, arith, take, Ok}
use Rattle.std.specs.Prelude.{IsTrue}
use Rattle.gaz_scan.specs.Scan.{tree_of}
use Rattle.gaz_rows.specs.Store.{HasAsked}
use Rattle.gaz_rows.proofs.Looked.{asked_on, asked_ok}
use Rattle.gaz_rows.proofs.Searched.{passed_on, all_passed, found_passed}
use Rattle.gaz_rows.proofs.store.RowStore.find_code.Goals as goal

pub returns-in-Ok-Last-clause-code : goal.returns-in-Ok-Last-clause-code
returns-in-Ok-Last-clause-code g c told left comes have few =
    let i = c.loop-turn.invariant in
    let v = g.P.Pages.view in
    let p = i.passed told left comes have few in
    all_passed c.loop-turn._turn c.loop-turn.free c.args.code.now (v c.args.self.now.pages).page (v c.loop-turn.self.pages).page c.loop-turn.scan left p
    (rw c.in-Ok-Last.field-0-is at (c.in-Ok-Last.ensures.looks (subst IsTrue (sym i.asked.counts.told) told) p.rest p.comes p.have))
    (let free = p.few in let turn = c.loop-turn-test.true in let fits = c.turns_for-turn-end.ensures.fits in omega (arith, free, turn, fits))

pub returns-in-Ok-Found-clause-code : goal.returns-in-Ok-Found-clause-code
returns-in-Ok-Found-clause-code g c told left comes have few =
    let i = c.loop-turn.invariant in
    let v = g.P.Pages.view in
    let p = i.passed told left comes have few in
    found_passed c.loop-turn._turn c.loop-turn.free c.args.code.now (v c.args.self.now.pages).page (v c.loop-turn.self.pages).page c.loop-turn.scan left p
    c.in-Ok-Found.slot (take c.in-Ok-Found.size c.look.new.buf) (i.asked.same told).pages
    (rw c.in-Ok-Found.field-0-is at (c.in-Ok-Found.ensures.looks (subst IsTrue (sym i.asked.counts.told) told) p.rest p.comes p.have))

pub returns-in-Err-clause-damaged : goal.returns-in-Err-clause-damaged
returns-in-Err-clause-damaged g c told left comes have few =
    let i = c.loop-turn.invariant in
    let p = i.passed told left comes have few in
    c.in-Err.ensures.looks (subst IsTrue (sym i.asked.counts.told) told) p.rest p.comes p.have

pub loop-turn-preserved : goal.loop-turn-preserved
loop-turn-preserved g c =
    let i = c.loop-turn.invariant in
    let v = g.P.Pages.view in
    let more = c.in-Ok-Other.ensures in
    let each = 2 * (tree_of c.args.scan.now).height + 17 in
    record {
      passed = λ told left comes have few.
          let p = i.passed told left comes have few in
          passed_on c.loop-turn._turn c.loop-turn.free c.in-Ok-Other.slot c.free_behind-free.result c.args.code.now (v c.args.self.now.pages).page (v c.loop-turn.self.pages).page (v c.look.new.self.pages).page c.loop-turn.scan c.look.new.scan left (let turns = c.turns_for-turn-end.ensures.turns in let fits = c.turns_for-turn-end.ensures.fits in omega (arith, few, turns, fits)) p
          (rw c.in-Ok-Other.field-0-is at (more.looks (subst IsTrue (sym i.asked.counts.told) told) p.rest p.comes p.have)) c.free_behind-free.ensures;
      asked = asked_on {S = Unit} {T = Unit} (each * c.loop-turn._turn) each (each * (c.loop-turn._turn + 1)) (v c.args.self.now.pages) (v c.loop-turn.self.pages) (v c.look.new.self.pages) tt (Ok tt) (omega arith) i.asked
          (asked_ok each (v c.loop-turn.self.pages) (v c.look.new.self.pages) c.in-Ok-Other.field-0 tt
          (subst (λ tree. HasAsked (2 * tree.height + 17) (v c.loop-turn.self.pages) (v c.look.new.self.pages) (Ok c.in-Ok-Other.field-0)) i.tree more.asked));
      tree = more.tree ∙ i.tree;
      size = more.size ∙ i.size;
      root = more.root ∙ i.root;
      keeps = g.met.P.Pages.keeps_on c.args.self.now.pages c.loop-turn.self.pages c.look.new.self.pages i.keeps more.keeps;
    }
