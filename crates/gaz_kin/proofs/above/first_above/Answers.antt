use Rattle.std.proofs.Common.{◌+◌, ◌*◌, ◌≤◌, ◌∙◌, true, false, [], length, sym, ap, subst, arith, Ok}
use Rattle.std.specs.Prelude.{IsTrue, ◌==◌, not}
use Rattle.gaz_num.proofs.CalendarLemmas.{and_left, and_right}
use Rattle.gaz_row.specs.Row.{id_of}
use Rattle.gaz_scan.specs.Scan.{tree_of}
use Rattle.gaz_rows.specs.Store.{HasAsked}
use Rattle.gaz_rows.proofs.Looked.{asked_on, asked_ok}
use Rattle.gaz_rows.proofs.SteppedOver.{stands_same}
use Rattle.gaz_kin.specs.declared.ids.Part.TheVariants.{Last}
use Rattle.gaz_kin.specs.Above.{is_above, fits_at, may_be_above}
use Rattle.gaz_kin.specs.Over.{each_of}
use Rattle.gaz_kin.proofs.Tested.{is_false, fits_too, nor_fits, tested_as}
use Rattle.gaz_kin.proofs.Walked.{passed_on, found_first, found_none, few_now, each_same}
use Rattle.gaz_kin.proofs.above.first_above.Goals as goal

pub returns-in-Ok-End-clause-found : goal.returns-in-Ok-End-clause-found
returns-in-Ok-End-clause-found g c told gaz stands left comes few =
    let i = c.loop-turn.invariant in
    let v = g.P.Pages.view in
    let p = i.passed told gaz stands left comes few in
    let now = stands_same [] gaz (v c.args.store.now.pages) (v c.loop-turn.store.pages) c.args.store.now.root c.loop-turn.store.root (i.asked.same told) i.root stands in
    found_none Last (fits_at gaz (may_be_above c.args.level c.args.row.now)) c.loop-turn._turn (v c.loop-turn.store.pages).page c.loop-turn.scan left p
    (rw c.in-Ok-End.field-0-is at (c.in-Ok-End.ensures.looks (subst IsTrue (sym i.asked.counts.told) told) gaz now p.rest p.comes))

pub returns-in-Ok-Fits-clause-found : goal.returns-in-Ok-Fits-clause-found
returns-in-Ok-Fits-clause-found g c told gaz stands left comes few =
    let i = c.loop-turn.invariant in
    let v = g.P.Pages.view in
    let p = i.passed told gaz stands left comes few in
    let now = stands_same [] gaz (v c.args.store.now.pages) (v c.loop-turn.store.pages) c.args.store.now.root c.loop-turn.store.root (i.asked.same told) i.root stands in
    found_first Last (fits_at gaz (may_be_above c.args.level c.args.row.now)) c.loop-turn._turn (v c.loop-turn.store.pages).page c.loop-turn.scan left p (v c.look_above.new.store.pages).page c.look_above.new.scan c.in-Ok-Fits.id
    (rw c.in-Ok-Fits.field-0-is at (c.in-Ok-Fits.ensures.looks (subst IsTrue (sym i.asked.counts.told) told) gaz now p.rest p.comes))

pub returns-in-Ok-End-clause-common : goal.returns-in-Ok-End-clause-common
returns-in-Ok-End-clause-common g c told gaz stands left comes few common =
    let i = c.loop-turn.invariant in
    let v = g.P.Pages.view in
    let p = i.common told gaz stands left comes few common in
    let now = stands_same [] gaz (v c.args.store.now.pages) (v c.loop-turn.store.pages) c.args.store.now.root c.loop-turn.store.root (i.asked.same told) i.root stands in
    found_none Last (fits_at gaz (is_above c.args.level c.args.row.now)) c.loop-turn._turn (v c.loop-turn.store.pages).page c.loop-turn.scan left p
    (rw c.in-Ok-End.field-0-is at (c.in-Ok-End.ensures.looks (subst IsTrue (sym i.asked.counts.told) told) gaz now p.rest p.comes))

pub returns-in-Ok-Fits-clause-common : goal.returns-in-Ok-Fits-clause-common
returns-in-Ok-Fits-clause-common g c told gaz stands left comes few common =
    let i = c.loop-turn.invariant in
    let v = g.P.Pages.view in
    let p = i.common told gaz stands left comes few common in
    let now = stands_same [] gaz (v c.args.store.now.pages) (v c.loop-turn.store.pages) c.args.store.now.root c.loop-turn.store.root (i.asked.same told) i.root stands in
    let level = c.args.level in
    let row = c.args.row.now in
    let id = c.in-Ok-Fits.id in
    found_first Last (fits_at gaz (is_above level row)) c.loop-turn._turn (v c.loop-turn.store.pages).page c.loop-turn.scan left p (v c.look_above.new.store.pages).page c.look_above.new.scan id
    (tested_as Last (fits_at gaz (may_be_above level row)) (fits_at gaz (is_above level row)) true (v c.look_above.new.store.pages).page c.look_above.new.scan p.rest id
    (fits_too gaz stands.is_gazetteer (is_above level row) (id_of row) id)
    (rw c.in-Ok-Fits.field-0-is at (c.in-Ok-Fits.ensures.looks (subst IsTrue (sym i.asked.counts.told) told) gaz now p.rest p.comes)))

pub returns-in-Err-clause-damaged : goal.returns-in-Err-clause-damaged
returns-in-Err-clause-damaged g c told gaz stands left comes few =
    let i = c.loop-turn.invariant in
    let v = g.P.Pages.view in
    let p = i.passed told gaz stands left comes few in
    let now = stands_same [] gaz (v c.args.store.now.pages) (v c.loop-turn.store.pages) c.args.store.now.root c.loop-turn.store.root (i.asked.same told) i.root stands in
    c.in-Err.ensures.looks (subst IsTrue (sym i.asked.counts.told) told) gaz now p.rest p.comes

pub loop-turn-preserved : goal.loop-turn-preserved
loop-turn-preserved g c =
    let i = c.loop-turn.invariant in
    let v = g.P.Pages.view in
    let more = c.in-Ok-Passed.ensures in
    let each = each_of c.args.scan.now c.args.store.now.root in
    record {
      passed = λ told gaz stands left comes few.
          let p = i.passed told gaz stands left comes few in
          let now = stands_same [] gaz (v c.args.store.now.pages) (v c.loop-turn.store.pages) c.args.store.now.root c.loop-turn.store.root (i.asked.same told) i.root stands in
          passed_on Last (fits_at gaz (may_be_above c.args.level c.args.row.now)) c.loop-turn._turn (v c.loop-turn.store.pages).page c.loop-turn.scan left p (v c.look_above.new.store.pages).page c.look_above.new.scan _
          (rw c.in-Ok-Passed.field-0-is at (more.looks (subst IsTrue (sym i.asked.counts.told) told) gaz now p.rest p.comes));
      common = λ told gaz stands left comes few common.
          let both = sym c.still_others-is_common.ensures ∙ common in
          let level = c.args.level in
          let row = c.args.row.now in
          let id = c.in-Ok-Passed.id in
          let p = i.common told gaz stands left comes few (and_left c.loop-turn.is_common (not (id == id_of row)) both) in
          let differs = is_false (id == id_of row) (and_right c.loop-turn.is_common (not (id == id_of row)) both) in
          let now = stands_same [] gaz (v c.args.store.now.pages) (v c.loop-turn.store.pages) c.args.store.now.root c.loop-turn.store.root (i.asked.same told) i.root stands in
          passed_on Last (fits_at gaz (is_above level row)) c.loop-turn._turn (v c.loop-turn.store.pages).page c.loop-turn.scan left p (v c.look_above.new.store.pages).page c.look_above.new.scan id
          (tested_as Last (fits_at gaz (may_be_above level row)) (fits_at gaz (is_above level row)) false (v c.look_above.new.store.pages).page c.look_above.new.scan p.rest id
          (nor_fits gaz stands.is_gazetteer (is_above level row) (id_of row) id differs)
          (rw c.in-Ok-Passed.field-0-is at (more.looks (subst IsTrue (sym i.asked.counts.told) told) gaz now p.rest p.comes)));
      asked = asked_on {S = Unit} {T = Unit} (each * c.loop-turn._turn) each (each * (c.loop-turn._turn + 1)) (v c.args.store.now.pages) (v c.loop-turn.store.pages) (v c.look_above.new.store.pages) tt (Ok tt) (omega arith) i.asked
          (asked_ok each (v c.loop-turn.store.pages) (v c.look_above.new.store.pages) c.in-Ok-Passed.field-0 tt
          (subst (λ root. HasAsked (2 * (tree_of c.args.scan.now).height + (root.height + 17)) (v c.loop-turn.store.pages) (v c.look_above.new.store.pages) (Ok c.in-Ok-Passed.field-0)) i.root
          (subst (λ tree. HasAsked (2 * tree.height + (c.loop-turn.store.root.height + 17)) (v c.loop-turn.store.pages) (v c.look_above.new.store.pages) (Ok c.in-Ok-Passed.field-0)) i.tree more.asked)));
      tree = more.tree ∙ i.tree;
      size = more.size ∙ i.size;
      root = more.root ∙ i.root;
      keeps = g.met.P.Pages.keeps_on c.args.store.now.pages c.loop-turn.store.pages c.look_above.new.store.pages i.keeps more.keeps;
    }

pub returns-in-Ok-End-clause-few : goal.returns-in-Ok-End-clause-few
returns-in-Ok-End-clause-few g c told gaz stands left comes few =
    let i = c.loop-turn.invariant in
    let v = g.P.Pages.view in
    let p = i.passed told gaz stands left comes few in
    let now = stands_same [] gaz (v c.args.store.now.pages) (v c.loop-turn.store.pages) c.args.store.now.root c.loop-turn.store.root (i.asked.same told) i.root stands in
    few_now (each_of c.args.scan.now c.args.store.now.root) (2 * (tree_of c.args.scan.now).height) c.loop-turn._turn (length left) (v c.args.store.now.pages).reads (v c.loop-turn.store.pages).reads (v c.look_above.new.store.pages).reads p.rest i.asked.counts.reads
    (subst (λ each. (v c.look_above.new.store.pages).reads ≤ (v c.loop-turn.store.pages).reads + each) (each_same c.loop-turn.scan c.args.scan.now c.loop-turn.store.root c.args.store.now.root i.tree i.root) c.in-Ok-End.ensures.asked.counts.reads)
    (λ none. subst (λ tree. (v c.look_above.new.store.pages).reads ≤ (v c.loop-turn.store.pages).reads + 2 * tree.height) i.tree (c.in-Ok-End.ensures.ends (subst IsTrue (sym i.asked.counts.told) told) gaz now p.rest p.comes none))
    p.count

pub returns-in-Ok-Fits-clause-few : goal.returns-in-Ok-Fits-clause-few
returns-in-Ok-Fits-clause-few g c told gaz stands left comes few =
    let i = c.loop-turn.invariant in
    let v = g.P.Pages.view in
    let p = i.passed told gaz stands left comes few in
    let now = stands_same [] gaz (v c.args.store.now.pages) (v c.loop-turn.store.pages) c.args.store.now.root c.loop-turn.store.root (i.asked.same told) i.root stands in
    few_now (each_of c.args.scan.now c.args.store.now.root) (2 * (tree_of c.args.scan.now).height) c.loop-turn._turn (length left) (v c.args.store.now.pages).reads (v c.loop-turn.store.pages).reads (v c.look_above.new.store.pages).reads p.rest i.asked.counts.reads
    (subst (λ each. (v c.look_above.new.store.pages).reads ≤ (v c.loop-turn.store.pages).reads + each) (each_same c.loop-turn.scan c.args.scan.now c.loop-turn.store.root c.args.store.now.root i.tree i.root) c.in-Ok-Fits.ensures.asked.counts.reads)
    (λ none. subst (λ tree. (v c.look_above.new.store.pages).reads ≤ (v c.loop-turn.store.pages).reads + 2 * tree.height) i.tree (c.in-Ok-Fits.ensures.ends (subst IsTrue (sym i.asked.counts.told) told) gaz now p.rest p.comes none))
    p.count

pub returns-in-Err-clause-few : goal.returns-in-Err-clause-few
returns-in-Err-clause-few g c told gaz stands left comes few =
    let i = c.loop-turn.invariant in
    let v = g.P.Pages.view in
    let p = i.passed told gaz stands left comes few in
    let now = stands_same [] gaz (v c.args.store.now.pages) (v c.loop-turn.store.pages) c.args.store.now.root c.loop-turn.store.root (i.asked.same told) i.root stands in
    few_now (each_of c.args.scan.now c.args.store.now.root) (2 * (tree_of c.args.scan.now).height) c.loop-turn._turn (length left) (v c.args.store.now.pages).reads (v c.loop-turn.store.pages).reads (v c.look_above.new.store.pages).reads p.rest i.asked.counts.reads
    (subst (λ each. (v c.look_above.new.store.pages).reads ≤ (v c.loop-turn.store.pages).reads + each) (each_same c.loop-turn.scan c.args.scan.now c.loop-turn.store.root c.args.store.now.root i.tree i.root) c.in-Err.ensures.asked.counts.reads)
    (λ none. subst (λ tree. (v c.look_above.new.store.pages).reads ≤ (v c.loop-turn.store.pages).reads + 2 * tree.height) i.tree (c.in-Err.ensures.ends (subst IsTrue (sym i.asked.counts.told) told) gaz now p.rest p.comes none))
    p.count

-- more came than there may be
pub returns-clause-damaged : goal.returns-clause-damaged
returns-clause-damaged g c told gaz stands left comes few =
    let p = c.loop-turn.invariant.passed told gaz stands left comes few in
    let count = p.count in
    let over = c.loop-turn-test.false in
    let turns = c.turns_for-turn-end.ensures.turns in
    let same = ap (λ root. root.counts.rows) c.root.ensures in
    absurd (omega (arith, count, few, over, turns, same))

pub returns-clause-few : goal.returns-clause-few
returns-clause-few g c told gaz stands left comes few =
    let p = c.loop-turn.invariant.passed told gaz stands left comes few in
    let count = p.count in
    let over = c.loop-turn-test.false in
    let turns = c.turns_for-turn-end.ensures.turns in
    let same = ap (λ root. root.counts.rows) c.root.ensures in
    absurd (omega (arith, count, few, over, turns, same))
