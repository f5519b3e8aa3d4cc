use Rattle.std.proofs.Common.{ℕ, true, [], subst, arith, ◌∙◌, Ok}
use Rattle.gaz_pick.specs.Asked.{asked}
use Rattle.gaz_rows.proofs.SteppedOver.{stands_same}
use Rattle.gaz_kin.specs.Leading.{only_on, told_on}
use Rattle.gaz_plan.specs.Ways.{tag_by}
use Rattle.gaz_plan.specs.Searched.{SeesNext}
use Rattle.gaz_plan.proofs.Walking.{rest_are, pending_on, pending_none}
use Rattle.gaz_plan.proofs.walk.offer_scan.Goals as goal

pub returns-in-Ok-false-clause-more : goal.returns-in-Ok-false-clause-more
returns-in-Ok-false-clause-more g c told gaz stands left comes are =
    let v = g.P.Pages.view in
    let i = c.loop-turn.invariant in
    let is = stands.is_gazetteer in
    let a = asked c.args.query.now in
    let keep = c.args.best.now.keep in
    let v0 = v c.args.store.now.pages in
    let v1 = v c.loop-turn.store.pages in
    let v2 = v c.offer_next.new.store.pages in
    let told1 = told_on v0 v1 _ i.asked told in
    let stands1 = stands_same [] gaz v0 v1 c.args.store.now.root c.loop-turn.store.root (i.asked.1.same told) i.root stands in
    let p = i.pending told gaz stands left comes are is in
    let rest = rest_are gaz is a keep c.args.way c.loop-turn._turn v1.page c.loop-turn.scan left c.args.best.now.pairs c.loop-turn.best.pairs p (tag_by c.args.way) stands.pairs are in
    let sees = subst (SeesNext gaz a c.args.way c.loop-turn.best.keep v2.page c.offer_next.new.scan p.rest c.loop-turn.best.pairs c.offer_next.new.best.pairs) c.in-Ok-false.field-0-test (c.in-Ok-false.ensures.more told1 gaz stands1 p.rest p.comes rest) in
    pending_none gaz is a keep c.args.way c.loop-turn._turn v1.page c.loop-turn.scan left c.args.best.now.pairs c.loop-turn.best.pairs p v2.page c.offer_next.new.scan c.offer_next.new.best.pairs sees

pub returns-in-Ok-false-clause-asked : goal.returns-in-Ok-false-clause-asked
returns-in-Ok-false-clause-asked g c =
    let v = g.P.Pages.view in
    only_on (v c.args.store.now.pages) (v c.loop-turn.store.pages) (v c.offer_next.new.store.pages) tt _ c.loop-turn.invariant.asked c.in-Ok-false.ensures.asked

pub returns-in-Err-clause-damaged : goal.returns-in-Err-clause-damaged
returns-in-Err-clause-damaged g c told gaz stands left comes are =
    let v = g.P.Pages.view in
    let i = c.loop-turn.invariant in
    let is = stands.is_gazetteer in
    let a = asked c.args.query.now in
    let keep = c.args.best.now.keep in
    let v0 = v c.args.store.now.pages in
    let v1 = v c.loop-turn.store.pages in
    let told1 = told_on v0 v1 _ i.asked told in
    let stands1 = stands_same [] gaz v0 v1 c.args.store.now.root c.loop-turn.store.root (i.asked.1.same told) i.root stands in
    let p = i.pending told gaz stands left comes are is in
    let rest = rest_are gaz is a keep c.args.way c.loop-turn._turn v1.page c.loop-turn.scan left c.args.best.now.pairs c.loop-turn.best.pairs p (tag_by c.args.way) stands.pairs are in
    c.in-Err.ensures.damaged told1 gaz stands1 p.rest p.comes rest

pub returns-in-Err-clause-asked : goal.returns-in-Err-clause-asked
returns-in-Err-clause-asked g c =
    let v = g.P.Pages.view in
    only_on (v c.args.store.now.pages) (v c.loop-turn.store.pages) (v c.offer_next.new.store.pages) tt _ c.loop-turn.invariant.asked c.in-Err.ensures.asked

pub returns-in-Ok-false-clause-reads : goal.returns-in-Ok-false-clause-reads
returns-in-Ok-false-clause-reads g c told gaz stands left comes are =
    let v = g.P.Pages.view in
    let i = c.loop-turn.invariant in
    let is = stands.is_gazetteer in
    let a = asked c.args.query.now in
    let keep = c.args.best.now.keep in
    let v0 = v c.args.store.now.pages in
    let v1 = v c.loop-turn.store.pages in
    let told1 = told_on v0 v1 _ i.asked told in
    let stands1 = stands_same [] gaz v0 v1 c.args.store.now.root c.loop-turn.store.root (i.asked.1.same told) i.root stands in
    let p = i.pending told gaz stands left comes are is in
    let rest = rest_are gaz is a keep c.args.way c.loop-turn._turn v1.page c.loop-turn.scan left c.args.best.now.pairs c.loop-turn.best.pairs p (tag_by c.args.way) stands.pairs are in
    let count = p.count in
    let before = i.reads told gaz stands left comes are in
    let now = c.in-Ok-false.ensures.reads told1 gaz stands1 p.rest p.comes rest in
    omega (arith, count, before, now)

pub returns-in-Err-clause-reads : goal.returns-in-Err-clause-reads
returns-in-Err-clause-reads g c told gaz stands left comes are =
    let v = g.P.Pages.view in
    let i = c.loop-turn.invariant in
    let is = stands.is_gazetteer in
    let a = asked c.args.query.now in
    let keep = c.args.best.now.keep in
    let v0 = v c.args.store.now.pages in
    let v1 = v c.loop-turn.store.pages in
    let told1 = told_on v0 v1 _ i.asked told in
    let stands1 = stands_same [] gaz v0 v1 c.args.store.now.root c.loop-turn.store.root (i.asked.1.same told) i.root stands in
    let p = i.pending told gaz stands left comes are is in
    let rest = rest_are gaz is a keep c.args.way c.loop-turn._turn v1.page c.loop-turn.scan left c.args.best.now.pairs c.loop-turn.best.pairs p (tag_by c.args.way) stands.pairs are in
    let count = p.count in
    let before = i.reads told gaz stands left comes are in
    let now = c.in-Err.ensures.reads told1 gaz stands1 p.rest p.comes rest in
    omega (arith, count, before, now)

pub loop-turn-preserved : goal.loop-turn-preserved
loop-turn-preserved g c =
    let v = g.P.Pages.view in
    let i = c.loop-turn.invariant in
    let a = asked c.args.query.now in
    let keep = c.args.best.now.keep in
    let v0 = v c.args.store.now.pages in
    let v1 = v c.loop-turn.store.pages in
    let v2 = v c.offer_next.new.store.pages in
    let now = c.in-Ok-true.ensures in
    record {
      keep = now.keep ∙ i.keep;
      pending = λ told gaz stands left comes are is.
          let told1 = told_on v0 v1 _ i.asked told in
          let stands1 = stands_same [] gaz v0 v1 c.args.store.now.root c.loop-turn.store.root (i.asked.1.same told) i.root stands in
          let p = i.pending told gaz stands left comes are is in
          let rest = rest_are gaz is a keep c.args.way c.loop-turn._turn v1.page c.loop-turn.scan left c.args.best.now.pairs c.loop-turn.best.pairs p (tag_by c.args.way) stands.pairs are in
          let sees = subst (SeesNext gaz a c.args.way c.loop-turn.best.keep v2.page c.offer_next.new.scan p.rest c.loop-turn.best.pairs c.offer_next.new.best.pairs) c.in-Ok-true.field-0-test (now.more told1 gaz stands1 p.rest p.comes rest) in
          pending_on gaz is a keep c.args.way c.loop-turn._turn v1.page c.loop-turn.scan left c.args.best.now.pairs c.loop-turn.best.pairs p v2.page c.offer_next.new.scan c.offer_next.new.best.pairs
          (subst (λ (k : ℕ). SeesNext gaz a c.args.way k v2.page c.offer_next.new.scan p.rest c.loop-turn.best.pairs c.offer_next.new.best.pairs true) i.keep sees);
      reads = λ told gaz stands left comes are.
          let told1 = told_on v0 v1 _ i.asked told in
          let stands1 = stands_same [] gaz v0 v1 c.args.store.now.root c.loop-turn.store.root (i.asked.1.same told) i.root stands in
          let p = i.pending told gaz stands left comes are stands.is_gazetteer in
          let rest = rest_are gaz stands.is_gazetteer a keep c.args.way c.loop-turn._turn v1.page c.loop-turn.scan left c.args.best.now.pairs c.loop-turn.best.pairs p (tag_by c.args.way) stands.pairs are in
          let before = i.reads told gaz stands left comes are in
          let one = now.reads told1 gaz stands1 p.rest p.comes rest in
          omega (arith, before, one);
      asked = only_on v0 v1 v2 tt (Ok tt) i.asked now.asked;
      size = now.size ∙ i.size;
      root = now.root ∙ i.root;
      keeps = g.met.P.Pages.keeps_on c.args.store.now.pages c.loop-turn.store.pages c.offer_next.new.store.pages i.keeps now.keeps;
    }

-- more came than a tree has
pub returns-clause-damaged : goal.returns-clause-damaged
returns-clause-damaged g c told gaz stands left comes are =
    let p = c.loop-turn.invariant.pending told gaz stands left comes are stands.is_gazetteer in
    let count = p.count in
    let few = are.few in
    let over = c.loop-turn-test.false in
    absurd (omega (arith, count, few, over))

pub returns-clause-reads : goal.returns-clause-reads
returns-clause-reads g c told gaz stands left comes are =
    let p = c.loop-turn.invariant.pending told gaz stands left comes are stands.is_gazetteer in
    let count = p.count in
    let few = are.few in
    let over = c.loop-turn-test.false in
    absurd (omega (arith, count, few, over))
