use Rattle.std.proofs.Common.{◌+◌, ℕ, List, [], take, refl, sym, ap, subst, arith, ◌∙◌, Ok, take_all}
use Rattle.gaz_pick.specs.Asked.{asked}
use Rattle.gaz_rows.proofs.SteppedOver.{stands_same}
use Rattle.gaz_kin.specs.Leading.{asked_nothing, only_on, told_on}
use Rattle.gaz_plan.specs.declared.gather.Candidate.{Candidate}
use Rattle.gaz_plan.specs.Gathered.{is_gathered}
use Rattle.gaz_plan.specs.Seen.{SeesMore}
use Rattle.gaz_plan.proofs.Sorted.{seen_none, visited_few, visited_next, visited_none}
use Rattle.gaz_plan.proofs.gather.offer_sorted.Goals as goal

pub loop-at-init : goal.loop-at-init
loop-at-init g c = record {
  keep = refl;
  more = λ told gaz stands led. seen_none gaz stands.is_gazetteer (asked c.args.query.now) c.args.best.now.keep c.args.best.now.pairs;
  visited = λ told gaz stands. visited_none c.args.candidates.now (g.P.Pages.view c.args.store.now.pages).reads;
  asked = (0, asked_nothing (g.P.Pages.view c.args.store.now.pages) tt);
  size = refl;
  root = refl;
  keeps = g.met.P.Pages.keeps_same c.args.store.now.pages;
}

pub loop-at-preserved : goal.loop-at-preserved
loop-at-preserved g c =
    let v = g.P.Pages.view in
    let i = c.loop-at.invariant in
    let v0 = v c.args.store.now.pages in
    let v1 = v c.loop-at.store.pages in
    let v2 = v c.offer_place.new.store.pages in
    let a = asked c.args.query.now in
    let candidates = c.args.candidates.now in
    let at = c.loop-at.at in
    let within = c.loop-at-test.true in
    let now = c.in-Ok.ensures in
    record {
      keep = now.keep ∙ i.keep;
      more = λ told gaz stands led.
          let told1 = told_on v0 v1 _ i.asked told in
          let stands1 = stands_same [] gaz v0 v1 c.args.store.now.root c.loop-at.store.root (i.asked.1.same told) i.root stands in
          let before = subst (λ (k : ℕ). SeesMore gaz a k (is_gathered a (take at candidates)) c.args.best.now.pairs c.loop-at.best.pairs) (sym i.keep) (i.more told gaz stands led) in
          subst (λ (k : ℕ). SeesMore gaz a k (is_gathered a (take (at + 1) candidates)) c.args.best.now.pairs c.offer_place.new.best.pairs) i.keep (now.more told1 gaz stands1 led c.args.best.now.pairs before);
      visited = λ told gaz stands.
          let low = stands.tree.shallow in
          let same = ap (λ root. root.height) i.root in
          let read = now.reads in
          visited_next candidates c.requires.order at v0.reads v1.reads v2.reads (omega (arith, within)) (i.visited told gaz stands) now.again (omega (arith, low, same, read));
      asked = only_on v0 v1 v2 tt (Ok tt) i.asked now.asked;
      size = now.size ∙ i.size;
      root = now.root ∙ i.root;
      keeps = g.met.P.Pages.keeps_on c.args.store.now.pages c.loop-at.store.pages c.offer_place.new.store.pages i.keeps now.keeps;
    }

pub returns-in-Err-clause-damaged : goal.returns-in-Err-clause-damaged
returns-in-Err-clause-damaged g c told gaz stands =
    let v = g.P.Pages.view in
    let i = c.loop-at.invariant in
    let v0 = v c.args.store.now.pages in
    let v1 = v c.loop-at.store.pages in
    c.in-Err.ensures.damaged (told_on v0 v1 _ i.asked told) gaz (stands_same [] gaz v0 v1 c.args.store.now.root c.loop-at.store.root (i.asked.1.same told) i.root stands)

pub returns-in-Err-clause-asked : goal.returns-in-Err-clause-asked
returns-in-Err-clause-asked g c =
    let v = g.P.Pages.view in
    only_on (v c.args.store.now.pages) (v c.loop-at.store.pages) (v c.offer_place.new.store.pages) tt _ c.loop-at.invariant.asked c.in-Err.ensures.asked

pub returns-in-Err-clause-reads : goal.returns-in-Err-clause-reads
returns-in-Err-clause-reads g c told gaz stands places have =
    let v = g.P.Pages.view in
    let i = c.loop-at.invariant in
    let candidates = c.args.candidates.now in
    let at = c.loop-at.at in
    let within = c.loop-at-test.true in
    let low = stands.tree.shallow in
    let same = ap (λ root. root.height) i.root in
    let read = c.in-Err.ensures.reads in
    let next = visited_next candidates c.requires.order at (v c.args.store.now.pages).reads (v c.loop-at.store.pages).reads (v c.offer_place.new.store.pages).reads (omega (arith, within)) (i.visited told gaz stands) c.in-Err.ensures.again (omega (arith, low, same, read)) in
    visited_few candidates (at + 1) (v c.args.store.now.pages).reads (v c.offer_place.new.store.pages).reads (omega (arith, within)) next places have

pub returns-clause-more : goal.returns-clause-more
returns-clause-more g c told gaz stands led =
    let i = c.loop-at.invariant in
    let candidates = c.args.candidates.now in
    let over = c.loop-at-test.false in
    subst (λ (cs : List Candidate). SeesMore gaz (asked c.args.query.now) c.args.best.now.keep (is_gathered (asked c.args.query.now) cs) c.args.best.now.pairs c.loop-at.best.pairs)
    (take_all c.loop-at.at candidates (omega (arith, over))) (i.more told gaz stands led)

pub returns-clause-reads : goal.returns-clause-reads
returns-clause-reads g c told gaz stands places have =
    let v = g.P.Pages.view in
    let i = c.loop-at.invariant in
    let inside = c.loop-at.auto.at-end in
    visited_few c.args.candidates.now c.loop-at.at (v c.args.store.now.pages).reads (v c.loop-at.store.pages).reads (omega (arith, inside)) (i.visited told gaz stands) places have
