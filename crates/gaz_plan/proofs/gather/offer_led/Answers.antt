use Rattle.std.proofs.Common.{ℕ, true, List, [], map, refl, subst, arith, ◌∙◌, sym, Ok}
use Rattle.std.proofs.lemmas.List.{length-map}
use Rattle.gaz_pick.specs.Asked.{asked}
use Rattle.gaz_rows.proofs.SteppedOver.{stands_same}
use Rattle.gaz_kin.specs.Leading.{asked_nothing, only_on, told_on}
use Rattle.gaz_kin.proofs.Answered.{if_err}
use Rattle.gaz_kin.proofs.Offered.{on_ok}
use Rattle.gaz_plan.specs.declared.gather.Candidate.{Candidate}
use Rattle.gaz_plan.specs.Gathered.{GathersNext, HavePlaces, is_gathered}
use Rattle.gaz_plan.specs.Seen.{SeesMore}
use Rattle.gaz_plan.proofs.Gathering.{IsGathering, gathered_all, gathering_first, gathering_none, gathering_on, once_now, own_places, rest_of, turns_few}
use Rattle.gaz_plan.proofs.gather.offer_led.Goals as goal

pub loop-turn-init : goal.loop-turn-init
loop-turn-init g c =
    let v0 = g.P.Pages.view c.args.store.now.pages in
    record {
      keep = refl;
      pending = λ told gaz stands left comes are is.
          subst (λ (cs : List Candidate). IsGathering gaz is (asked c.args.query.now) c.args.best.now.keep 0 v0.page c.args.scan.now left cs c.args.best.now.pairs c.args.best.now.pairs v0.reads v0.reads) (sym c.new-candidates.ensures)
          (gathering_first gaz is (asked c.args.query.now) c.args.best.now.keep v0.page c.args.scan.now left c.args.best.now.pairs v0.reads comes);
      asked = (0, asked_nothing v0 tt);
      size = refl;
      root = refl;
      keeps = g.met.P.Pages.keeps_same c.args.store.now.pages;
    }

pub loop-turn-preserved : goal.loop-turn-preserved
loop-turn-preserved g c =
    let v = g.P.Pages.view in
    let i = c.loop-turn.invariant in
    let a = asked c.args.query.now in
    let keep = c.args.best.now.keep in
    let v0 = v c.args.store.now.pages in
    let v1 = v c.loop-turn.store.pages in
    let v2 = v c.gather_next.new.store.pages in
    let now = c.in-Ok-true.ensures in
    record {
      keep = now.keep ∙ i.keep;
      pending = λ told gaz stands left comes are is.
          let told1 = told_on v0 v1 _ i.asked told in
          let stands1 = stands_same [] gaz v0 v1 c.args.store.now.root c.loop-turn.store.root (i.asked.1.same told) i.root stands in
          let p = i.pending told gaz stands left comes are is in
          let rest = rest_of gaz is a keep c.loop-turn._turn v1.page c.loop-turn.scan left c.loop-turn.candidates.items c.args.best.now.pairs c.loop-turn.best.pairs v0.reads v1.reads p 7 stands.pairs are in
          let gathers = subst (GathersNext gaz a c.loop-turn.best.keep v2.page c.gather_next.new.scan p.rest c.loop-turn.candidates.items c.gather_next.new.candidates.items c.loop-turn.best.pairs c.gather_next.new.best.pairs) c.in-Ok-true.field-0-test (now.more told1 gaz stands1 p.rest p.comes rest p.led) in
          gathering_on gaz is a keep c.loop-turn._turn v1.page c.loop-turn.scan left c.loop-turn.candidates.items c.args.best.now.pairs c.loop-turn.best.pairs v0.reads v1.reads p
          v2.page c.gather_next.new.scan c.gather_next.new.candidates.items c.gather_next.new.best.pairs v2.reads
          (subst (λ (k : ℕ). GathersNext gaz a k v2.page c.gather_next.new.scan p.rest c.loop-turn.candidates.items c.gather_next.new.candidates.items c.loop-turn.best.pairs c.gather_next.new.best.pairs true) i.keep gathers)
          (now.unread told1 gaz stands1 p.rest p.comes rest)
          (now.reads told1 gaz stands1 p.rest p.comes rest);
      asked = only_on v0 v1 v2 tt (Ok tt) i.asked now.asked;
      size = now.size ∙ i.size;
      root = now.root ∙ i.root;
      keeps = g.met.P.Pages.keeps_on c.args.store.now.pages c.loop-turn.store.pages c.gather_next.new.store.pages i.keeps now.keeps;
    }

pub returns-in-Err-clause-asked : goal.returns-in-Err-clause-asked
returns-in-Err-clause-asked g c =
    let v = g.P.Pages.view in
    only_on (v c.args.store.now.pages) (v c.loop-turn.store.pages) (v c.gather_next.new.store.pages) tt _ c.loop-turn.invariant.asked c.in-Err.ensures.asked

pub returns-in-Err-clause-damaged : goal.returns-in-Err-clause-damaged
returns-in-Err-clause-damaged g c told gaz stands left comes are =
    let v = g.P.Pages.view in
    let i = c.loop-turn.invariant in
    let is = stands.is_gazetteer in
    let v0 = v c.args.store.now.pages in
    let v1 = v c.loop-turn.store.pages in
    let told1 = told_on v0 v1 _ i.asked told in
    let stands1 = stands_same [] gaz v0 v1 c.args.store.now.root c.loop-turn.store.root (i.asked.1.same told) i.root stands in
    let p = i.pending told gaz stands left comes are is in
    let rest = rest_of gaz is (asked c.args.query.now) c.args.best.now.keep c.loop-turn._turn v1.page c.loop-turn.scan left c.loop-turn.candidates.items c.args.best.now.pairs c.loop-turn.best.pairs v0.reads v1.reads p 7 stands.pairs are in
    c.in-Err.ensures.damaged told1 gaz stands1 p.rest p.comes rest

pub returns-in-Err-clause-reads : goal.returns-in-Err-clause-reads
returns-in-Err-clause-reads g c told gaz stands left comes are =
    let v = g.P.Pages.view in
    let i = c.loop-turn.invariant in
    let is = stands.is_gazetteer in
    let a = asked c.args.query.now in
    let keep = c.args.best.now.keep in
    let v0 = v c.args.store.now.pages in
    let v1 = v c.loop-turn.store.pages in
    let told1 = told_on v0 v1 _ i.asked told in
    let stands1 = stands_same [] gaz v0 v1 c.args.store.now.root c.loop-turn.store.root (i.asked.1.same told) i.root stands in
    let p = i.pending told gaz stands left comes are is in
    let rest = rest_of gaz is a keep c.loop-turn._turn v1.page c.loop-turn.scan left c.loop-turn.candidates.items c.args.best.now.pairs c.loop-turn.best.pairs v0.reads v1.reads p 7 stands.pairs are in
    let few = turns_few gaz is a keep c.loop-turn._turn v1.page c.loop-turn.scan left c.loop-turn.candidates.items c.args.best.now.pairs c.loop-turn.best.pairs v0.reads v1.reads p in
    let before = p.read in
    let now = c.in-Err.ensures.reads told1 gaz stands1 p.rest p.comes rest in
    omega (arith, few, before, now)

pub returns-in-Err-clause-once : goal.returns-in-Err-clause-once
returns-in-Err-clause-once g c told gaz stands left comes are few places have =
    let v = g.P.Pages.view in
    let i = c.loop-turn.invariant in
    let is = stands.is_gazetteer in
    let a = asked c.args.query.now in
    let keep = c.args.best.now.keep in
    let v0 = v c.args.store.now.pages in
    let v1 = v c.loop-turn.store.pages in
    let told1 = told_on v0 v1 _ i.asked told in
    let stands1 = stands_same [] gaz v0 v1 c.args.store.now.root c.loop-turn.store.root (i.asked.1.same told) i.root stands in
    let p = i.pending told gaz stands left comes are is in
    let rest = rest_of gaz is a keep c.loop-turn._turn v1.page c.loop-turn.scan left c.loop-turn.candidates.items c.args.best.now.pairs c.loop-turn.best.pairs v0.reads v1.reads p 7 stands.pairs are in
    let read = once_now gaz is a keep c.loop-turn._turn v1.page c.loop-turn.scan left c.loop-turn.candidates.items c.args.best.now.pairs c.loop-turn.best.pairs v0.reads v1.reads p few (v c.gather_next.new.store.pages).reads (c.in-Err.ensures.unread told1 gaz stands1 p.rest p.comes rest) in
    omega (arith, read)

-- more came than a tree has
pub returns-clause-damaged : goal.returns-clause-damaged
returns-clause-damaged g c told gaz stands left comes are =
    let v = g.P.Pages.view in
    let v0 = v c.args.store.now.pages in
    let v1 = v c.loop-turn.store.pages in
    let p = c.loop-turn.invariant.pending told gaz stands left comes are stands.is_gazetteer in
    let all = turns_few gaz stands.is_gazetteer (asked c.args.query.now) c.args.best.now.keep c.loop-turn._turn v1.page c.loop-turn.scan left c.loop-turn.candidates.items c.args.best.now.pairs c.loop-turn.best.pairs v0.reads v1.reads p in
    let few = are.few in
    let over = c.loop-turn-test.false in
    absurd (omega (arith, all, few, over))

pub returns-clause-reads : goal.returns-clause-reads
returns-clause-reads g c told gaz stands left comes are =
    let v = g.P.Pages.view in
    let v0 = v c.args.store.now.pages in
    let v1 = v c.loop-turn.store.pages in
    let p = c.loop-turn.invariant.pending told gaz stands left comes are stands.is_gazetteer in
    let all = turns_few gaz stands.is_gazetteer (asked c.args.query.now) c.args.best.now.keep c.loop-turn._turn v1.page c.loop-turn.scan left c.loop-turn.candidates.items c.args.best.now.pairs c.loop-turn.best.pairs v0.reads v1.reads p in
    let few = are.few in
    let over = c.loop-turn-test.false in
    absurd (omega (arith, all, few, over))

pub returns-clause-once : goal.returns-clause-once
returns-clause-once g c told gaz stands left comes are some places have =
    let v = g.P.Pages.view in
    let v0 = v c.args.store.now.pages in
    let v1 = v c.loop-turn.store.pages in
    let p = c.loop-turn.invariant.pending told gaz stands left comes are stands.is_gazetteer in
    let all = turns_few gaz stands.is_gazetteer (asked c.args.query.now) c.args.best.now.keep c.loop-turn._turn v1.page c.loop-turn.scan left c.loop-turn.candidates.items c.args.best.now.pairs c.loop-turn.best.pairs v0.reads v1.reads p in
    let few = are.few in
    let over = c.loop-turn-test.false in
    absurd (omega (arith, all, few, over))

-- none was left
pub returns-in-Ok-false-clause-more : goal.returns-in-Ok-false-clause-more
returns-in-Ok-false-clause-more g c =
    let v = g.P.Pages.view in
    let i = c.loop-turn.invariant in
    let a = asked c.args.query.now in
    let keep = c.args.best.now.keep in
    let v0 = v c.args.store.now.pages in
    let v1 = v c.loop-turn.store.pages in
    let v2 = v c.gather_next.new.store.pages in
    on_ok _ _ c.offer_gathered.result (λ over told gaz stands left comes are.
    let is = stands.is_gazetteer in
    let told1 = told_on v0 v1 _ i.asked told in
    let stands1 = stands_same [] gaz v0 v1 c.args.store.now.root c.loop-turn.store.root (i.asked.1.same told) i.root stands in
    let told2 = told_on v1 v2 _ c.in-Ok-false.ensures.asked told1 in
    let stands2 = stands_same [] gaz v1 v2 c.loop-turn.store.root c.gather_next.new.store.root (c.in-Ok-false.ensures.asked.1.same told1) c.in-Ok-false.ensures.root stands1 in
    let p = i.pending told gaz stands left comes are is in
    let rest = rest_of gaz is a keep c.loop-turn._turn v1.page c.loop-turn.scan left c.loop-turn.candidates.items c.args.best.now.pairs c.loop-turn.best.pairs v0.reads v1.reads p 7 stands.pairs are in
    let gathers = subst (GathersNext gaz a c.loop-turn.best.keep v2.page c.gather_next.new.scan p.rest c.loop-turn.candidates.items c.gather_next.new.candidates.items c.loop-turn.best.pairs c.gather_next.new.best.pairs) c.in-Ok-false.field-0-test (c.in-Ok-false.ensures.more told1 gaz stands1 p.rest p.comes rest p.led) in
    let none = gathering_none gaz is a keep c.loop-turn._turn v1.page c.loop-turn.scan left c.loop-turn.candidates.items c.args.best.now.pairs c.loop-turn.best.pairs v0.reads v1.reads p v2.page c.gather_next.new.scan c.gather_next.new.candidates.items c.gather_next.new.best.pairs v2.reads gathers in
    none.1 c.offer_gathered.new.best.pairs
    (subst (λ (k : ℕ). SeesMore gaz a k (is_gathered a c.gather_next.new.candidates.items) c.gather_next.new.best.pairs c.offer_gathered.new.best.pairs) (c.in-Ok-false.ensures.keep ∙ i.keep) (over told2 gaz stands2 none.0)))
    c.offer_gathered.ensures.more

pub returns-in-Ok-false-clause-damaged : goal.returns-in-Ok-false-clause-damaged
returns-in-Ok-false-clause-damaged g c =
    let v = g.P.Pages.view in
    let i = c.loop-turn.invariant in
    let v0 = v c.args.store.now.pages in
    let v1 = v c.loop-turn.store.pages in
    let v2 = v c.gather_next.new.store.pages in
    if_err _ _ c.offer_gathered.result (λ fault over told gaz stands left comes are.
    let told1 = told_on v0 v1 _ i.asked told in
    let stands1 = stands_same [] gaz v0 v1 c.args.store.now.root c.loop-turn.store.root (i.asked.1.same told) i.root stands in
    over (told_on v1 v2 _ c.in-Ok-false.ensures.asked told1) gaz (stands_same [] gaz v1 v2 c.loop-turn.store.root c.gather_next.new.store.root (c.in-Ok-false.ensures.asked.1.same told1) c.in-Ok-false.ensures.root stands1))
    c.offer_gathered.ensures.damaged

pub returns-in-Ok-false-clause-asked : goal.returns-in-Ok-false-clause-asked
returns-in-Ok-false-clause-asked g c =
    let v = g.P.Pages.view in
    let v0 = v c.args.store.now.pages in
    let v1 = v c.loop-turn.store.pages in
    let v2 = v c.gather_next.new.store.pages in
    let v3 = v c.offer_gathered.new.store.pages in
    only_on v0 v1 v3 tt _ c.loop-turn.invariant.asked (only_on v1 v2 v3 tt _ c.in-Ok-false.ensures.asked c.offer_gathered.ensures.asked)

pub returns-in-Ok-false-clause-reads : goal.returns-in-Ok-false-clause-reads
returns-in-Ok-false-clause-reads g c told gaz stands left comes are =
    let v = g.P.Pages.view in
    let i = c.loop-turn.invariant in
    let a = asked c.args.query.now in
    let keep = c.args.best.now.keep in
    let is = stands.is_gazetteer in
    let v0 = v c.args.store.now.pages in
    let v1 = v c.loop-turn.store.pages in
    let v2 = v c.gather_next.new.store.pages in
    let told1 = told_on v0 v1 _ i.asked told in
    let stands1 = stands_same [] gaz v0 v1 c.args.store.now.root c.loop-turn.store.root (i.asked.1.same told) i.root stands in
    let told2 = told_on v1 v2 _ c.in-Ok-false.ensures.asked told1 in
    let stands2 = stands_same [] gaz v1 v2 c.loop-turn.store.root c.gather_next.new.store.root (c.in-Ok-false.ensures.asked.1.same told1) c.in-Ok-false.ensures.root stands1 in
    let p = i.pending told gaz stands left comes are is in
    let rest = rest_of gaz is a keep c.loop-turn._turn v1.page c.loop-turn.scan left c.loop-turn.candidates.items c.args.best.now.pairs c.loop-turn.best.pairs v0.reads v1.reads p 7 stands.pairs are in
    let few = turns_few gaz is a keep c.loop-turn._turn v1.page c.loop-turn.scan left c.loop-turn.candidates.items c.args.best.now.pairs c.loop-turn.best.pairs v0.reads v1.reads p in
    let items = c.gather_next.new.candidates.items in
    let before = p.read in
    let now = c.in-Ok-false.ensures.reads told1 gaz stands1 p.rest p.comes rest in
    let last = c.offer_gathered.ensures.reads told2 gaz stands2 (map (λ (e : Candidate). e.place) items) (own_places items) in
    omega (arith, few, before, now, last, length-map items (λ (e : Candidate). e.place))

pub returns-in-Ok-false-clause-once : goal.returns-in-Ok-false-clause-once
returns-in-Ok-false-clause-once g c told gaz stands left comes are few places have =
    let v = g.P.Pages.view in
    let i = c.loop-turn.invariant in
    let a = asked c.args.query.now in
    let keep = c.args.best.now.keep in
    let is = stands.is_gazetteer in
    let v0 = v c.args.store.now.pages in
    let v1 = v c.loop-turn.store.pages in
    let v2 = v c.gather_next.new.store.pages in
    let told1 = told_on v0 v1 _ i.asked told in
    let stands1 = stands_same [] gaz v0 v1 c.args.store.now.root c.loop-turn.store.root (i.asked.1.same told) i.root stands in
    let told2 = told_on v1 v2 _ c.in-Ok-false.ensures.asked told1 in
    let stands2 = stands_same [] gaz v1 v2 c.loop-turn.store.root c.gather_next.new.store.root (c.in-Ok-false.ensures.asked.1.same told1) c.in-Ok-false.ensures.root stands1 in
    let p = i.pending told gaz stands left comes are is in
    let rest = rest_of gaz is a keep c.loop-turn._turn v1.page c.loop-turn.scan left c.loop-turn.candidates.items c.args.best.now.pairs c.loop-turn.best.pairs v0.reads v1.reads p 7 stands.pairs are in
    let gathers = subst (GathersNext gaz a c.loop-turn.best.keep v2.page c.gather_next.new.scan p.rest c.loop-turn.candidates.items c.gather_next.new.candidates.items c.loop-turn.best.pairs c.gather_next.new.best.pairs) c.in-Ok-false.field-0-test (c.in-Ok-false.ensures.more told1 gaz stands1 p.rest p.comes rest p.led) in
    let same = gathered_all gaz is a keep c.loop-turn._turn v1.page c.loop-turn.scan left c.loop-turn.candidates.items c.args.best.now.pairs c.loop-turn.best.pairs v0.reads v1.reads p v2.page c.gather_next.new.scan c.gather_next.new.candidates.items c.gather_next.new.best.pairs v2.reads gathers few in
    let read = once_now gaz is a keep c.loop-turn._turn v1.page c.loop-turn.scan left c.loop-turn.candidates.items c.args.best.now.pairs c.loop-turn.best.pairs v0.reads v1.reads p few v2.reads (c.in-Ok-false.ensures.unread told1 gaz stands1 p.rest p.comes rest) in
    let last = c.offer_gathered.ensures.reads told2 gaz stands2 places (subst (HavePlaces places) (sym same) have) in
    omega (arith, read, last)
