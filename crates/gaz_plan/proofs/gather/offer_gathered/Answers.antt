use Rattle.std.proofs.Common.{◌≡◌, true, List, length, sym, ap, subst, ◌∙◌}
use Rattle.std.specs.Prelude.{IsPermutation}
use Rattle.arrayvec.proofs.ArrayVecLemmas.{items-with_items}
use Rattle.gaz_pick.specs.Asked.{asked}
use Rattle.gaz_kin.proofs.Offered.{on_ok}
use Rattle.gaz_plan.specs.declared.gather.Candidate.{Candidate}
use Rattle.gaz_plan.specs.Gathered.{AreInOrder, AreLedTo, HavePlaces, is_gathered}
use Rattle.gaz_plan.proofs.Offering.{sees}
use Rattle.gaz_plan.proofs.Sorted.{gathered_moved, led_moved, places_moved}
use Rattle.gaz_plan.proofs.gather.offer_gathered.Goals as goal

pub offer_sorted-offered-requires-clause-order : goal.offer_sorted-offered-requires-clause-order
offer_sorted-offered-requires-clause-order g c =
    subst AreInOrder (sym (c.as_slice.ensures.value ∙ items-with_items c.args.candidates.now c.sort.new.candidates (c.sort.ensures.size ∙ ap length c.as_mut_slice.ensures.value))) c.sort.ensures.order

pub returns-clause-more : goal.returns-clause-more
returns-clause-more g c =
    let a = asked c.args.query.now in
    let old = c.args.candidates.now.items in
    let sorted = c.sort.new.candidates in
    let is : c.as_slice.result.now ≡ sorted = c.as_slice.ensures.value ∙ items-with_items c.args.candidates.now sorted (c.sort.ensures.size ∙ ap length c.as_mut_slice.ensures.value) in
    let moved : IsPermutation c.args.candidates.now.items c.sort.new.candidates = subst (λ (cs : List Candidate). IsPermutation cs c.sort.new.candidates) c.as_mut_slice.ensures.value c.sort.ensures.moved in
    on_ok _ _ c.offer_sorted-offered.result (λ over told gaz stands led.
    sees gaz stands.is_gazetteer a c.args.best.now.keep (is_gathered a c.as_slice.result.now) (is_gathered a old) c.args.best.now.pairs c.offer_sorted-offered.new.best.pairs
    (over told gaz stands (subst (AreLedTo gaz a) (sym is) (led_moved gaz a old sorted moved led)))
    (λ row there matches gathered. subst (λ (cs : List Candidate). is_gathered a cs row ≡ true) (sym is) (gathered_moved a old sorted row moved gathered)))
    c.offer_sorted-offered.ensures.more

pub returns-clause-reads : goal.returns-clause-reads
returns-clause-reads g c told gaz stands places have =
    let sorted = c.sort.new.candidates in
    let is : c.as_slice.result.now ≡ sorted = c.as_slice.ensures.value ∙ items-with_items c.args.candidates.now sorted (c.sort.ensures.size ∙ ap length c.as_mut_slice.ensures.value) in
    let moved : IsPermutation c.args.candidates.now.items c.sort.new.candidates = subst (λ (cs : List Candidate). IsPermutation cs c.sort.new.candidates) c.as_mut_slice.ensures.value c.sort.ensures.moved in
    c.offer_sorted-offered.ensures.reads told gaz stands places (subst (HavePlaces places) (sym is) (places_moved places c.args.candidates.now.items sorted moved have))
