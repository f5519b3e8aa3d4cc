use Rattle.std.proofs.Common.{◌≡◌, ◌⊎◌, ℕ, true, false, arith, inl, inr}
use Rattle.std.specs.Prelude.{Result, Ok, Err, Bool, IfErr, OnOk}
use Rattle.gaz_page.specs.declared.pages.PageFault.{PageFault}
use Rattle.gaz_page.specs.declared.pages.PageFault.TheVariants.{Failed, Damaged, Memory}
use Rattle.gaz_page.specs.Pages.{PagesView, NotDamaged}
use Rattle.gaz_heap.specs.Heap.{Clears, GivesLast, DropsSlot, HasUsed}
use Rattle.gaz_heap.proofs.Asked.{told_still}
use Rattle.gaz_slots.proofs.Slots.{slots_fit, used_below}
use Rattle.gaz_heap.proofs.Stored.{slot_cleared, last_given, still_used}
use Rattle.gaz_heap.proofs.store.drop_slot.Goals as goal

-- a result of a call that never answers damage
by_result : (number slot : ℕ) (stays : Bool) (old new : PagesView) (r : Result Unit PageFault) → IfErr r NotDamaged → OnOk r ((Clears number slot old new × ((stays ≡ true) ⊎ HasUsed (new.page number))) ⊎ (GivesLast number slot old new × (stays ≡ false))) → DropsSlot number slot stays old new r
by_result number slot stays old new (Ok u) fault done = done
by_result number slot stays old new (Err (Damaged page)) fault done = absurd fault
by_result number slot stays old new (Err Failed) fault done = tt
by_result number slot stays old new (Err Memory) fault done = tt

weaker : {A B : Type 0} (r : Result Unit PageFault) → (A → B) → OnOk r A → OnOk r B
weaker (Ok u) more a = more a
weaker (Err e) more a = tt

pub clear_slot-requires-clause-slot : goal.clear_slot-requires-clause-slot
clear_slot-requires-clause-slot g c =
    let form = c.in-Ok.ensures.form in
    let used = used_below c.load_used.new.page c.args.slot (c.in-Ok.ensures.used) in
    omega (arith, used, slots_fit c.args.number c.load_used.new.page form)

pub returns-then-stays-clause-drops : goal.returns-then-stays-clause-drops
returns-then-stays-clause-drops g c told =
    let form = c.in-Ok.ensures.form in
    let used = c.in-Ok.ensures.used in
    let cleared = c.clear_slot.ensures.cleared c.args.number form (used_below c.load_used.new.page c.args.slot used) in
    let still = told_still (g.P.Pages.view c.args.pages.now) (g.P.Pages.view c.load_used.new.pages) c.load_used.ensures.reads.counts.told told in
    by_result c.args.number c.args.slot c.args.stays (g.P.Pages.view c.args.pages.now) (g.P.Pages.view c.write.new.self) c.write.result c.write.ensures.fault
    (weaker c.write.result
    (λ wrote. inl ((slot_cleared c.args.number c.args.slot c.load_used.new.page c.clear_slot.new.page (g.P.Pages.view c.args.pages.now) (g.P.Pages.view c.load_used.new.pages) (g.P.Pages.view c.write.new.self) (c.in-Ok.ensures.reads.same (λ failed. failed) told) (c.in-Ok.ensures.bytes told) form used cleared (wrote still)), inl c.if-stays.true))
    c.write.ensures.written)

pub used_end-requires-clause-slots : goal.used_end-requires-clause-slots
used_end-requires-clause-slots g c =
    let form = c.in-Ok.ensures.form in
    let used = c.in-Ok.ensures.used in
    slots_fit c.args.number c.clear_slot.new.page (c.clear_slot.ensures.cleared c.args.number form (used_below c.load_used.new.page c.args.slot used)).form

pub returns-then-used_end-eq0-clause-drops : goal.returns-then-used_end-eq0-clause-drops
returns-then-used_end-eq0-clause-drops g c told =
    let form = c.in-Ok.ensures.form in
    let used = c.in-Ok.ensures.used in
    let cleared = c.clear_slot.ensures.cleared c.args.number form (used_below c.load_used.new.page c.args.slot used) in
    let still = told_still (g.P.Pages.view c.args.pages.now) (g.P.Pages.view c.load_used.new.pages) c.load_used.ensures.reads.counts.told told in
    by_result c.args.number c.args.slot c.args.stays (g.P.Pages.view c.args.pages.now) (g.P.Pages.view c.give.new.self) c.give.result c.give.ensures.fault
    (weaker c.give.result
    (λ given. inr (last_given c.args.number c.args.slot c.used_end.result c.load_used.new.page c.clear_slot.new.page (g.P.Pages.view c.args.pages.now) (g.P.Pages.view c.load_used.new.pages) (g.P.Pages.view c.give.new.self) (c.in-Ok.ensures.reads.same (λ failed. failed) told) (c.in-Ok.ensures.bytes told) form used cleared c.if-used_end-eq0.true c.used_end.ensures.free (given still), c.if-stays.false))
    c.give.ensures.given)

pub returns-clause-drops : goal.returns-clause-drops
returns-clause-drops g c told =
    let form = c.in-Ok.ensures.form in
    let used = c.in-Ok.ensures.used in
    let cleared = c.clear_slot.ensures.cleared c.args.number form (used_below c.load_used.new.page c.args.slot used) in
    let still = told_still (g.P.Pages.view c.args.pages.now) (g.P.Pages.view c.load_used.new.pages) c.load_used.ensures.reads.counts.told told in
    by_result c.args.number c.args.slot c.args.stays (g.P.Pages.view c.args.pages.now) (g.P.Pages.view c.write-2.new.self) c.write-2.result c.write-2.ensures.fault
    (weaker c.write-2.result
    (λ wrote. inl ((slot_cleared c.args.number c.args.slot c.load_used.new.page c.clear_slot.new.page (g.P.Pages.view c.args.pages.now) (g.P.Pages.view c.load_used.new.pages) (g.P.Pages.view c.write-2.new.self) (c.in-Ok.ensures.reads.same (λ failed. failed) told) (c.in-Ok.ensures.bytes told) form used cleared (wrote still)), inr (still_used c.args.number c.used_end.result c.clear_slot.new.page (g.P.Pages.view c.load_used.new.pages) (g.P.Pages.view c.write-2.new.self) c.if-used_end-eq0.false c.used_end.ensures.within c.used_end.ensures.used (wrote still))))
    c.write-2.ensures.written)
