use Rattle.std.proofs.Common.{◌≡◌, ◌<◌, ◌⊎◌, ℕ, List, true, false, refl, subst, sym, ◌∙◌, inl, inr, arith}
use Rattle.std.specs.Prelude.{Result, Ok, Err, OnOk, Bool, ◌==◌}
use Rattle.std.proofs.lemmas.Bool.{eq-eqb, ne_eqb, eqb-true, false≢true}
use Rattle.gaz_page.specs.declared.pages.PageFault.{PageFault}
use Rattle.gaz_page.specs.Pages.{PagesView}
use Rattle.gaz_heap.specs.Place.{page_of, slot_of, is_chain}
use Rattle.gaz_heap.specs.Heap.{Clears, GivesLast, DropsSlot, HasUsed}
use Rattle.gaz_page.specs.Chains.{Each, InUse}
use Rattle.gaz_heap.specs.Facts.{IsHeap, Holds, Drops}
use Rattle.gaz_heap.proofs.Holds.{pages_slot, pages_chain, chain_of}
use Rattle.gaz_heap.proofs.ChainDrops.{chain_drops}
use Rattle.gaz_heap.proofs.SlotDrops.{cleared_drops, given_drops}
use Rattle.gaz_heap.proofs.Placing.{no_place}
use Rattle.gaz_heap.proofs.AnyDrops.{chain_any, chain_damage_at, slot_any_of, slot_damage_at}
use Rattle.gaz_heap.proofs.long.drop_record.Goals as goal

all_ok : (P : Type 0) (r : Result Unit PageFault) → P → OnOk r P
all_ok P (Ok u) p = p
all_ok P (Err e) p = tt

-- what the drop of a slot makes of all places
slot_dropped : (place current : ℕ) (old new : PagesView) (stays : Bool) → stays ≡ (page_of place == current) → (free bytes : List ℕ) → is_chain place ≡ false → IsHeap old current free → Holds old place bytes
    → (Clears (page_of place) (slot_of place) old new × ((stays ≡ true) ⊎ HasUsed (new.page (page_of place)))) ⊎ (GivesLast (page_of place) (slot_of place) old new × (stays ≡ false)) → Drops old new current free place
slot_dropped place current old new stays is free bytes no_ heap holds did =
    let used = (subst (λ (l : List ℕ). Each (InUse old) l) (pages_slot old.page place no_) holds.pages).0 in
    elim did [
      | inl clears ↦ cleared_drops (page_of place) (slot_of place) place current old new free clears.0 refl refl no_ used heap
          (λ away. elim clears.1 [
            | inl stays_ ↦ absurd (away (eqb-true (page_of place) current (sym is ∙ stays_)))
            | inr more ↦ more
          ])
      | inr gives ↦ given_drops (page_of place) (slot_of place) place current old new free gives.0 refl refl no_ used heap
          (λ same. false≢true (sym gives.1 ∙ is ∙ eq-eqb (page_of place) current same))
    ]

on_ok : (number slot : ℕ) (stays : Bool) (old new : PagesView) (P : Type 0) (r : Result Unit PageFault) → DropsSlot number slot stays old new r
    → ((Clears number slot old new × ((stays ≡ true) ⊎ HasUsed (new.page number))) ⊎ (GivesLast number slot old new × (stays ≡ false)) → P) → OnOk r P
on_ok number slot stays old new P (Ok u) did more = more did
on_ok number slot stays old new P (Err e) did more = tt

told_ok : (T P : Type 0) (r : Result Unit PageFault) → (T → OnOk r P) → OnOk r (T → P)
told_ok T P (Ok u) p = p
told_ok T P (Err e) p = tt

on_given : (G P : Type 0) (r : Result Unit PageFault) → OnOk r G → (G → P) → OnOk r P
on_given G P (Ok u) given more = more given
on_given G P (Err e) given more = tt

pub returns-then-slot-eq-CHAIN-clause-drops : goal.returns-then-slot-eq-CHAIN-clause-drops
returns-then-slot-eq-CHAIN-clause-drops g c =
    let old = g.P.Pages.view c.args.pages.now in
    let new = g.P.Pages.view c.drop_chain.new.pages in
    let place = c.args.place in
    let long = eq-eqb (slot_of place) 65535 c.if-slot-eq-CHAIN.true in
    on_given _ _ c.drop_chain.result c.drop_chain.ensures.given
    (λ gave told free bytes heap holds. chain_drops old new free bytes place c.args.current.now (record {
      gave = gave told free bytes heap.chain (subst (λ (l : List ℕ). Each (InUse old) l) (pages_chain old.page place long) holds.pages) (chain_of old.page place bytes long holds.at);
      heap = heap;
      holds = holds;
      long = long;
    }))

pub returns-else-slot-eq-CHAIN-clause-drops : goal.returns-else-slot-eq-CHAIN-clause-drops
returns-else-slot-eq-CHAIN-clause-drops g c =
    let old = g.P.Pages.view c.args.pages.now in
    let new = g.P.Pages.view c.drop_slot.new.pages in
    let current = c.args.current.now in
    let place = c.args.place in
    told_ok _ _ c.drop_slot.result
    (λ told. on_ok (page_of place) (slot_of place) (page_of place == current) old new _ c.drop_slot.result (c.drop_slot.ensures.drops told)
    (λ did free bytes heap holds. slot_dropped place current old new (page_of place == current) refl free bytes (ne_eqb (slot_of place) 65535 c.if-slot-eq-CHAIN.false) heap holds did))

pub returns-then-place-clause-damaged : goal.returns-then-place-clause-damaged
returns-then-place-clause-damaged g c told = no_place (g.P.Pages.view c.args.pages.now).page c.args.place c.if-place.true

pub returns-then-slot-eq-CHAIN-clause-any : goal.returns-then-slot-eq-CHAIN-clause-any
returns-then-slot-eq-CHAIN-clause-any g c =
    let low : page_of c.args.place < 4294967296 = omega (arith, c.if-place.false) in
    on_given _ _ c.drop_chain.result c.drop_chain.ensures.any
    (λ gave told. chain_any (g.P.Pages.view c.args.pages.now) (g.P.Pages.view c.drop_chain.new.pages) c.args.place low (eq-eqb (slot_of c.args.place) 65535 c.if-slot-eq-CHAIN.true) (gave told))

pub returns-then-slot-eq-CHAIN-clause-damaged : goal.returns-then-slot-eq-CHAIN-clause-damaged
returns-then-slot-eq-CHAIN-clause-damaged g c told =
    chain_damage_at (g.P.Pages.view c.args.pages.now).page c.args.place c.drop_chain.result c.if-place.false c.if-slot-eq-CHAIN.true (c.drop_chain.ensures.damaged told)

pub returns-else-slot-eq-CHAIN-clause-any : goal.returns-else-slot-eq-CHAIN-clause-any
returns-else-slot-eq-CHAIN-clause-any g c =
    let old = g.P.Pages.view c.args.pages.now in
    let new = g.P.Pages.view c.drop_slot.new.pages in
    let place = c.args.place in
    let low : page_of place < 4294967296 = omega (arith, c.if-place.false) in
    told_ok _ _ c.drop_slot.result
    (λ told. slot_any_of old new place (page_of place == c.args.current.now) c.drop_slot.result low (ne_eqb (slot_of place) 65535 c.if-slot-eq-CHAIN.false) (c.drop_slot.ensures.drops told))

pub returns-else-slot-eq-CHAIN-clause-damaged : goal.returns-else-slot-eq-CHAIN-clause-damaged
returns-else-slot-eq-CHAIN-clause-damaged g c told =
    let place = c.args.place in
    slot_damage_at (g.P.Pages.view c.args.pages.now) (g.P.Pages.view c.drop_slot.new.pages) place (page_of place == c.args.current.now) c.drop_slot.result c.if-place.false c.if-slot-eq-CHAIN.false (c.drop_slot.ensures.drops told)
