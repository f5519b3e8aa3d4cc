-- The drop of any place, whatever is supposed of the pages.
use Rattle.std.proofs.Common.{◌≡◌, ◌≢◌, ◌<◌, ℕ, true, false, List, sym, ap, ◌∙◌, subst, inl, inr}
use Rattle.std.specs.Prelude.{IsTrue, Bool, Option, Result, Ok, Err, OnOk}
use Rattle.gaz_page.specs.declared.pages.PageFault.{PageFault}
use Rattle.gaz_page.specs.declared.pages.PageFault.TheVariants.{Failed, Damaged, Memory}
use Rattle.gaz_page.specs.Pages.{PagesView}
use Rattle.gaz_page.specs.Chains.{Each, Among}
use Rattle.gaz_slots.specs.RecordPage.{is_record_page, is_used}
use Rattle.gaz_slots.specs.Overflow.{is_overflow_page}
use Rattle.gaz_heap.specs.Chain.{chain_at, long_enough}
use Rattle.gaz_heap.specs.Place.{record_at, page_of, slot_of, is_chain}
use Rattle.gaz_heap.specs.Heap.{DropsSlot, DropsPiece, DropDamage, GivesAll}
use Rattle.gaz_heap.specs.Facts.{DropsAny}
use Rattle.gaz_heap.proofs.Holds.{pages_chain, pages_slot}
use Rattle.gaz_heap.proofs.Placing.{chain_place, slot_place}
use Rattle.gaz_heap.proofs.Walks.{Walked, walked_damaged}

pub chain_damage : (old now new : PagesView) (first page turn : ℕ) (fault : PageFault) → turn < 17 → Walked old now first page turn → DropsPiece page now new (Err fault) → DropDamage {T = Unit} (chain_at 17 old.page first) (Err fault)
chain_damage old now new first page turn Failed low w d = tt
chain_damage old now new first page turn Memory low w d = tt
chain_damage old now new first page turn (Damaged damaged) low w d = walked_damaged old now first page turn low w d.1

-- ---- a long record

pub chain_any : (old new : PagesView) (place : ℕ) → page_of place < 4294967296 → is_chain place ≡ true → GivesAll (page_of place) old new → DropsAny old new place
chain_any old new place low long g =
    let mine = pages_chain old.page place long in
    record {
      low = low;
      was = (
        (λ is. subst (λ (l : List ℕ). Each (λ n. is_overflow_page n (old.page n) ≡ true) l) (sym mine) g.forms),
        (λ no_. absurd (no_ long)),
      );
      stays = λ n out. g.stays n (λ among. out (subst (λ (l : List ℕ). Among l n) (sym mine) among));
      fresh = g.fresh;
    }

pub chain_damage_at : (pages : ℕ → List ℕ) (place : ℕ) (r : Result Unit PageFault) → place < 281474976710656 → slot_of place ≡ 65535 → DropDamage (chain_at 17 pages (page_of place)) r → DropDamage (record_at pages place) r
chain_damage_at pages place (Ok u) near is d = tt
chain_damage_at pages place (Err Failed) near is d = tt
chain_damage_at pages place (Err Memory) near is d = tt
chain_damage_at pages place (Err (Damaged page)) near is d = chain_place pages place near is ∙ ap (λ (o : Option (List ℕ)). long_enough o) d

-- ---- a slot

slot_any : (old new : PagesView) (place : ℕ) → page_of place < 4294967296 → is_chain place ≡ false → is_record_page (page_of place) (old.page (page_of place)) ≡ true → IsTrue (is_used (old.page (page_of place)) (slot_of place))
    → ((n : ℕ) → n ≢ page_of place → new.page n ≡ old.page n) → new.fresh ≡ old.fresh → DropsAny old new place
slot_any old new place low no_ form used others fresh =
    let mine = pages_slot old.page place no_ in
    record {
      low = low;
      was = (
        (λ is. let wrong = subst (λ (b : Bool). IsTrue b) no_ is in absurd cc),
        (λ slotted. (form, used)),
      );
      stays = λ n out. others n (λ is. out (subst (λ (l : List ℕ). Among l n) (sym mine) (inl is)));
      fresh = fresh;
    }

pub slot_any_of : (old new : PagesView) (place : ℕ) (stays : Bool) (r : Result Unit PageFault) → page_of place < 4294967296 → is_chain place ≡ false → DropsSlot (page_of place) (slot_of place) stays old new r → OnOk r (DropsAny old new place)
slot_any_of old new place stays (Ok u) low no_ d =
    elim d [
      | inl clears ↦ slot_any old new place low no_ clears.0.form clears.0.was_used clears.0.others clears.0.fresh
      | inr gives ↦ slot_any old new place low no_ gives.0.form gives.0.was_used gives.0.gives.others gives.0.gives.fresh
    ]
slot_any_of old new place stays (Err fault) low no_ d = tt

pub slot_damage_at : (old new : PagesView) (place : ℕ) (stays : Bool) (r : Result Unit PageFault) → place < 281474976710656 → slot_of place ≢ 65535 → DropsSlot (page_of place) (slot_of place) stays old new r → DropDamage (record_at old.page place) r
slot_damage_at old new place stays (Ok u) near differs d = tt
slot_damage_at old new place stays (Err Failed) near differs d = tt
slot_damage_at old new place stays (Err Memory) near differs d = tt
slot_damage_at old new place stays (Err (Damaged page)) near differs d = slot_place old.page place near differs ∙ d.1
