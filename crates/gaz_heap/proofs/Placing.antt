-- The record at a place, by its page and its slot.
use Rattle.std.proofs.Common.{◌≡◌, ◌≢◌, ◌≤◌, ◌<◌, ℕ, List, length, take, refl, sym, ◌∙◌, subst, arith, inl, inr, Some, None}
use Rattle.std.specs.Prelude.{Option, Result, Ok, Err, IfSome}
use Rattle.std.proofs.lemmas.Bool.{le-ltb, lt-ltb, eq-eqb, ne_eqb, cases_lt, cases_eq}
use Rattle.gaz_page.specs.declared.pages.PageFault.{PageFault}
use Rattle.gaz_page.specs.declared.pages.PageFault.TheVariants.{Failed, Damaged, Memory}
use Rattle.gaz_slots.specs.Bytes.{IsCopied}
use Rattle.gaz_slots.specs.RecordPage.{record_in, shown_in}
use Rattle.gaz_slots.proofs.Shown.{record_shown}
use Rattle.gaz_heap.specs.Heap.{GetsRecord, Gets}
use Rattle.gaz_heap.specs.Chain.{chain_at, long_enough}
use Rattle.gaz_heap.specs.Place.{record_at, shown_at, page_of, slot_of}

pub no_place : (pages : ℕ → List ℕ) (place : ℕ) → 281474976710656 ≤ place → record_at pages place ≡ None
unfolding record_at
no_place pages place far =
    let past : 4294967296 ≤ page_of place = omega arith in
    rw (le-ltb (page_of place) 4294967296 past) refl

pub chain_place : (pages : ℕ → List ℕ) (place : ℕ) → place < 281474976710656 → slot_of place ≡ 65535 → record_at pages place ≡ long_enough (chain_at 17 pages (page_of place))
unfolding record_at
chain_place pages place near is =
    let low : page_of place < 4294967296 = omega arith in
    rw (lt-ltb (page_of place) 4294967296 low, eq-eqb (slot_of place) 65535 is) refl

pub slot_place : (pages : ℕ → List ℕ) (place : ℕ) → place < 281474976710656 → slot_of place ≢ 65535 → record_at pages place ≡ record_in (page_of place) (pages (page_of place)) (slot_of place)
unfolding record_at
slot_place pages place near differs =
    let low : page_of place < 4294967296 = omega arith in
    rw (lt-ltb (page_of place) 4294967296 low, ne_eqb (slot_of place) 65535 differs) refl

pub no_place_shown : (pages : ℕ → List ℕ) (place : ℕ) → 281474976710656 ≤ place → shown_at pages place ≡ None
unfolding shown_at
no_place_shown pages place far =
    let past : 4294967296 ≤ page_of place = omega arith in
    rw (le-ltb (page_of place) 4294967296 past) refl

pub chain_place_shown : (pages : ℕ → List ℕ) (place : ℕ) → place < 281474976710656 → slot_of place ≡ 65535 → shown_at pages place ≡ long_enough (chain_at 17 pages (page_of place))
unfolding shown_at
chain_place_shown pages place near is =
    let low : page_of place < 4294967296 = omega arith in
    rw (lt-ltb (page_of place) 4294967296 low, eq-eqb (slot_of place) 65535 is) refl

pub slot_place_shown : (pages : ℕ → List ℕ) (place : ℕ) → place < 281474976710656 → slot_of place ≢ 65535 → shown_at pages place ≡ shown_in (page_of place) (pages (page_of place)) (slot_of place)
unfolding shown_at
slot_place_shown pages place near differs =
    let low : page_of place < 4294967296 = omega arith in
    rw (lt-ltb (page_of place) 4294967296 low, ne_eqb (slot_of place) 65535 differs) refl

-- where there is a record, it is shown
pub shown_there : (pages : ℕ → List ℕ) (place : ℕ) (bytes : List ℕ) → record_at pages place ≡ Some bytes → shown_at pages place ≡ Some bytes
shown_there pages place bytes is =
    elim (cases_lt place 281474976710656) [
      | inr far ↦ let wrong : None ≡ Some bytes = sym (no_place pages place far) ∙ is in absurd cc
      | inl near ↦ elim (cases_eq (slot_of place) 65535) [
        | inl chain ↦ chain_place_shown pages place near chain ∙ sym (chain_place pages place near chain) ∙ is
        | inr slot ↦ slot_place_shown pages place near slot ∙ record_shown (page_of place) (pages (page_of place)) (slot_of place) bytes (sym (slot_place pages place near slot) ∙ is)
      ]
    ]

-- so the answer to what is shown is one to the record
pub gets_shown : (pages : ℕ → List ℕ) (place : ℕ) (buf : List ℕ) (r : Result ℕ PageFault) → GetsRecord (shown_at pages place) buf r → Gets pages place buf r
gets_shown pages place buf (Ok n) g = by_record (record_at pages place) refl
  where
    by_record : (o : Option (List ℕ)) → record_at pages place ≡ o → IfSome o (λ bytes. (n ≡ length bytes) × (take n buf ≡ bytes))
    by_record None is = tt
    by_record (Some bytes) is = subst (λ (o : Option (List ℕ)). IsCopied n buf o) (shown_there pages place bytes is) g
gets_shown pages place buf (Err (Damaged page)) g = by_record (record_at pages place) refl
  where
    by_record : (o : Option (List ℕ)) → record_at pages place ≡ o → record_at pages place ≡ None
    by_record None is = is
    by_record (Some bytes) is = let wrong : None ≡ Some bytes = sym g ∙ shown_there pages place bytes is in absurd cc
gets_shown pages place buf (Err Failed) g = tt
gets_shown pages place buf (Err Memory) g = g
