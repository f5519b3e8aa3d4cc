-- Used slots of a record page and the records at their places.
use Rattle.std.proofs.Common.{◌≡◌, ◌≢◌, ◌<◌, ◌+◌, ◌*◌, ◌⊎◌, ℕ, zero, suc, true, false, List, [], ◌∷◌, Some, None, refl, sym, ap, ◌∙◌, subst, arith, inl, inr}
use Rattle.std.specs.Prelude.{Contains, not, ◌==◌}
use Rattle.std.proofs.lemmas.Bool.{cases_eq, cases_lt, ne_eqb, eq-eqb, and_parts, ltb-true, lt-ltb}
use Rattle.std.proofs.lemmas.Option.{cond_some}
use Rattle.gaz_slots.specs.Bytes.{part}
use Rattle.gaz_slots.specs.RecordPage.{count_in, from_in, size_in, is_used, is_record_page, slot_record, record_in}
use Rattle.gaz_slots.proofs.Form.{form_says, used_record, free_record, past_record}
use Rattle.gaz_slots.proofs.Recorded.{formed}
use Rattle.gaz_heap.specs.Heap.{HasUsed}
use Rattle.gaz_heap.specs.Place.{page_of, record_at}
use Rattle.gaz_heap.proofs.Holds.{record_slot, far, nothing}
use Rattle.gaz_heap.proofs.StoredPuts.{the_page, the_slot, no_chain}
use Rattle.gaz_keys.proofs.Tags.{contained, contained_none}
use Rattle.gaz_rows.specs.Laid.{all_but}
use Rattle.gaz_rows.proofs.Members.{head_is_in, tail_is_in}

-- ---- the places but one

in_rest : (place x : ℕ) (xs : List ℕ) (other : ℕ) → x ≡ place → Contains (all_but place (x ∷ xs)) other → Contains (all_but place xs) other
in_rest place x xs other is has = rw (eq-eqb x place is) at has

in_front : (place x : ℕ) (xs : List ℕ) (other : ℕ) → x ≢ place → Contains (all_but place (x ∷ xs)) other → Contains (x ∷ all_but place xs) other
in_front place x xs other differs has = rw (ne_eqb x place differs) at has

pub among_all : (place : ℕ) (places : List ℕ) (other : ℕ) → Contains (all_but place places) other → Contains places other × (other ≢ place)
among_all place [] other has = absurd (contained_none other has)
among_all place (x ∷ xs) other has =
    elim (cases_eq x place) [
      | inl is ↦ (let more = among_all place xs other (in_rest place x xs other is has) in (tail_is_in x xs other more.0, more.1))
      | inr differs ↦ elim (contained x (all_but place xs) other (in_front place x xs other differs has)) [
        | inl same ↦ (subst (Contains (x ∷ xs)) same (head_is_in x xs), λ is. differs (same ∙ is))
        | inr later ↦ (let more = among_all place xs other later in (tail_is_in x xs other more.0, more.1))
      ]
    ]

pub among_rest : (place : ℕ) (places : List ℕ) (other : ℕ) → Contains places other → other ≢ place → Contains (all_but place places) other
among_rest place [] other has differs = absurd (contained_none other has)
among_rest place (x ∷ xs) other has differs =
    elim (cases_eq x place) [
      | inl is ↦ rw (eq-eqb x place is) (elim (contained x xs other has) [
        | inl same ↦ absurd (differs (sym same ∙ is))
        | inr later ↦ among_rest place xs other later differs
      ])
      | inr away ↦ rw (ne_eqb x place away) (elim (contained x xs other has) [
        | inl same ↦ subst (Contains (x ∷ all_but place xs)) same (head_is_in x (all_but place xs))
        | inr later ↦ tail_is_in x (all_but place xs) other (among_rest place xs other later differs)
      ])
    ]

-- ---- used slots

pub is_used_by : (page : List ℕ) (slot : ℕ) → slot < count_in page → from_in page slot ≢ 0 → is_used page slot ≡ true
is_used_by page slot below some = rw (lt-ltb slot (count_in page) below, ne_eqb (from_in page slot) 0 some) refl

pub used_by : (page : List ℕ) (slot : ℕ) → is_used page slot ≡ true → (slot < count_in page) × (from_in page slot ≢ 0)
used_by page slot used =
    let parts = and_parts _ _ used in
    (ltb-true slot (count_in page) parts.0, λ none_. absurd (let wrong : not (from_in page slot == 0) ≡ false = ap not (eq-eqb (from_in page slot) 0 none_) in let bad = sym wrong ∙ parts.1 in cc))

-- slots of a record page have small numbers
pub slot_small : (n slot : ℕ) (page : List ℕ) → is_record_page n page ≡ true → slot < count_in page → slot < 65535
slot_small n slot page form below = let says = form_says n page form in omega (arith, says.slots, says.mark, below)

pub used_small : (n slot : ℕ) (page : List ℕ) → is_record_page n page ≡ true → is_used page slot ≡ true → slot < 65535
used_small n slot page form used = slot_small n slot page form (used_by page slot used).0

used_among : (most : ℕ) (page : List ℕ) → ((slot : ℕ) × (slot < most) × (from_in page slot ≢ 0)) ⊎ ((slot : ℕ) → slot < most → from_in page slot ≡ 0)
used_among zero page = inr (λ slot below. absurd (omega (arith, below)))
used_among (suc most) page =
    elim (cases_eq (from_in page most) 0) [
      | inr some ↦ inl (most, omega arith, some)
      | inl none_ ↦ elim (used_among most page) [
        | inl one ↦ inl (one.0, (let below = one.1 in omega (arith, below)), one.2)
        | inr free ↦ inr (λ slot below. elim (cases_eq slot most) [
          | inl last ↦ subst (λ (k : ℕ). from_in page k ≡ 0) (sym last) none_
          | inr before ↦ free slot (omega (arith, below, before))
        ])
      ]
    ]

-- a page has a used slot, or no slot of it has a record
pub used_or_none : (page : List ℕ) → HasUsed page ⊎ ((slot : ℕ) → slot_record page slot ≡ None)
used_or_none page =
    elim (used_among (count_in page) page) [
      | inl one ↦ inl one
      | inr free ↦ inr (λ slot. elim (cases_lt slot (count_in page)) [
        | inl below ↦ free_record page slot (free slot below)
        | inr past ↦ past_record page slot past
      ])
    ]

-- ---- records at the places of slots

pub near_place : (pages : ℕ → List ℕ) (place : ℕ) (bytes : List ℕ) → record_at pages place ≡ Some bytes → page_of place < 4294967296
near_place pages place bytes is =
    elim (cases_lt (page_of place) 4294967296) [
      | inl low ↦ low
      | inr past ↦ absurd (nothing bytes (record_at pages place) (far pages place past) is)
    ]

pub slot_at : (pages : ℕ → List ℕ) (n slot : ℕ) → n < 4294967296 → slot < 65535 → is_record_page n (pages n) ≡ true → record_at pages (n * 65536 + slot) ≡ slot_record (pages n) slot
slot_at pages n slot low small form =
    record_slot pages (n * 65536 + slot) (omega (arith, low, the_page n slot small)) (no_chain n slot small)
    ∙ (λ i. record_in (the_page n slot small i) (pages (the_page n slot small i)) (the_slot n slot small i))
    ∙ formed n (pages n) slot form

-- a used slot has a record, and a slot that has one is used
pub used_has : (page : List ℕ) (slot : ℕ) → is_used page slot ≡ true → (bytes : List ℕ) × (slot_record page slot ≡ Some bytes)
used_has page slot used = let parts = used_by page slot used in (part (from_in page slot) (size_in page slot) page, used_record page slot parts.0 parts.1)

pub used_if : (page : List ℕ) (slot : ℕ) (bytes : List ℕ) → slot_record page slot ≡ Some bytes → is_used page slot ≡ true
unfolding slot_record
used_if page slot bytes is = (cond_some (is_used page slot) (part (from_in page slot) (size_in page slot) page) bytes is).0

-- a slot whose place has the same record on other pages is used there too
pub used_back : (old new : ℕ → List ℕ) (n slot : ℕ) → n < 4294967296 → slot < 65535 → is_record_page n (new n) ≡ true → is_record_page n (old n) ≡ true → record_at new (n * 65536 + slot) ≡ record_at old (n * 65536 + slot)
    → is_used (new n) slot ≡ true → is_used (old n) slot ≡ true
used_back old new n slot low small form was_form same used =
    let has = used_has (new n) slot used in
    used_if (old n) slot has.0 (sym (slot_at old n slot low small was_form) ∙ sym same ∙ slot_at new n slot low small form ∙ has.1)
