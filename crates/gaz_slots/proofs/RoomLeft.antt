-- How many bytes a page takes with one record more, and where it is packed.
use Rattle.std.proofs.Common.{◌≡◌, ◌≢◌, ◌≤◌, ◌<◌, ◌+◌, ◌*◌, ℕ, zero, suc, true, false, List, max, refl, sym, ap, ◌∙◌, arith, add-one, inl, inr, Some, None}
use Rattle.std.specs.Prelude.{Bool, if◌then◌else◌}
use Rattle.std.proofs.lemmas.Bool.{cases_Bool, cases_eq, cases_lt, eq-eqb, ne_eqb, false_from_ne_true}
use Rattle.gaz_slots.specs.Bytes.{part}
use Rattle.gaz_slots.specs.RecordPage.{all_below, count_in, mark_in, from_in, size_in, is_used, slot_record}
use Rattle.gaz_slots.specs.Room.{held_by, held_below, used_below, last_used, slots_with_one, size_with}
use Rattle.gaz_slots.specs.Edited.{Packs}
use Rattle.gaz_slots.proofs.Below.{all_at, all_from}
use Rattle.gaz_slots.proofs.Form.{used_record, free_record}

pub held_free : (page : List ℕ) (slot : ℕ) → from_in page slot ≡ 0 → held_by page slot ≡ 0
held_free page slot free = ap (λ (b : Bool). if b then 0 else size_in page slot) (eq-eqb (from_in page slot) 0 free)

pub held_used : (page : List ℕ) (slot : ℕ) → from_in page slot ≢ 0 → held_by page slot ≡ size_in page slot
held_used page slot used = ap (λ (b : Bool). if b then 0 else size_in page slot) (ne_eqb (from_in page slot) 0 used)

pub held_more : (slot : ℕ) (page : List ℕ) → held_below (slot + 1) page ≡ held_below slot page + held_by page slot
held_more slot page = rw (add-one) refl

pub held_grows : (few many : ℕ) (page : List ℕ) → few ≤ many → held_below few page ≤ held_below many page
held_grows few zero page less = ap_zero few (omega arith)
  where
    ap_zero : (few : ℕ) → few ≡ 0 → held_below few page ≤ 0
    ap_zero few is = omega (arith, ap (λ (k : ℕ). held_below k page) is)
held_grows few (suc many) page less =
    elim (cases_eq few (suc many)) [
      | inl is ↦ omega (arith, ap (λ (k : ℕ). held_below k page) is)
      | inr differs ↦ omega (arith, held_grows few many page (omega arith))
    ]

-- free slots behind others hold nothing
pub held_past : (few many : ℕ) (page : List ℕ) → few ≤ many → ((k : ℕ) → few ≤ k → k < many → from_in page k ≡ 0) → held_below many page ≡ held_below few page
held_past few zero page less free = ap (λ (k : ℕ). held_below k page) {x = zero} {y = few} (omega arith)
held_past few (suc many) page less free =
    elim (cases_eq few (suc many)) [
      | inl is ↦ ap (λ (k : ℕ). held_below k page) (sym is)
      | inr differs ↦ omega (arith, held_free page many (free many (omega arith) (omega arith)), held_past few many page (omega arith) (λ k past below. free k past (omega arith)))
    ]

pub last_free : (slot : ℕ) (page : List ℕ) → from_in page slot ≡ 0 → used_below (slot + 1) page ≡ used_below slot page
last_free slot page free = rw (add-one, eq-eqb (from_in page slot) 0 free) refl

pub last_is : (slot : ℕ) (page : List ℕ) → from_in page slot ≢ 0 → used_below (slot + 1) page ≡ slot + 1
last_is slot page used = rw (add-one, ne_eqb (from_in page slot) 0 used) refl

pub used_there : (page : List ℕ) (k : ℕ) (bytes : List ℕ) → slot_record page k ≡ Some bytes → is_used page k ≡ true
unfolding slot_record
used_there page k bytes is =
    elim (cases_Bool (is_used page k)) [
      | inl used ↦ used
      | inr unused ↦ let wrong : None ≡ Some bytes = sym (rw unused refl) ∙ is in absurd cc
    ]

pub used_in : (page : List ℕ) (k : ℕ) → k < count_in page → from_in page k ≢ 0 → is_used page k ≡ true
used_in page k below used = used_there page k _ (used_record page k below used)

pub not_used : (page : List ℕ) (k : ℕ) → slot_record page k ≡ None → is_used page k ≡ false
unfolding slot_record
not_used page k none_ =
    false_from_ne_true (is_used page k) (λ used. let wrong : Some (part (from_in page k) (size_in page k) page) ≡ None = sym (rw used refl) ∙ none_ in absurd cc)

-- a slot that is used in the packed page is so in the page
pub packed_used : (number : ℕ) (page packed : List ℕ) (k : ℕ) → Packs number page packed → k < count_in packed → from_in packed k ≢ 0 → is_used page k ≡ true
packed_used number page packed k p below used = used_there page k _ (sym (p.records k) ∙ used_record packed k below used)

slots_all : (page : List ℕ) → all_below (last_used page) (is_used page) ≡ true → slots_with_one page ≡ last_used page + 1
slots_all page all = ap (λ (b : Bool). if b then last_used page + 1 else last_used page) all

slots_some : (page : List ℕ) (k : ℕ) → k < last_used page → is_used page k ≡ false → slots_with_one page ≡ last_used page
slots_some page k below unused =
    ap (λ (b : Bool). if b then last_used page + 1 else last_used page)
    (false_from_ne_true (all_below (last_used page) (is_used page)) (λ all. let wrong : true ≡ false = sym (all_at (last_used page) (is_used page) k all below) ∙ unused in absurd cc))

pub slots_least : (page : List ℕ) → last_used page ≤ slots_with_one page
slots_least page =
    elim (cases_Bool (all_below (last_used page) (is_used page))) [
      | inl all ↦ omega (arith, slots_all page all)
      | inr not_all ↦ omega (arith, ap (λ (b : Bool). if b then last_used page + 1 else last_used page) not_all)
    ]

-- what is known of the least free slot of the packed page, or of the slot behind the others
pub record LeastFree (packed : List ℕ) (slot : ℕ) : Type 0 where
  pub within : slot ≤ count_in packed
  pub free : slot < count_in packed → from_in packed slot ≡ 0
  pub least : (k : ℕ) → k < slot → from_in packed k ≢ 0

-- the packed page has as many slots with one record more
pub slots_packed : (number : ℕ) (page packed : List ℕ) (slot : ℕ) → Packs number page packed → LeastFree packed slot → max (count_in packed) (slot + 1) ≡ slots_with_one page
slots_packed number page packed slot p l =
    elim (cases_lt slot (count_in packed)) [
      | inl below ↦ omega (arith, below, p.count, slots_some page slot (omega (arith, below, p.count)) (not_used page slot (sym (p.records slot) ∙ free_record packed slot (l.free below))))
      | inr past ↦
          omega (
            arith,
            past,
            l.within,
            p.count,
            slots_all page (all_from (last_used page) (is_used page) (λ k low.
                packed_used number page packed k p (omega (arith, low, p.count)) (l.least k (omega (arith, low, past, l.within, p.count))))),
          )
    ]

-- there was no room in the packed page
pub full_packed : (number n : ℕ) (page packed : List ℕ) (slot : ℕ) → Packs number page packed → LeastFree packed slot → mark_in packed < 16 + 4 * max (count_in packed) (slot + 1) + n → 4096 < size_with n page
unfolding size_with
full_packed number n page packed slot p l none_ = omega (arith, none_, p.mark, slots_packed number page packed slot p l)

-- there was no room to pack it
pub full_unpacked : (n : ℕ) (page : List ℕ) → 4096 < 16 + 4 * last_used page + held_below (count_in page) page → 4096 < size_with n page
unfolding size_with
full_unpacked n page none_ = omega (arith, none_, slots_least page)

-- there was no room for a slot and its record behind the ones before it
pub full_at : (mark slot : ℕ) (page : List ℕ) → mark + held_below slot page ≡ 4096 → mark < 20 + 4 * slot + held_by page slot → slot < last_used page → last_used page ≤ count_in page
    → 4096 < 16 + 4 * last_used page + held_below (count_in page) page
full_at mark slot page is none_ below within =
    omega (arith, is, none_, below, held_more slot page, held_grows (slot + 1) (count_in page) page (omega (arith, below, within)))
