-- Slots of a page in form, and what was written into one.
use Rattle.std.proofs.Common.{◌≡◌, ◌≢◌, ◌≤◌, ◌<◌, ◌+◌, ◌*◌, ℕ, true, List, length, drop, sym, ap, ◌∙◌, arith, inl, inr, Some, None}
use Rattle.std.specs.Prelude.{nat_lt, not, ◌==◌}
use Rattle.std.proofs.lemmas.Bool.{ltb-true, and_parts, cases_eq, eq-eqb, false≢true}
use Rattle.gaz_slots.specs.RecordPage.{count_in, from_in, size_in, is_used, is_record_page, slot_record}
use Rattle.gaz_slots.specs.Edited.{Filled, FilledExactly, Packs}
use Rattle.std.proofs.lemmas.List.{length-take-le, length-drop}
use Rattle.gaz_slots.specs.Bytes.{part}
use Rattle.gaz_slots.proofs.Form.{form_says, used_record}
use Rattle.gaz_slots.proofs.RoomLeft.{used_there}

pub slots_fit : (number : ℕ) (page : List ℕ) → is_record_page number page ≡ true → 16 + 4 * count_in page ≤ 4096
slots_fit number page form = let f = form_says number page form in omega (arith, f.slots, f.mark)

pub slot_small : (number slot : ℕ) (bytes old new : List ℕ) → FilledExactly number slot bytes old new → slot < 1020
slot_small number slot bytes old new f = omega (arith, slots_fit number new f.filled.form, f.count)

pub filled_packed : (number slot : ℕ) (bytes old packed new : List ℕ) → Packs number old packed → Filled number slot bytes packed new → Filled number slot bytes old new
filled_packed number slot bytes old packed new p f = record {
  form = f.form;
  there = f.there;
  was_free = sym (p.records slot) ∙ f.was_free;
  others = λ k differs. f.others k differs ∙ p.records k;
}

pub used_below : (page : List ℕ) (slot : ℕ) → is_used page slot ≡ true → slot < count_in page
used_below page slot used = ltb-true slot (count_in page) (and_parts (nat_lt slot (count_in page)) (not (from_in page slot == 0)) used).0

pub used_from : (page : List ℕ) (slot : ℕ) → is_used page slot ≡ true → from_in page slot ≢ 0
used_from page slot used free =
    let not_free = (and_parts (nat_lt slot (count_in page)) (not (from_in page slot == 0)) used).1 in
    false≢true ((λ i. not (sym (eq-eqb (from_in page slot) 0 free) i)) ∙ not_free)

pub free_from : (page : List ℕ) (slot : ℕ) → slot < count_in page → slot_record page slot ≡ None → from_in page slot ≡ 0
free_from page slot below none_ =
    elim (cases_eq (from_in page slot) 0) [
      | inl free ↦ free
      | inr used ↦ let wrong = sym none_ ∙ used_record page slot below used in absurd cc
    ]

-- the record of a page in form has as many bytes as its slot says, at most 4,076
pub record_size : (number : ℕ) (page : List ℕ) (slot : ℕ) (bytes : List ℕ) → is_record_page number page ≡ true → slot_record page slot ≡ Some bytes → length bytes ≡ size_in page slot
record_size number page slot bytes form is =
    let f = form_says number page form in
    let used = used_there page slot bytes is in
    let w = f.within slot (used_below page slot used) (used_from page slot used) in
    let both : Some bytes ≡ Some (part (from_in page slot) (size_in page slot) page) = sym is ∙ used_record page slot (used_below page slot used) (used_from page slot used) in
    let same : bytes ≡ part (from_in page slot) (size_in page slot) page = cc in
    ap (λ (b : List ℕ). length b) same ∙ length-take-le (size_in page slot) (drop (from_in page slot) page) (omega (arith, w.high, f.size, length-drop (from_in page slot) page))

pub size_small : (number : ℕ) (page : List ℕ) (slot : ℕ) → is_record_page number page ≡ true → is_used page slot ≡ true → size_in page slot ≤ 4076
size_small number page slot form used =
    let f = form_says number page form in
    let below = used_below page slot used in
    let w = f.within slot below (used_from page slot used) in
    omega (arith, below, f.slots, w.low, w.high)
