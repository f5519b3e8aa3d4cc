-- A free slot is added behind the others.
use Rattle.std.proofs.Common.{◌≡◌, ◌≢◌, ◌≤◌, ◌<◌, ◌+◌, ◌*◌, ◌⊎◌, ℕ, List, length, sym, ◌∙◌, ap, arith, inl, inr, Some, None}
use Rattle.std.specs.Int.{w16, w32, to_be_bytes, from_be_bytes}
use Rattle.std.proofs.lemmas.Bool.{cases_eq, cases_lt}
use Rattle.gaz_page.specs.Free.{short_at}
use Rattle.gaz_slots.specs.Bytes.{part, edited}
use Rattle.gaz_slots.specs.RecordPage.{count_in, mark_in, from_in, size_in, slot_record}
use Rattle.gaz_slots.specs.Edited.{Added}
use Rattle.gaz_slots.proofs.Edits.{length-edited, kept, short_written, first_byte, second_byte}
use Rattle.gaz_slots.proofs.Form.{IsRecordPage, form_from, used_record, free_record, past_record}
use Rattle.gaz_slots.proofs.Emptied.{emptied, long_emptied, away, from_zero}

abbrev pub grown : List ℕ → List ℕ
grown old = edited 2 (to_be_bytes w16 (count_in old + 1)) (emptied (count_in old) old)

-- the page has room for a slot more
pub record Fit (old : List ℕ) : Type 0 where
  pub size : length old ≡ 4096
  pub mark : mark_in old ≤ 4096
  pub room : 20 + 4 * count_in old ≤ mark_in old

-- what is asked of the page
pub record Room (number : ℕ) (old : List ℕ) : Type 0 where
  pub form : IsRecordPage number old
  pub room : 20 + 4 * count_in old ≤ mark_in old

fit : (number : ℕ) (old : List ℕ) → Room number old → Fit old
fit number old r = record { size = r.form.size; mark = r.form.mark; room = r.room }

long_grown : (old : List ℕ) → Fit old → length (grown old) ≡ 4096
long_grown old r =
    let long = long_emptied (count_in old) old r.size (omega (arith, r.room, r.mark)) in
    length-edited 2 (to_be_bytes w16 (count_in old + 1)) (emptied (count_in old) old) (omega (arith, long)) ∙ long

-- a part that lies neither in the count nor in the new slot
beside : (old : List ℕ) (at n : ℕ) → Fit old → (at + n ≤ 2) ⊎ (4 ≤ at) → (at + n ≤ 16 + 4 * count_in old) ⊎ (20 + 4 * count_in old ≤ at) → part at n (grown old) ≡ part at n old
beside old at n r count slot =
    let within : 20 + 4 * count_in old ≤ 4096 = omega (arith, r.room, r.mark) in
    kept at n 2 (to_be_bytes w16 (count_in old + 1)) (emptied (count_in old) old) (omega (arith, long_emptied (count_in old) old r.size within)) count
    ∙ away (count_in old) old at n r.size within slot

short_beside : (old : List ℕ) (at : ℕ) → Fit old → (at + 2 ≤ 2) ⊎ (4 ≤ at) → (at + 2 ≤ 16 + 4 * count_in old) ⊎ (20 + 4 * count_in old ≤ at) → short_at at (grown old) ≡ short_at at old
unfolding short_at
short_beside old at r count slot = ap (λ (b : List ℕ). from_be_bytes w16 b) (beside old at 2 r count slot)

pub count_more : (old : List ℕ) → Fit old → count_in (grown old) ≡ count_in old + 1
count_more old r =
    let within : 20 + 4 * count_in old ≤ 4096 = omega (arith, r.room, r.mark) in
    short_written 2 (count_in old + 1) (emptied (count_in old) old) (omega (arith, long_emptied (count_in old) old r.size within)) (omega (arith, within))

pub mark_same : (old : List ℕ) → Fit old → mark_in (grown old) ≡ mark_in old
mark_same old r = short_beside old 12 r (inr (omega arith)) (inl (omega arith))

from_new : (number : ℕ) (old : List ℕ) → Room number old → from_in (grown old) (count_in old) ≡ 0
unfolding short_at
from_new number old r =
    let within : 20 + 4 * count_in old ≤ 4096 = omega (arith, r.room, r.form.mark) in
    ap (λ (b : List ℕ). from_be_bytes w16 b) (kept (16 + 4 * count_in old) 2 2 (to_be_bytes w16 (count_in old + 1)) (emptied (count_in old) old) (omega (arith, long_emptied (count_in old) old r.form.size within)) (inr (omega arith)))
    ∙ from_zero (count_in old) old r.form.size within

from_same : (number : ℕ) (old : List ℕ) (k : ℕ) → Room number old → k < count_in old → from_in (grown old) k ≡ from_in old k
from_same number old k r below = short_beside old (16 + 4 * k) (fit number old r) (inr (omega arith)) (inl (omega arith))

size_same : (number : ℕ) (old : List ℕ) (k : ℕ) → Room number old → k < count_in old → size_in (grown old) k ≡ size_in old k
size_same number old k r below = short_beside old (18 + 4 * k) (fit number old r) (inr (omega arith)) (inl (omega arith))

-- what is used in it is an earlier slot
earlier : (number : ℕ) (old : List ℕ) (k : ℕ) → Room number old → k < count_in (grown old) → from_in (grown old) k ≢ 0 → k < count_in old
earlier number old k r below used =
    elim (cases_lt k (count_in old)) [
      | inl low ↦ low
      | inr past ↦
          let is : k ≡ count_in old = omega (arith, below, past, count_more old (fit number old r)) in
          absurd (used (ap (λ (m : ℕ). from_in (grown old) m) is ∙ from_new number old r))
    ]

grown_form : (number : ℕ) (old : List ℕ) → Room number old → IsRecordPage number (grown old)
grown_form number old r =
    let new = grown old in
    let form = r.form in
    let head = beside old 0 2 (fit number old r) (inl (omega arith)) (inl (omega arith)) in
    let mark = short_beside old 12 (fit number old r) (inr (omega arith)) (inl (omega arith)) in
    record {
      size = long_grown old (fit number old r);
      kind = first_byte new old head ∙ form.kind;
      zero_ = second_byte new old head ∙ form.zero_;
      own = ap (λ (b : List ℕ). from_be_bytes w32 b) (beside old 4 4 (fit number old r) (inr (omega arith)) (inl (omega arith))) ∙ form.own;
      link = ap (λ (b : List ℕ). from_be_bytes w32 b) (beside old 8 4 (fit number old r) (inr (omega arith)) (inl (omega arith))) ∙ form.link;
      ends = short_beside old 14 (fit number old r) (inr (omega arith)) (inl (omega arith)) ∙ form.ends;
      slots = omega (arith, count_more old (fit number old r), mark, r.room);
      mark = omega (arith, mark, form.mark);
      within = λ k below used.
          let low = earlier number old k r below used in
          let from = from_same number old k r low in
          let w = form.within k low (λ is. used (from ∙ is)) in
          record { low = omega (arith, mark, from, w.low); high = omega (arith, from, size_same number old k r low, w.high) };
      apart = λ i j below less first second.
          let low = earlier number old i r below first in
          let lower : j < count_in old = omega (arith, less, low) in
          let fi = from_same number old i r low in
          let fj = from_same number old j r lower in
          let si = size_same number old i r low in
          let sj = size_same number old j r lower in
          elim (form.apart i j low less (λ is. first (fi ∙ is)) (λ is. second (fj ∙ is))) [
            | inl x ↦ inl (omega (arith, fi, fj, si, x))
            | inr x ↦ inr (omega (arith, fi, fj, sj, x))
          ];
    }

grown_record : (number : ℕ) (old : List ℕ) (k : ℕ) → Room number old → k < count_in old → slot_record (grown old) k ≡ slot_record old k
grown_record number old k r below =
    let new = grown old in
    let from = from_same number old k r below in
    elim (cases_eq (from_in old k) 0) [
      | inl free ↦ free_record new k (from ∙ free) ∙ sym (free_record old k free)
      | inr used ↦
          let w = r.form.within k below used in
          used_record new k (omega (arith, below, count_more old (fit number old r))) (λ is. used (sym from ∙ is))
          ∙ (λ i. Some (part (from i) (size_same number old k r below i) new))
          ∙ ap (λ (b : List ℕ). Some b) (beside old (from_in old k) (size_in old k) (fit number old r) (inr (omega (arith, w.low, r.room))) (inr (omega (arith, w.low, r.room))))
          ∙ sym (used_record old k below used)
    ]

grown_none : (number : ℕ) (old : List ℕ) (k : ℕ) → Room number old → count_in old ≤ k → slot_record (grown old) k ≡ None
grown_none number old k r past =
    elim (cases_eq k (count_in old)) [
      | inl is ↦ free_record (grown old) k (ap (λ (m : ℕ). from_in (grown old) m) is ∙ from_new number old r)
      | inr more ↦ past_record (grown old) k (omega (arith, past, more, count_more old (fit number old r)))
    ]

pub added : (number : ℕ) (old : List ℕ) → Room number old → Added number old (grown old)
added number old r = record {
  form = form_from number (grown old) (grown_form number old r);
  free = from_new number old r;
  records = λ k. elim (cases_lt k (count_in old)) [
    | inl below ↦ grown_record number old k r below
    | inr past ↦ grown_none number old k r past ∙ sym (past_record old k past)
  ];
  count = count_more old (fit number old r);
  mark = short_beside old 12 (fit number old r) (inr (omega arith)) (inl (omega arith));
}
