-- A slot is made free.
use Rattle.std.proofs.Common.{◌≡◌, ◌≢◌, ◌≤◌, ◌<◌, ◌+◌, ◌*◌, ◌⊎◌, ℕ, List, length, ◌∙◌, ap, arith, inl, inr}
use Rattle.std.specs.Int.{w16, w32, to_be_bytes, from_be_bytes}
use Rattle.std.proofs.lemmas.Bool.{cases_lt}
use Rattle.gaz_page.specs.Free.{short_at}
use Rattle.gaz_slots.specs.Bytes.{part, edited}
use Rattle.gaz_slots.specs.RecordPage.{count_in, from_in, size_in}
use Rattle.gaz_slots.specs.Edited.{Cleared}
use Rattle.gaz_slots.proofs.Edits.{length-edited, kept, short_written, first_byte, second_byte}
use Rattle.gaz_slots.proofs.Form.{IsRecordPage, form_from, free_record, same_record}

abbrev pub emptied : ℕ → List ℕ → List ℕ
emptied s old = edited (18 + 4 * s) (to_be_bytes w16 0) (edited (16 + 4 * s) (to_be_bytes w16 0) old)

long_1 : (s : ℕ) (old : List ℕ) → length old ≡ 4096 → 20 + 4 * s ≤ 4096 → length (edited (16 + 4 * s) (to_be_bytes w16 0) old) ≡ 4096
long_1 s old size within = length-edited (16 + 4 * s) (to_be_bytes w16 0) old (omega (arith, size, within)) ∙ size

pub long_emptied : (s : ℕ) (old : List ℕ) → length old ≡ 4096 → 20 + 4 * s ≤ 4096 → length (emptied s old) ≡ 4096
long_emptied s old size within = length-edited (18 + 4 * s) (to_be_bytes w16 0) (edited (16 + 4 * s) (to_be_bytes w16 0) old) (omega (arith, long_1 s old size within, within)) ∙ long_1 s old size within

pub away : (s : ℕ) (old : List ℕ) (at n : ℕ) → length old ≡ 4096 → 20 + 4 * s ≤ 4096 → (at + n ≤ 16 + 4 * s) ⊎ (20 + 4 * s ≤ at) → part at n (emptied s old) ≡ part at n old
away s old at n size within where_ =
    let first : (at + n ≤ 16 + 4 * s) ⊎ (16 + 4 * s + 2 ≤ at) = elim where_ [ inl b ↦ inl (omega arith) | inr b ↦ inr (omega arith) ] in
    let last : (at + n ≤ 18 + 4 * s) ⊎ (18 + 4 * s + 2 ≤ at) = elim where_ [ inl b ↦ inl (omega arith) | inr b ↦ inr (omega arith) ] in
    kept at n (18 + 4 * s) (to_be_bytes w16 0) (edited (16 + 4 * s) (to_be_bytes w16 0) old) (omega (arith, long_1 s old size within, within)) last
    ∙ kept at n (16 + 4 * s) (to_be_bytes w16 0) old (omega (arith, size, within)) first

pub short_away : (s : ℕ) (old : List ℕ) (at : ℕ) → length old ≡ 4096 → 20 + 4 * s ≤ 4096 → (at + 2 ≤ 16 + 4 * s) ⊎ (20 + 4 * s ≤ at) → short_at at (emptied s old) ≡ short_at at old
unfolding short_at
short_away s old at size within where_ = ap (λ (b : List ℕ). from_be_bytes w16 b) (away s old at 2 size within where_)

pub from_zero : (s : ℕ) (old : List ℕ) → length old ≡ 4096 → 20 + 4 * s ≤ 4096 → from_in (emptied s old) s ≡ 0
unfolding short_at
from_zero s old size within =
    ap (λ (b : List ℕ). from_be_bytes w16 b) (kept (16 + 4 * s) 2 (18 + 4 * s) (to_be_bytes w16 0) (edited (16 + 4 * s) (to_be_bytes w16 0) old) (omega (arith, long_1 s old size within, within)) (inl (omega arith)))
    ∙ short_written (16 + 4 * s) 0 old (omega (arith, size, within)) (omega arith)

slot_apart : (k s : ℕ) → k ≢ s → (16 + 4 * k + 4 ≤ 16 + 4 * s) ⊎ (20 + 4 * s ≤ 16 + 4 * k)
slot_apart k s differs = elim (cases_lt k s) [ inl before ↦ inl (omega arith) | inr past ↦ inr (omega arith) ]

pub from_away : (s : ℕ) (old : List ℕ) (k : ℕ) → length old ≡ 4096 → 20 + 4 * s ≤ 4096 → k ≢ s → from_in (emptied s old) k ≡ from_in old k
from_away s old k size within differs =
    let where_ : (16 + 4 * k + 2 ≤ 16 + 4 * s) ⊎ (20 + 4 * s ≤ 16 + 4 * k) = elim (slot_apart k s differs) [ inl b ↦ inl (omega arith) | inr b ↦ inr (omega arith) ] in
    short_away s old (16 + 4 * k) size within where_

pub size_away : (s : ℕ) (old : List ℕ) (k : ℕ) → length old ≡ 4096 → 20 + 4 * s ≤ 4096 → k ≢ s → size_in (emptied s old) k ≡ size_in old k
size_away s old k size within differs =
    let where_ : (18 + 4 * k + 2 ≤ 16 + 4 * s) ⊎ (20 + 4 * s ≤ 18 + 4 * k) = elim (slot_apart k s differs) [ inl b ↦ inl (omega arith) | inr b ↦ inr (omega arith) ] in
    short_away s old (18 + 4 * k) size within where_

-- what is used in it was another slot, which was used
other_used : (s : ℕ) (old : List ℕ) (k : ℕ) → length old ≡ 4096 → 20 + 4 * s ≤ 4096 → from_in (emptied s old) k ≢ 0 → (k ≢ s) × (from_in old k ≢ 0)
other_used s old k size within used =
    let differs : k ≢ s = λ is. used (ap (λ (m : ℕ). from_in (emptied s old) m) is ∙ from_zero s old size within) in
    (differs, λ is. used (from_away s old k size within differs ∙ is))

emptied_form : (number s : ℕ) (old : List ℕ) → IsRecordPage number old → s < count_in old → IsRecordPage number (emptied s old)
emptied_form number s old form below =
    let new = emptied s old in
    let size = form.size in
    let within : 20 + 4 * s ≤ 4096 = omega (arith, below, form.slots, form.mark) in
    let head = away s old 0 2 size within (inl (omega arith)) in
    let count = short_away s old 2 size within (inl (omega arith)) in
    let mark = short_away s old 12 size within (inl (omega arith)) in
    record {
      size = long_emptied s old size within;
      kind = first_byte new old head ∙ form.kind;
      zero_ = second_byte new old head ∙ form.zero_;
      own = ap (λ (b : List ℕ). from_be_bytes w32 b) (away s old 4 4 size within (inl (omega arith))) ∙ form.own;
      link = ap (λ (b : List ℕ). from_be_bytes w32 b) (away s old 8 4 size within (inl (omega arith))) ∙ form.link;
      ends = short_away s old 14 size within (inl (omega arith)) ∙ form.ends;
      slots = omega (arith, count, mark, form.slots);
      mark = omega (arith, mark, form.mark);
      within = λ k low used.
          let o = other_used s old k size within used in
          let w = form.within k (omega (arith, low, count)) o.1 in
          let from = from_away s old k size within o.0 in
          record { low = omega (arith, mark, from, w.low); high = omega (arith, from, size_away s old k size within o.0, w.high) };
      apart = λ i j low less first second.
          let o = other_used s old i size within first in
          let p = other_used s old j size within second in
          let fi = from_away s old i size within o.0 in
          let fj = from_away s old j size within p.0 in
          let si = size_away s old i size within o.0 in
          let sj = size_away s old j size within p.0 in
          elim (form.apart i j (omega (arith, low, count)) less o.1 p.1) [
            | inl x ↦ inl (omega (arith, fi, fj, si, x))
            | inr x ↦ inr (omega (arith, fi, fj, sj, x))
          ];
    }

pub cleared : (number s : ℕ) (old : List ℕ) → IsRecordPage number old → s < count_in old → Cleared number s old (emptied s old)
cleared number s old form below =
    let new = emptied s old in
    let size = form.size in
    let within : 20 + 4 * s ≤ 4096 = omega (arith, below, form.slots, form.mark) in
    let count = short_away s old 2 size within (inl (omega arith)) in
    record {
      form = form_from number new (emptied_form number s old form below);
      free = free_record new s (from_zero s old size within);
      others = λ k differs. same_record old new k count (λ _. from_away s old k size within differs) (λ _. size_away s old k size within differs)
          (λ low used. let w = form.within k low used in away s old (from_in old k) (size_in old k) size within (inr (omega (arith, w.low, form.slots, below))));
      count = count;
      mark = short_away s old 12 size within (inl (omega arith));
    }
