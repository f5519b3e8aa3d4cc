-- A record is written over one that isn't shorter.
use Rattle.std.proofs.Common.{◌≡◌, ◌≢◌, ◌≤◌, ◌<◌, ◌+◌, ◌*◌, ◌⊎◌, ℕ, List, length, sym, ◌∙◌, ap, arith, inl, inr, subst, Some}
use Rattle.std.specs.Int.{w16, w32, to_be_bytes, from_be_bytes}
use Rattle.std.proofs.lemmas.Bool.{cases_eq, cases_lt}
use Rattle.gaz_page.specs.Free.{short_at}
use Rattle.gaz_slots.specs.Bytes.{part, edited}
use Rattle.gaz_slots.specs.RecordPage.{count_in, mark_in, from_in, size_in}
use Rattle.gaz_slots.specs.Edited.{Overwritten}
use Rattle.gaz_slots.proofs.Edits.{length-edited, kept, written, short_written, first_byte, second_byte}
use Rattle.gaz_slots.proofs.Form.{IsRecordPage, Within, form_from, used_record, same_record}

abbrev pub over : ℕ → List ℕ → List ℕ → List ℕ
over s bytes old = edited (18 + 4 * s) (to_be_bytes w16 (length bytes)) (edited (from_in old s) bytes old)

-- what is asked of the page and the record
pub record Over (number s : ℕ) (bytes old : List ℕ) : Type 0 where
  pub form : IsRecordPage number old
  pub slot : s < count_in old
  pub used : from_in old s ≢ 0
  pub fits : length bytes ≤ size_in old s

its_place : (number s : ℕ) (bytes old : List ℕ) → Over number s bytes old → Within old s
its_place number s bytes old a = a.form.within s a.slot a.used

long_1 : (number s : ℕ) (bytes old : List ℕ) → Over number s bytes old → length (edited (from_in old s) bytes old) ≡ 4096
long_1 number s bytes old a = length-edited (from_in old s) bytes old (omega (arith, a.form.size, a.fits, (its_place number s bytes old a).high)) ∙ a.form.size

long_2 : (number s : ℕ) (bytes old : List ℕ) → Over number s bytes old → length (over s bytes old) ≡ 4096
long_2 number s bytes old a =
    length-edited (18 + 4 * s) (to_be_bytes w16 (length bytes)) (edited (from_in old s) bytes old) (omega (arith, long_1 number s bytes old a, a.slot, a.form.slots, a.form.mark)) ∙ long_1 number s bytes old a

-- the records stand behind the slots
behind : (number s : ℕ) (bytes old : List ℕ) → Over number s bytes old → 16 + 4 * count_in old ≤ from_in old s
behind number s bytes old a = omega (arith, (its_place number s bytes old a).low, a.form.slots)

-- a part that lies outside of the length and the record
untouched : (number s : ℕ) (bytes old : List ℕ) (at n : ℕ) → Over number s bytes old → (at + n ≤ 18 + 4 * s) ⊎ (20 + 4 * s ≤ at) → (at + n ≤ from_in old s) ⊎ (from_in old s + length bytes ≤ at)
    → part at n (over s bytes old) ≡ part at n old
untouched number s bytes old at n a slot record_ =
    let in_2 : 20 + 4 * s ≤ 4096 = omega (arith, a.slot, a.form.slots, a.form.mark) in
    let in_1 : from_in old s + length bytes ≤ length old = omega (arith, a.form.size, a.fits, (its_place number s bytes old a).high) in
    let length_ : (at + n ≤ 18 + 4 * s) ⊎ (18 + 4 * s + 2 ≤ at) = elim slot [ inl b ↦ inl b | inr b ↦ inr (omega arith) ] in
    kept at n (18 + 4 * s) (to_be_bytes w16 (length bytes)) (edited (from_in old s) bytes old) (omega (arith, long_1 number s bytes old a, in_2)) length_
    ∙ kept at n (from_in old s) bytes old in_1 record_

-- a number of two bytes in such a part, before all records
short_kept : (number s : ℕ) (bytes old : List ℕ) (at : ℕ) → Over number s bytes old → (at + 2 ≤ 18 + 4 * s) ⊎ (20 + 4 * s ≤ at) → at + 2 ≤ 16 + 4 * count_in old → short_at at (over s bytes old) ≡ short_at at old
unfolding short_at
short_kept number s bytes old at a slot before = ap (λ (b : List ℕ). from_be_bytes w16 b) (untouched number s bytes old at 2 a slot (inl (omega (arith, before, behind number s bytes old a))))

count_kept : (number s : ℕ) (bytes old : List ℕ) → Over number s bytes old → count_in (over s bytes old) ≡ count_in old
count_kept number s bytes old a = short_kept number s bytes old 2 a (inl (omega arith)) (omega arith)

mark_kept : (number s : ℕ) (bytes old : List ℕ) → Over number s bytes old → mark_in (over s bytes old) ≡ mark_in old
mark_kept number s bytes old a = short_kept number s bytes old 12 a (inl (omega arith)) (omega arith)

from_kept : (number s : ℕ) (bytes old : List ℕ) (k : ℕ) → Over number s bytes old → k < count_in old → from_in (over s bytes old) k ≡ from_in old k
from_kept number s bytes old k a below =
    let away : (16 + 4 * k + 2 ≤ 18 + 4 * s) ⊎ (20 + 4 * s ≤ 16 + 4 * k) = elim (cases_lt s k) [ inl past ↦ inr (omega arith) | inr before ↦ inl (omega arith) ] in
    short_kept number s bytes old (16 + 4 * k) a away (omega (arith, below))

size_kept : (number s : ℕ) (bytes old : List ℕ) (k : ℕ) → Over number s bytes old → k ≢ s → k < count_in old → size_in (over s bytes old) k ≡ size_in old k
size_kept number s bytes old k a differs below =
    let away : (18 + 4 * k + 2 ≤ 18 + 4 * s) ⊎ (20 + 4 * s ≤ 18 + 4 * k) = elim (cases_lt k s) [ inl before ↦ inl (omega arith) | inr past ↦ inr (omega arith) ] in
    short_kept number s bytes old (18 + 4 * k) a away (omega (arith, below))

size_is : (number s : ℕ) (bytes old : List ℕ) → Over number s bytes old → size_in (over s bytes old) s ≡ length bytes
size_is number s bytes old a =
    let in_2 : 20 + 4 * s ≤ 4096 = omega (arith, a.slot, a.form.slots, a.form.mark) in
    short_written (18 + 4 * s) (length bytes) (edited (from_in old s) bytes old) (omega (arith, long_1 number s bytes old a, in_2)) (omega (arith, a.fits, (its_place number s bytes old a).high))

bytes_are : (number s : ℕ) (bytes old : List ℕ) → Over number s bytes old → part (from_in old s) (length bytes) (over s bytes old) ≡ bytes
bytes_are number s bytes old a =
    let in_2 : 20 + 4 * s ≤ 4096 = omega (arith, a.slot, a.form.slots, a.form.mark) in
    kept (from_in old s) (length bytes) (18 + 4 * s) (to_be_bytes w16 (length bytes)) (edited (from_in old s) bytes old) (omega (arith, long_1 number s bytes old a, in_2)) (inr (omega (arith, behind number s bytes old a, a.slot)))
    ∙ written (from_in old s) bytes old (omega (arith, a.form.size, a.fits, (its_place number s bytes old a).high))

-- no record is longer than it was
size_less : (number s : ℕ) (bytes old : List ℕ) (k : ℕ) → Over number s bytes old → k < count_in old → size_in (over s bytes old) k ≤ size_in old k
size_less number s bytes old k a below =
    elim (cases_eq k s) [
      | inl is ↦ subst (λ (m : ℕ). size_in (over s bytes old) m ≤ size_in old m) (sym is) (omega (arith, size_is number s bytes old a, a.fits))
      | inr differs ↦ omega (arith, size_kept number s bytes old k a differs below)
    ]

-- another record lies outside of the one that is written
record_apart : (number s : ℕ) (bytes old : List ℕ) (k : ℕ) → Over number s bytes old → k ≢ s → k < count_in old → from_in old k ≢ 0 → (from_in old k + size_in old k ≤ from_in old s) ⊎ (from_in old s + length bytes ≤ from_in old k)
record_apart number s bytes old k a differs below used =
    elim (cases_lt k s) [
      | inl before ↦ elim (a.form.apart s k a.slot before a.used used) [ inl x ↦ inr (omega (arith, x, a.fits)) | inr x ↦ inl x ]
      | inr past ↦ elim (a.form.apart k s below (omega (arith, past, differs)) used a.used) [ inl x ↦ inl x | inr x ↦ inr (omega (arith, x, a.fits)) ]
    ]

record_kept : (number s : ℕ) (bytes old : List ℕ) (k : ℕ) → Over number s bytes old → k ≢ s → k < count_in old → from_in old k ≢ 0
    → part (from_in old k) (size_in old k) (over s bytes old) ≡ part (from_in old k) (size_in old k) old
record_kept number s bytes old k a differs below used =
    let w = a.form.within k below used in
    untouched number s bytes old (from_in old k) (size_in old k) a (inr (omega (arith, w.low, a.form.slots, a.slot))) (record_apart number s bytes old k a differs below used)

over_form : (number s : ℕ) (bytes old : List ℕ) → Over number s bytes old → IsRecordPage number (over s bytes old)
over_form number s bytes old a =
    let new = over s bytes old in
    let count = count_kept number s bytes old a in
    let mark = mark_kept number s bytes old a in
    let behind_ = behind number s bytes old a in
    let head = untouched number s bytes old 0 2 a (inl (omega arith)) (inl (omega (arith, behind_))) in
    record {
      size = long_2 number s bytes old a;
      kind = first_byte new old head ∙ a.form.kind;
      zero_ = second_byte new old head ∙ a.form.zero_;
      own = ap (λ (b : List ℕ). from_be_bytes w32 b) (untouched number s bytes old 4 4 a (inl (omega arith)) (inl (omega (arith, behind_)))) ∙ a.form.own;
      link = ap (λ (b : List ℕ). from_be_bytes w32 b) (untouched number s bytes old 8 4 a (inl (omega arith)) (inl (omega (arith, behind_)))) ∙ a.form.link;
      ends = short_kept number s bytes old 14 a (inl (omega arith)) (omega arith) ∙ a.form.ends;
      slots = omega (arith, count, mark, a.form.slots);
      mark = omega (arith, mark, a.form.mark);
      within = λ k below used.
          let low : k < count_in old = omega (arith, below, count) in
          let from = from_kept number s bytes old k a low in
          let w = a.form.within k low (λ is. used (from ∙ is)) in
          record { low = omega (arith, mark, from, w.low); high = omega (arith, from, size_less number s bytes old k a low, w.high) };
      apart = λ i j below less first second.
          let low : i < count_in old = omega (arith, below, count) in
          let lower : j < count_in old = omega (arith, less, low) in
          let fi = from_kept number s bytes old i a low in
          let fj = from_kept number s bytes old j a lower in
          elim (a.form.apart i j low less (λ is. first (fi ∙ is)) (λ is. second (fj ∙ is))) [
            | inl x ↦ inl (omega (arith, fi, fj, size_less number s bytes old i a low, x))
            | inr x ↦ inr (omega (arith, fi, fj, size_less number s bytes old j a lower, x))
          ];
    }

pub overwritten : (number s : ℕ) (bytes old : List ℕ) → Over number s bytes old → Overwritten number s bytes old (over s bytes old)
overwritten number s bytes old a =
    let new = over s bytes old in
    let count = count_kept number s bytes old a in
    let from = from_kept number s bytes old s a a.slot in
    let size = size_is number s bytes old a in
    record {
      replaced = record {
        form = form_from number new (over_form number s bytes old a);
        there =
            used_record new s (omega (arith, count, a.slot)) (λ is. a.used (sym from ∙ is))
            ∙ (λ i. Some (part (from i) (size i) new))
            ∙ ap (λ (b : List ℕ). Some b) (bytes_are number s bytes old a);
        others = λ k differs. same_record old new k count (from_kept number s bytes old k a) (size_kept number s bytes old k a differs) (record_kept number s bytes old k a differs);
      };
      count = count;
      froms = λ k below. from_kept number s bytes old k a below;
      size = size;
      sizes = λ k below differs. size_kept number s bytes old k a differs below;
    }
