-- A record is written into a free slot.
use Rattle.std.proofs.Common.{◌≡◌, ◌≢◌, ◌≤◌, ◌<◌, ◌+◌, ◌*◌, ◌⊎◌, ℕ, List, length, sym, ◌∙◌, ap, arith, inl, inr, subst, Some}
use Rattle.std.specs.Int.{w16, w32, to_be_bytes, from_be_bytes}
use Rattle.std.proofs.lemmas.Bool.{cases_eq, cases_lt}
use Rattle.gaz_page.specs.Free.{short_at}
use Rattle.gaz_slots.specs.Bytes.{part, edited}
use Rattle.gaz_slots.specs.RecordPage.{count_in, mark_in, from_in, size_in}
use Rattle.gaz_slots.specs.Edited.{Placed}
use Rattle.gaz_slots.proofs.Edits.{length-edited, kept, written, short_written, first_byte, second_byte}
use Rattle.gaz_slots.proofs.Form.{IsRecordPage, Within, form_from, used_record, same_record}

-- the page after the bytes, the mark and the slot are written
abbrev one : ℕ → List ℕ → List ℕ → List ℕ
one f bytes old = edited f bytes old

abbrev two : ℕ → List ℕ → List ℕ → List ℕ
two f bytes old = edited 12 (to_be_bytes w16 f) (one f bytes old)

abbrev three : ℕ → ℕ → List ℕ → List ℕ → List ℕ
three s f bytes old = edited (16 + 4 * s) (to_be_bytes w16 f) (two f bytes old)

abbrev pub filled : ℕ → ℕ → List ℕ → List ℕ → List ℕ
filled s f bytes old = edited (18 + 4 * s) (to_be_bytes w16 (length bytes)) (three s f bytes old)

-- what is asked of the page and the record
pub record Asks (number s f : ℕ) (bytes old : List ℕ) : Type 0 where
  pub form : IsRecordPage number old
  pub slot : s < count_in old
  pub free : from_in old s ≡ 0
  pub fits : f + length bytes ≡ mark_in old
  pub room : 16 + 4 * count_in old ≤ f

long_1 : (number s f : ℕ) (bytes old : List ℕ) → Asks number s f bytes old → length (one f bytes old) ≡ 4096
long_1 number s f bytes old a = length-edited f bytes old (omega (arith, a.form.size, a.fits, a.form.mark)) ∙ a.form.size

long_2 : (number s f : ℕ) (bytes old : List ℕ) → Asks number s f bytes old → length (two f bytes old) ≡ 4096
long_2 number s f bytes old a = length-edited 12 (to_be_bytes w16 f) (one f bytes old) (omega (arith, long_1 number s f bytes old a)) ∙ long_1 number s f bytes old a

long_3 : (number s f : ℕ) (bytes old : List ℕ) → Asks number s f bytes old → length (three s f bytes old) ≡ 4096
long_3 number s f bytes old a = length-edited (16 + 4 * s) (to_be_bytes w16 f) (two f bytes old) (omega (arith, long_2 number s f bytes old a, a.slot, a.form.slots, a.form.mark)) ∙ long_2 number s f bytes old a

long_4 : (number s f : ℕ) (bytes old : List ℕ) → Asks number s f bytes old → length (filled s f bytes old) ≡ 4096
long_4 number s f bytes old a = length-edited (18 + 4 * s) (to_be_bytes w16 (length bytes)) (three s f bytes old) (omega (arith, long_3 number s f bytes old a, a.slot, a.form.slots, a.form.mark)) ∙ long_3 number s f bytes old a

-- a part that lies outside of all that is written
untouched : (number s f : ℕ) (bytes old : List ℕ) (at n : ℕ) → Asks number s f bytes old → (at + n ≤ 12) ⊎ (14 ≤ at) → (at + n ≤ 16 + 4 * s) ⊎ (20 + 4 * s ≤ at) → (at + n ≤ f) ⊎ (f + length bytes ≤ at)
    → part at n (filled s f bytes old) ≡ part at n old
untouched number s f bytes old at n a mark slot record_ =
    let in_4 : 20 + 4 * s ≤ 4096 = omega (arith, a.slot, a.form.slots, a.form.mark) in
    let in_1 : f + length bytes ≤ length old = omega (arith, a.form.size, a.fits, a.form.mark) in
    let l1 = long_1 number s f bytes old a in
    let l2 = long_2 number s f bytes old a in
    let l3 = long_3 number s f bytes old a in
    let last : (at + n ≤ 18 + 4 * s) ⊎ (18 + 4 * s + 2 ≤ at) = elim slot [ inl b ↦ inl (omega arith) | inr b ↦ inr (omega arith) ] in
    let first : (at + n ≤ 16 + 4 * s) ⊎ (16 + 4 * s + 2 ≤ at) = elim slot [ inl b ↦ inl (omega arith) | inr b ↦ inr (omega arith) ] in
    let marked : (at + n ≤ 12) ⊎ (12 + 2 ≤ at) = elim mark [ inl b ↦ inl b | inr b ↦ inr (omega arith) ] in
    kept at n (18 + 4 * s) (to_be_bytes w16 (length bytes)) (three s f bytes old) (omega (arith, l3, in_4)) last
    ∙ kept at n (16 + 4 * s) (to_be_bytes w16 f) (two f bytes old) (omega (arith, l2, in_4)) first
    ∙ kept at n 12 (to_be_bytes w16 f) (one f bytes old) (omega (arith, l1)) marked
    ∙ kept at n f bytes old in_1 record_

-- a number of two bytes in such a part
short_kept : (number s f : ℕ) (bytes old : List ℕ) (at : ℕ) → Asks number s f bytes old → (at + 2 ≤ 12) ⊎ (14 ≤ at) → (at + 2 ≤ 16 + 4 * s) ⊎ (20 + 4 * s ≤ at) → (at + 2 ≤ f) ⊎ (f + length bytes ≤ at)
    → short_at at (filled s f bytes old) ≡ short_at at old
unfolding short_at
short_kept number s f bytes old at a mark slot record_ = ap (λ (b : List ℕ). from_be_bytes w16 b) (untouched number s f bytes old at 2 a mark slot record_)

slot_apart : (k s : ℕ) → k ≢ s → (16 + 4 * k + 4 ≤ 16 + 4 * s) ⊎ (20 + 4 * s ≤ 16 + 4 * k)
slot_apart k s differs = elim (cases_lt k s) [ inl before ↦ inl (omega arith) | inr past ↦ inr (omega arith) ]

from_kept : (number s f : ℕ) (bytes old : List ℕ) (k : ℕ) → Asks number s f bytes old → k ≢ s → k < count_in old → from_in (filled s f bytes old) k ≡ from_in old k
from_kept number s f bytes old k a differs below =
    let away : (16 + 4 * k + 2 ≤ 16 + 4 * s) ⊎ (20 + 4 * s ≤ 16 + 4 * k) = elim (slot_apart k s differs) [ inl b ↦ inl (omega arith) | inr b ↦ inr (omega arith) ] in
    short_kept number s f bytes old (16 + 4 * k) a (inr (omega arith)) away (inl (omega (arith, a.room)))

size_kept : (number s f : ℕ) (bytes old : List ℕ) (k : ℕ) → Asks number s f bytes old → k ≢ s → k < count_in old → size_in (filled s f bytes old) k ≡ size_in old k
size_kept number s f bytes old k a differs below =
    let away : (18 + 4 * k + 2 ≤ 16 + 4 * s) ⊎ (20 + 4 * s ≤ 18 + 4 * k) = elim (slot_apart k s differs) [ inl b ↦ inl (omega arith) | inr b ↦ inr (omega arith) ] in
    short_kept number s f bytes old (18 + 4 * k) a (inr (omega arith)) away (inl (omega (arith, a.room)))

record_kept : (number s f : ℕ) (bytes old : List ℕ) (k : ℕ) → Asks number s f bytes old → k < count_in old → from_in old k ≢ 0
    → part (from_in old k) (size_in old k) (filled s f bytes old) ≡ part (from_in old k) (size_in old k) old
record_kept number s f bytes old k a below used =
    let w = a.form.within k below used in
    untouched number s f bytes old (from_in old k) (size_in old k) a (inr (omega (arith, w.low, a.room, a.fits))) (inr (omega (arith, w.low, a.room, a.fits, a.slot))) (inr (omega (arith, w.low, a.fits)))

count_kept : (number s f : ℕ) (bytes old : List ℕ) → Asks number s f bytes old → count_in (filled s f bytes old) ≡ count_in old
count_kept number s f bytes old a = short_kept number s f bytes old 2 a (inl (omega arith)) (inl (omega arith)) (inl (omega (arith, a.room)))

mark_is : (number s f : ℕ) (bytes old : List ℕ) → Asks number s f bytes old → mark_in (filled s f bytes old) ≡ f
unfolding short_at
mark_is number s f bytes old a =
    let in_4 : 20 + 4 * s ≤ 4096 = omega (arith, a.slot, a.form.slots, a.form.mark) in
    ap (λ (b : List ℕ). from_be_bytes w16 b)
    (kept 12 2 (18 + 4 * s) (to_be_bytes w16 (length bytes)) (three s f bytes old) (omega (arith, long_3 number s f bytes old a, in_4)) (inl (omega arith))
    ∙ kept 12 2 (16 + 4 * s) (to_be_bytes w16 f) (two f bytes old) (omega (arith, long_2 number s f bytes old a, in_4)) (inl (omega arith)))
    ∙ short_written 12 f (one f bytes old) (omega (arith, long_1 number s f bytes old a)) (omega (arith, a.fits, a.form.mark))

from_is : (number s f : ℕ) (bytes old : List ℕ) → Asks number s f bytes old → from_in (filled s f bytes old) s ≡ f
unfolding short_at
from_is number s f bytes old a =
    let in_4 : 20 + 4 * s ≤ 4096 = omega (arith, a.slot, a.form.slots, a.form.mark) in
    ap (λ (b : List ℕ). from_be_bytes w16 b)
    (kept (16 + 4 * s) 2 (18 + 4 * s) (to_be_bytes w16 (length bytes)) (three s f bytes old) (omega (arith, long_3 number s f bytes old a, in_4)) (inl (omega arith)))
    ∙ short_written (16 + 4 * s) f (two f bytes old) (omega (arith, long_2 number s f bytes old a, in_4)) (omega (arith, a.fits, a.form.mark))

size_is : (number s f : ℕ) (bytes old : List ℕ) → Asks number s f bytes old → size_in (filled s f bytes old) s ≡ length bytes
size_is number s f bytes old a =
    let in_4 : 20 + 4 * s ≤ 4096 = omega (arith, a.slot, a.form.slots, a.form.mark) in
    short_written (18 + 4 * s) (length bytes) (three s f bytes old) (omega (arith, long_3 number s f bytes old a, in_4)) (omega (arith, a.fits, a.form.mark))

bytes_are : (number s f : ℕ) (bytes old : List ℕ) → Asks number s f bytes old → part f (length bytes) (filled s f bytes old) ≡ bytes
bytes_are number s f bytes old a =
    let in_4 : 20 + 4 * s ≤ 4096 = omega (arith, a.slot, a.form.slots, a.form.mark) in
    kept f (length bytes) (18 + 4 * s) (to_be_bytes w16 (length bytes)) (three s f bytes old) (omega (arith, long_3 number s f bytes old a, in_4)) (inr (omega (arith, a.room, a.slot)))
    ∙ kept f (length bytes) (16 + 4 * s) (to_be_bytes w16 f) (two f bytes old) (omega (arith, long_2 number s f bytes old a, in_4)) (inr (omega (arith, a.room, a.slot)))
    ∙ kept f (length bytes) 12 (to_be_bytes w16 f) (one f bytes old) (omega (arith, long_1 number s f bytes old a)) (inr (omega (arith, a.room)))
    ∙ written f bytes old (omega (arith, a.form.size, a.fits, a.form.mark))

stands : (number s f : ℕ) (bytes old : List ℕ) (k : ℕ) → Asks number s f bytes old → k < count_in old → from_in (filled s f bytes old) k ≢ 0 → Within (filled s f bytes old) k
stands number s f bytes old k a below used =
    elim (cases_eq k s) [
      | inl is ↦ subst (λ (m : ℕ). Within (filled s f bytes old) m) (sym is) (record {
        low = omega (arith, mark_is number s f bytes old a, from_is number s f bytes old a);
        high = omega (arith, size_is number s f bytes old a, from_is number s f bytes old a, a.fits, a.form.mark);
      })
      | inr differs ↦
          let from = from_kept number s f bytes old k a differs below in
          let w = a.form.within k below (λ is. used (from ∙ is)) in
          record {
            low = omega (arith, mark_is number s f bytes old a, from, w.low, a.fits);
            high = omega (arith, from, size_kept number s f bytes old k a differs below, w.high);
          }
    ]

-- the new record stands before all others
before_all : (number s f : ℕ) (bytes old : List ℕ) (k : ℕ) → Asks number s f bytes old → k ≢ s → k < count_in old → from_in (filled s f bytes old) k ≢ 0
    → from_in (filled s f bytes old) s + size_in (filled s f bytes old) s ≤ from_in (filled s f bytes old) k
before_all number s f bytes old k a differs below used =
    let from = from_kept number s f bytes old k a differs below in
    let w = a.form.within k below (λ is. used (from ∙ is)) in
    omega (arith, from_is number s f bytes old a, size_is number s f bytes old a, from, w.low, a.fits)

apart_still : (number s f : ℕ) (bytes old : List ℕ) (i j : ℕ) → Asks number s f bytes old → i < count_in old → j < i → from_in (filled s f bytes old) i ≢ 0 → from_in (filled s f bytes old) j ≢ 0
    → (from_in (filled s f bytes old) i + size_in (filled s f bytes old) i ≤ from_in (filled s f bytes old) j) ⊎ (from_in (filled s f bytes old) j + size_in (filled s f bytes old) j ≤ from_in (filled s f bytes old) i)
apart_still number s f bytes old i j a below less first second =
    let new = filled s f bytes old in
    elim (cases_eq i s) [
      | inl is ↦ inl (subst (λ (m : ℕ). from_in new m + size_in new m ≤ from_in new j) (sym is) (before_all number s f bytes old j a (λ same. omega (arith, same, is, less)) (omega arith) second))
      | inr not_i ↦ elim (cases_eq j s) [
        | inl is ↦ inr (subst (λ (m : ℕ). from_in new m + size_in new m ≤ from_in new i) (sym is) (before_all number s f bytes old i a not_i below first))
        | inr not_j ↦
            let low : j < count_in old = omega arith in
            let fi = from_kept number s f bytes old i a not_i below in
            let fj = from_kept number s f bytes old j a not_j low in
            let si = size_kept number s f bytes old i a not_i below in
            let sj = size_kept number s f bytes old j a not_j low in
            elim (a.form.apart i j below less (λ is. first (fi ∙ is)) (λ is. second (fj ∙ is))) [
              | inl x ↦ inl (omega (arith, fi, fj, si, x))
              | inr x ↦ inr (omega (arith, fi, fj, sj, x))
            ]
      ]
    ]

filled_form : (number s f : ℕ) (bytes old : List ℕ) → Asks number s f bytes old → IsRecordPage number (filled s f bytes old)
filled_form number s f bytes old a =
    let new = filled s f bytes old in
    let count = count_kept number s f bytes old a in
    let head = untouched number s f bytes old 0 2 a (inl (omega arith)) (inl (omega arith)) (inl (omega (arith, a.room))) in
    let own = untouched number s f bytes old 4 4 a (inl (omega arith)) (inl (omega arith)) (inl (omega (arith, a.room))) in
    let link = untouched number s f bytes old 8 4 a (inl (omega arith)) (inl (omega arith)) (inl (omega (arith, a.room))) in
    let ends = short_kept number s f bytes old 14 a (inr (omega arith)) (inl (omega arith)) (inl (omega (arith, a.room))) in
    record {
      size = long_4 number s f bytes old a;
      kind = first_byte new old head ∙ a.form.kind;
      zero_ = second_byte new old head ∙ a.form.zero_;
      own = ap (λ (b : List ℕ). from_be_bytes w32 b) own ∙ a.form.own;
      link = ap (λ (b : List ℕ). from_be_bytes w32 b) link ∙ a.form.link;
      ends = ends ∙ a.form.ends;
      slots = omega (arith, mark_is number s f bytes old a, count, a.room);
      mark = omega (arith, mark_is number s f bytes old a, a.fits, a.form.mark);
      within = λ k below used. stands number s f bytes old k a (omega (arith, below, count)) used;
      apart = λ i j below less first second. apart_still number s f bytes old i j a (omega (arith, below, count)) less first second;
    }

pub placed : (number s f : ℕ) (bytes old : List ℕ) → Asks number s f bytes old → Placed number s bytes old (filled s f bytes old)
placed number s f bytes old a =
    let new = filled s f bytes old in
    let count = count_kept number s f bytes old a in
    let from = from_is number s f bytes old a in
    let size = size_is number s f bytes old a in
    record {
      form = form_from number new (filled_form number s f bytes old a);
      there =
          used_record new s (omega (arith, count, a.slot)) (λ is. omega (arith, is, from, a.room))
          ∙ (λ i. Some (part (from i) (size i) new))
          ∙ ap (λ (b : List ℕ). Some b) (bytes_are number s f bytes old a);
      others = λ k differs. same_record old new k count (from_kept number s f bytes old k a differs) (size_kept number s f bytes old k a differs) (record_kept number s f bytes old k a);
      count = count;
      mark = omega (arith, mark_is number s f bytes old a, a.fits);
    }
