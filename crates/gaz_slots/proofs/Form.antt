-- A record page in form, part by part.
use Rattle.std.proofs.Common.{◌≡◌, ◌≢◌, ◌≤◌, ◌<◌, ◌+◌, ◌*◌, ◌⊎◌, ℕ, List, true, length, get_or, refl, sym, ◌∙◌, ap, arith, inl, inr, Some, None}
use Rattle.std.specs.Prelude.{◌==◌, ◌&&◌, ◌||◌, nat_le, slice_index}
use Rattle.std.proofs.lemmas.Bool.{and_parts, and_from, or_cases, or_left, or_right, eqb-true, eq-eqb, leb-true, le-leb, lt-ltb, le-ltb, ne_eqb, cases_lt, cases_eq}
use Rattle.gaz_page.specs.Root.{number_at}
use Rattle.gaz_page.specs.Free.{short_at}
use Rattle.gaz_slots.specs.Bytes.{part}
use Rattle.gaz_slots.specs.RecordPage.{all_below, count_in, mark_in, from_in, size_in, has_record_head, has_mark, is_within, is_apart, is_record_page, slot_record}
use Rattle.gaz_slots.proofs.Below.{all_at, all_from}

-- the record of a used slot stands between the mark and the end
pub record Within (page : List ℕ) (slot : ℕ) : Type 0 where
  pub low : mark_in page ≤ from_in page slot
  pub high : from_in page slot + size_in page slot ≤ 4096

pub record IsRecordPage (number : ℕ) (page : List ℕ) : Type 0 where
  pub size : length page ≡ 4096
  pub kind : get_or page 0 0 ≡ 3
  pub zero_ : get_or page 1 0 ≡ 0
  pub own : number_at 4 page ≡ number
  pub link : number_at 8 page ≡ 0
  pub ends : short_at 14 page ≡ 0
  pub slots : 16 + 4 * count_in page ≤ mark_in page
  pub mark : mark_in page ≤ 4096
  pub within : (k : ℕ) → k < count_in page → from_in page k ≢ 0 → Within page k
  pub apart : (i j : ℕ) → i < count_in page → j < i → from_in page i ≢ 0 → from_in page j ≢ 0 → (from_in page i + size_in page i ≤ from_in page j) ⊎ (from_in page j + size_in page j ≤ from_in page i)

pub within_says : (page : List ℕ) (k : ℕ) → is_within page k ≡ true → from_in page k ≢ 0 → Within page k
within_says page k is used =
    elim (or_cases (from_in page k == 0) (nat_le (mark_in page) (from_in page k) && nat_le (from_in page k + size_in page k) 4096) is) [
      | inl free ↦ absurd (used (eqb-true (from_in page k) 0 free))
      | inr both ↦ let parts = and_parts (nat_le (mark_in page) (from_in page k)) (nat_le (from_in page k + size_in page k) 4096) both in
          record { low = leb-true (mark_in page) (from_in page k) parts.0; high = leb-true (from_in page k + size_in page k) 4096 parts.1 }
    ]

pub within_from : (page : List ℕ) (k : ℕ) → (from_in page k ≢ 0 → Within page k) → is_within page k ≡ true
within_from page k says =
    elim (cases_eq (from_in page k) 0) [
      | inl free ↦ or_left (from_in page k == 0) _ (eq-eqb (from_in page k) 0 free)
      | inr used ↦ or_right (from_in page k == 0) _ (and_from (nat_le (mark_in page) (from_in page k)) (nat_le (from_in page k + size_in page k) 4096) (le-leb _ _ (says used).low) (le-leb _ _ (says used).high))
    ]

apart_says : (page : List ℕ) (i j : ℕ) → is_apart page i j ≡ true → from_in page i ≢ 0 → from_in page j ≢ 0 → (from_in page i + size_in page i ≤ from_in page j) ⊎ (from_in page j + size_in page j ≤ from_in page i)
apart_says page i j is one other =
    let a = from_in page i == 0 in
    let b = from_in page j == 0 in
    let x = nat_le (from_in page i + size_in page i) (from_in page j) in
    let y = nat_le (from_in page j + size_in page j) (from_in page i) in
    elim (or_cases (a || b || x) y is) [
      | inr last ↦ inr (leb-true (from_in page j + size_in page j) (from_in page i) last)
      | inl rest ↦ elim (or_cases (a || b) x rest) [
        | inr third ↦ inl (leb-true (from_in page i + size_in page i) (from_in page j) third)
        | inl two ↦ elim (or_cases a b two) [
          | inl free ↦ absurd (one (eqb-true (from_in page i) 0 free))
          | inr free ↦ absurd (other (eqb-true (from_in page j) 0 free))
        ]
      ]
    ]

pub apart_from : (page : List ℕ) (i j : ℕ) → (from_in page i ≢ 0 → from_in page j ≢ 0 → (from_in page i + size_in page i ≤ from_in page j) ⊎ (from_in page j + size_in page j ≤ from_in page i)) → is_apart page i j ≡ true
apart_from page i j says =
    let a = from_in page i == 0 in
    let b = from_in page j == 0 in
    let x = nat_le (from_in page i + size_in page i) (from_in page j) in
    let y = nat_le (from_in page j + size_in page j) (from_in page i) in
    elim (cases_eq (from_in page i) 0) [
      | inl free ↦ or_left (a || b || x) y (or_left (a || b) x (or_left a b (eq-eqb (from_in page i) 0 free)))
      | inr one ↦ elim (cases_eq (from_in page j) 0) [
        | inl free ↦ or_left (a || b || x) y (or_left (a || b) x (or_right a b (eq-eqb (from_in page j) 0 free)))
        | inr other ↦ elim (says one other) [
          | inl third ↦ or_left (a || b || x) y (or_right (a || b) x (le-leb _ _ third))
          | inr last ↦ or_right (a || b || x) y (le-leb _ _ last)
        ]
      ]
    ]

pub form_says : (number : ℕ) (page : List ℕ) → is_record_page number page ≡ true → IsRecordPage number page
unfolding is_record_page
form_says number page is =
    let head = has_record_head number page in
    let marked = has_mark page in
    let all_within = all_below (count_in page) (is_within page) in
    let all_apart = all_below (count_in page) (λ slot. all_below slot (is_apart page slot)) in
    let p0 = and_parts (head && marked && all_within) all_apart is in
    let p1 = and_parts (head && marked) all_within p0.0 in
    let p2 = and_parts head marked p1.0 in
    let size = length page == 4096 in
    let kind = slice_index page 0 == 3 in
    let zero_ = slice_index page 1 == 0 in
    let own = number_at 4 page == number in
    let link = number_at 8 page == 0 in
    let ends = short_at 14 page == 0 in
    let h5 = and_parts (size && kind && zero_ && own && link) ends p2.0 in
    let h4 = and_parts (size && kind && zero_ && own) link h5.0 in
    let h3 = and_parts (size && kind && zero_) own h4.0 in
    let h2 = and_parts (size && kind) zero_ h3.0 in
    let h1 = and_parts size kind h2.0 in
    let m = and_parts (nat_le (16 + 4 * count_in page) (mark_in page)) (nat_le (mark_in page) 4096) p2.1 in
    record {
      size = eqb-true (length page) 4096 h1.0;
      kind = eqb-true (slice_index page 0) 3 h1.1;
      zero_ = eqb-true (slice_index page 1) 0 h2.1;
      own = eqb-true (number_at 4 page) number h3.1;
      link = eqb-true (number_at 8 page) 0 h4.1;
      ends = eqb-true (short_at 14 page) 0 h5.1;
      slots = leb-true (16 + 4 * count_in page) (mark_in page) m.0;
      mark = leb-true (mark_in page) 4096 m.1;
      within = λ k below. within_says page k (all_at (count_in page) (is_within page) k p1.1 below);
      apart = λ i j below less. apart_says page i j (all_at i (is_apart page i) j (all_at (count_in page) (λ slot. all_below slot (is_apart page slot)) i p0.1 below) less);
    }

pub form_from : (number : ℕ) (page : List ℕ) → IsRecordPage number page → is_record_page number page ≡ true
unfolding is_record_page
form_from number page is =
    let head = has_record_head number page in
    let marked = has_mark page in
    let all_within = all_below (count_in page) (is_within page) in
    let all_apart = all_below (count_in page) (λ slot. all_below slot (is_apart page slot)) in
    let size = length page == 4096 in
    let kind = slice_index page 0 == 3 in
    let zero_ = slice_index page 1 == 0 in
    let own = number_at 4 page == number in
    let link = number_at 8 page == 0 in
    let ends = short_at 14 page == 0 in
    and_from (head && marked && all_within) all_apart
    (and_from (head && marked) all_within
    (and_from head marked
    (and_from (size && kind && zero_ && own && link) ends
    (and_from (size && kind && zero_ && own) link
    (and_from (size && kind && zero_) own
    (and_from (size && kind) zero_ (and_from size kind (eq-eqb _ _ is.size) (eq-eqb _ _ is.kind)) (eq-eqb _ _ is.zero_))
    (eq-eqb _ _ is.own))
    (eq-eqb _ _ is.link))
    (eq-eqb _ _ is.ends))
    (and_from (nat_le (16 + 4 * count_in page) (mark_in page)) (nat_le (mark_in page) 4096) (le-leb _ _ is.slots) (le-leb _ _ is.mark)))
    (all_from (count_in page) (is_within page) (λ k below. within_from page k (is.within k below))))
    (all_from (count_in page) (λ slot. all_below slot (is_apart page slot)) (λ i below. all_from i (is_apart page i) (λ j less. apart_from page i j (is.apart i j below less))))

-- the record of a used slot
pub used_record : (page : List ℕ) (k : ℕ) → k < count_in page → from_in page k ≢ 0 → slot_record page k ≡ Some (part (from_in page k) (size_in page k) page)
unfolding slot_record
used_record page k below used = rw (lt-ltb k (count_in page) below, ne_eqb (from_in page k) 0 used) refl

pub past_record : (page : List ℕ) (k : ℕ) → count_in page ≤ k → slot_record page k ≡ None
unfolding slot_record
past_record page k past = rw (le-ltb k (count_in page) past) refl

free_below : (page : List ℕ) (k : ℕ) → k < count_in page → from_in page k ≡ 0 → slot_record page k ≡ None
unfolding slot_record
free_below page k below free = rw (lt-ltb k (count_in page) below, eq-eqb (from_in page k) 0 free) refl

pub free_record : (page : List ℕ) (k : ℕ) → from_in page k ≡ 0 → slot_record page k ≡ None
free_record page k free =
    elim (cases_lt k (count_in page)) [
      | inl below ↦ free_below page k below free
      | inr past ↦ past_record page k past
    ]

-- pages of which a slot says the same have the same record in it
pub same_record : (old new : List ℕ) (k : ℕ) → count_in new ≡ count_in old → (k < count_in old → from_in new k ≡ from_in old k) → (k < count_in old → size_in new k ≡ size_in old k)
    → (k < count_in old → from_in old k ≢ 0 → part (from_in old k) (size_in old k) new ≡ part (from_in old k) (size_in old k) old) → slot_record new k ≡ slot_record old k
same_record old new k count from size same =
    elim (cases_lt k (count_in old)) [
      | inr past ↦ past_record new k (omega (arith, past, count)) ∙ sym (past_record old k past)
      | inl below ↦ elim (cases_eq (from_in old k) 0) [
        | inl free ↦ free_record new k (from below ∙ free) ∙ sym (free_record old k free)
        | inr used ↦
            used_record new k (omega (arith, below, count)) (λ is. used (sym (from below) ∙ is))
            ∙ (λ i. Some (part (from below i) (size below i) new))
            ∙ ap (λ (b : List ℕ). Some b) (same below used)
            ∙ sym (used_record old k below used)
      ]
    ]
