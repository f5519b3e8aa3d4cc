-- The record that a page shows in a slot.
use Rattle.std.proofs.Common.{◌≡◌, ◌≢◌, ◌≤◌, ◌<◌, ◌+◌, ℕ, true, false, List, length, take, drop, refl, sym, ap, ◌∙◌, subst, arith, inl, inr, Some, None}
use Rattle.std.specs.Prelude.{Option, Bool, ◌&&◌}
use Rattle.std.proofs.lemmas.Bool.{cases_Bool, cases_lt, and_parts, and_from, and_right}
use Rattle.std.proofs.lemmas.List.{length-drop, length-take-le}
use Rattle.gaz_slots.specs.Bytes.{part, edited, IsCopied}
use Rattle.gaz_slots.specs.RecordPage.{all_below, count_in, from_in, size_in, has_record_head, has_mark, is_within, is_apart, is_record_page, slot_record, record_in, shows, shown_in}
use Rattle.gaz_slots.proofs.Edits.{front_written}
use Rattle.gaz_slots.proofs.Below.{all_at}
use Rattle.gaz_slots.proofs.Form.{used_record, past_record}
use Rattle.gaz_slots.proofs.Recorded.{formed, unformed}

pub shown_is : (number : ℕ) (page : List ℕ) (slot : ℕ) → shows number page slot ≡ true → shown_in number page slot ≡ slot_record page slot
unfolding shown_in
shown_is number page slot is = rw is refl

pub not_shown : (number : ℕ) (page : List ℕ) (slot : ℕ) → shows number page slot ≡ false → shown_in number page slot ≡ None
unfolding shown_in
not_shown number page slot bad = rw bad refl

pub none_shown : (number : ℕ) (page : List ℕ) (slot : ℕ) → slot_record page slot ≡ None → shown_in number page slot ≡ None
none_shown number page slot none_ =
    elim (cases_Bool (shows number page slot)) [
      | inl is ↦ shown_is number page slot is ∙ none_
      | inr bad ↦ not_shown number page slot bad
    ]

no_head : (number : ℕ) (page : List ℕ) (slot : ℕ) → has_record_head number page ≡ false → shows number page slot ≡ false
no_head number page slot bad = ap (λ (b : Bool). b && has_mark page && is_within page slot) bad

pub headless : (number : ℕ) (page : List ℕ) (slot : ℕ) → has_record_head number page ≡ false → shown_in number page slot ≡ None
headless number page slot bad = not_shown number page slot (no_head number page slot bad)

pub markless : (number : ℕ) (page : List ℕ) (slot : ℕ) → has_mark page ≡ false → shown_in number page slot ≡ None
markless number page slot bad =
    not_shown number page slot (ap (λ (b : Bool). b && is_within page slot) (and_right (has_record_head number page) (has_mark page) bad))

pub astray : (number : ℕ) (page : List ℕ) (slot : ℕ) → is_within page slot ≡ false → shown_in number page slot ≡ None
astray number page slot bad = not_shown number page slot (and_right (has_record_head number page && has_mark page) (is_within page slot) bad)

-- a page in form shows each of its records
pub shown_of_form : (number : ℕ) (page : List ℕ) (slot : ℕ) → is_record_page number page ≡ true → shown_in number page slot ≡ slot_record page slot
unfolding is_record_page
shown_of_form number page slot form =
    let head = has_record_head number page in
    let marked = has_mark page in
    let all_within = all_below (count_in page) (is_within page) in
    let all_apart = all_below (count_in page) (λ slot. all_below slot (is_apart page slot)) in
    let p0 = and_parts (head && marked && all_within) all_apart form in
    let p1 = and_parts (head && marked) all_within p0.0 in
    elim (cases_lt slot (count_in page)) [
      | inl below ↦ shown_is number page slot (and_from (head && marked) (is_within page slot) p1.0 (all_at (count_in page) (is_within page) slot p1.1 below))
      | inr past ↦ let none_ = past_record page slot past in none_shown number page slot none_ ∙ sym none_
    ]

pub record_shown : (number : ℕ) (page : List ℕ) (slot : ℕ) (bytes : List ℕ) → record_in number page slot ≡ Some bytes → shown_in number page slot ≡ Some bytes
record_shown number page slot bytes is =
    elim (cases_Bool (is_record_page number page)) [
      | inl form ↦ shown_of_form number page slot form ∙ sym (formed number page slot form) ∙ is
      | inr bad ↦ let wrong : None ≡ Some bytes = sym (unformed number page slot bad) ∙ is in absurd cc
    ]

pub copied_in : (number : ℕ) (page : List ℕ) (slot n : ℕ) (record_ old new : List ℕ) → shows number page slot ≡ true → slot < count_in page → from_in page slot ≢ 0 → n ≡ size_in page slot → record_ ≡ part (from_in page slot) n page
    → from_in page slot + n ≤ length page → new ≡ edited 0 record_ old → n ≤ length old → IsCopied n new (shown_in number page slot)
copied_in number page slot n record_ old new shown below used size is within made room =
    let long : length record_ ≡ n = ap (λ (b : List ℕ). length b) is ∙ length-take-le n (drop (from_in page slot) page) (omega (arith, within, length-drop (from_in page slot) page)) in
    let none_before : 0 + length record_ ≡ length record_ = omega arith in
    let front : take n new ≡ record_ = (λ i. take ((sym long ∙ sym none_before) i) (made i)) ∙ front_written 0 record_ old (omega (arith, long, room)) in
    let there : shown_in number page slot ≡ Some record_ =
    shown_is number page slot shown ∙ used_record page slot below used ∙ (λ i. Some (part (from_in page slot) (sym size i) page)) ∙ ap (λ (b : List ℕ). Some b) (sym is) in
    subst (λ (o : Option (List ℕ)). IsCopied n new o) (sym there) (sym long, front)
