-- A record page was written over one that was read, or into one that was taken.
use Rattle.std.proofs.Common.{◌≡◌, ◌≢◌, ◌≤◌, ◌<◌, ◌-◌, ℕ, true, List, sym, ap, ◌∙◌, subst, arith, Some, None, inl, inr}
use Rattle.std.specs.Prelude.{false}
use Rattle.std.proofs.lemmas.Bool.{cases_lt}
use Rattle.gaz_num.specs.Numbers.{some_if}
use Rattle.gaz_page.specs.Pages.{PagesView, SamePages, Writes, Takes, Gives}
use Rattle.gaz_page.proofs.PageMaps.{with_same, with_other}
use Rattle.gaz_slots.specs.Bytes.{part}
use Rattle.gaz_slots.specs.RecordPage.{count_in, from_in, size_in, is_used, is_record_page, slot_record}
use Rattle.gaz_slots.specs.Edited.{Filled, Cleared}
use Rattle.gaz_slots.specs.Overflow.{is_overflow_page, next_in, piece_in}
use Rattle.gaz_heap.specs.Heap.{Stores, StoresNew, StoresPiece, Clears, GivesLast, HasUsed}
use Rattle.gaz_slots.proofs.Form.{free_record, past_record}

-- a page without a used slot has no record
pub none_used : (page : List ℕ) (end : ℕ) → end ≡ 0 → ((k : ℕ) → end ≤ k → k < count_in page → from_in page k ≡ 0) → (k : ℕ) → slot_record page k ≡ None
none_used page end is free k =
    elim (cases_lt k (count_in page)) [
      | inl below ↦ free_record page k (free k (omega (arith, is)) below)
      | inr past ↦ past_record page k past
    ]

pub stored : (number slot : ℕ) (bytes read written : List ℕ) (old mid new : PagesView) → SamePages old mid → read ≡ old.page number → is_record_page number read ≡ true → Filled number slot bytes read written
    → ((k : ℕ) → k < slot → is_used read k ≡ true) → Writes number written mid new → Stores number slot bytes old new
stored number slot bytes read written old mid new same is form filled least writes =
    let there : new.page number ≡ written = (λ i. writes.pages i number) ∙ with_same number written mid.page in
    record {
      form = subst (λ (p : List ℕ). is_record_page number p ≡ true) is form;
      filled = subst (λ (p : List ℕ). Filled number slot bytes p (new.page number)) is (subst (λ (p : List ℕ). Filled number slot bytes read p) (sym there) filled);
      least = λ k below. subst (λ (p : List ℕ). is_used p k ≡ true) is (least k below);
      others = λ n differs. (λ i. writes.pages i n) ∙ with_other number n written mid.page differs ∙ (λ i. same.pages i n);
      free = writes.free ∙ same.free;
      fresh = writes.fresh ∙ same.fresh;
    }

pub stored_new : (number : ℕ) (bytes written : List ℕ) (old mid new : PagesView) → Takes old mid number → is_record_page number written ≡ true → slot_record written 0 ≡ Some bytes → ((slot : ℕ) → slot ≢ 0 → slot_record written slot ≡ None)
    → Writes number written mid new → StoresNew number bytes old new
stored_new number bytes written old mid new takes form there alone writes =
    let page : new.page number ≡ written = (λ i. writes.pages i number) ∙ with_same number written mid.page in
    record {
      taken = takes.first;
      free = ap (λ (n : ℕ). Some n) writes.free ∙ takes.free;
      fresh = writes.fresh ∙ takes.fresh;
      form = subst (λ (p : List ℕ). is_record_page number p ≡ true) (sym page) form;
      there = subst (λ (p : List ℕ). slot_record p 0 ≡ Some bytes) (sym page) there;
      alone = λ slot differs. subst (λ (p : List ℕ). slot_record p slot ≡ None) (sym page) (alone slot differs);
      others = λ n differs. (λ i. writes.pages i n) ∙ with_other number n written mid.page differs ∙ takes.others n differs;
    }

pub stored_piece : (number next : ℕ) (piece written : List ℕ) (old mid new : PagesView) → Takes old mid number → is_overflow_page number written ≡ true → next_in written ≡ next → piece_in written ≡ piece → Writes number written mid new → StoresPiece number next piece old new
stored_piece number next piece written old mid new takes form link is writes =
    let page : new.page number ≡ written = (λ i. writes.pages i number) ∙ with_same number written mid.page in
    record {
      taken = takes.first;
      free = ap (λ (n : ℕ). Some n) writes.free ∙ takes.free;
      fresh = writes.fresh ∙ takes.fresh;
      form = subst (λ (p : List ℕ). is_overflow_page number p ≡ true) (sym page) form;
      link = ap (λ (p : List ℕ). next_in p) page ∙ link;
      holds = ap (λ (p : List ℕ). piece_in p) page ∙ is;
      others = λ n differs. (λ i. writes.pages i n) ∙ with_other number n written mid.page differs ∙ takes.others n differs;
    }

pub slot_cleared : (number slot : ℕ) (read written : List ℕ) (old mid new : PagesView) → SamePages old mid → read ≡ old.page number → is_record_page number read ≡ true → is_used read slot ≡ true → Cleared number slot read written
    → Writes number written mid new → Clears number slot old new
slot_cleared number slot read written old mid new same is form used cleared writes =
    let there : new.page number ≡ written = (λ i. writes.pages i number) ∙ with_same number written mid.page in
    record {
      form = subst (λ (p : List ℕ). is_record_page number p ≡ true) is form;
      was_used = subst (λ (p : List ℕ). is_used p slot ≡ true) is used;
      cleared = subst (λ (p : List ℕ). Cleared number slot p (new.page number)) is (subst (λ (p : List ℕ). Cleared number slot read p) (sym there) cleared);
      others = λ n differs. (λ i. writes.pages i n) ∙ with_other number n written mid.page differs ∙ (λ i. same.pages i n);
      free = writes.free ∙ same.free;
      fresh = writes.fresh ∙ same.fresh;
    }

pub last_given : (number slot end : ℕ) (read written : List ℕ) (old mid new : PagesView) → SamePages old mid → read ≡ old.page number → is_record_page number read ≡ true → is_used read slot ≡ true → Cleared number slot read written
    → end ≡ 0 → ((k : ℕ) → end ≤ k → k < count_in written → from_in written k ≡ 0) → Gives number mid new → GivesLast number slot old new
last_given number slot end read written old mid new same is form used cleared none_ free gives =
    record {
      form = subst (λ (p : List ℕ). is_record_page number p ≡ true) is form;
      was_used = subst (λ (p : List ℕ). is_used p slot ≡ true) is used;
      alone = λ other differs. subst (λ (p : List ℕ). slot_record p other ≡ None) is (sym (cleared.others other differs) ∙ none_used written end none_ free other);
      gives = record {
        linked = gives.linked ∙ ap (λ (n : ℕ). Some n) same.free;
        free = gives.free;
        fresh = gives.fresh ∙ same.fresh;
        others = λ n differs. gives.others n differs ∙ (λ i. same.pages i n);
      };
    }

pub unused_record : (page : List ℕ) (slot : ℕ) → is_used page slot ≡ false → slot_record page slot ≡ None
unfolding slot_record
unused_record page slot unused = ap (λ b. some_if b (part (from_in page slot) (size_in page slot) page)) unused

pub still_used : (number end : ℕ) (written : List ℕ) (mid new : PagesView) → (end ≡ 0 → ⊥) → end ≤ count_in written → (0 < end → from_in written (end - 1) ≢ 0) → Writes number written mid new → HasUsed (new.page number)
still_used number end written mid new some within used writes =
    let there : new.page number ≡ written = (λ i. writes.pages i number) ∙ with_same number written mid.page in
    let more : 0 < end = omega arith in
    let low : end - 1 < count_in written = omega (arith, within, more) in
    let has : HasUsed written = (end - 1, low, used more) in
    subst HasUsed (sym there) has
