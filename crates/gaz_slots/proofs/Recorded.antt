-- The record of a slot, where the page is in form.
use Rattle.std.proofs.Common.{◌≡◌, ℕ, true, false, List, refl, ◌∙◌, inl, inr, None}
use Rattle.std.proofs.lemmas.Bool.{cases_Bool}
use Rattle.gaz_slots.specs.RecordPage.{is_record_page, slot_record, record_in}

pub formed : (number : ℕ) (page : List ℕ) (slot : ℕ) → is_record_page number page ≡ true → record_in number page slot ≡ slot_record page slot
unfolding record_in
formed number page slot form = rw form refl

pub unformed : (number : ℕ) (page : List ℕ) (slot : ℕ) → is_record_page number page ≡ false → record_in number page slot ≡ None
unfolding record_in
unformed number page slot bad = rw bad refl

pub none_in : (number : ℕ) (page : List ℕ) (slot : ℕ) → (is_record_page number page ≡ true → slot_record page slot ≡ None) → record_in number page slot ≡ None
none_in number page slot none_ =
    elim (cases_Bool (is_record_page number page)) [
      | inl form ↦ formed number page slot form ∙ none_ form
      | inr bad ↦ unformed number page slot bad
    ]
