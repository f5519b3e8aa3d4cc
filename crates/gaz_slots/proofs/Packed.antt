-- The slots of a page are copied one behind the other.
use Rattle.std.proofs.Common.{◌≡◌, ◌≢◌, ◌≤◌, ◌<◌, ◌+◌, ℕ, List, length, drop, sym, ap, ◌∙◌, arith, inl, inr, Some}
use Rattle.std.proofs.lemmas.Bool.{cases_eq, cases_lt}
use Rattle.std.proofs.lemmas.List.{length-take-le, length-drop}
use Rattle.gaz_slots.specs.Bytes.{part}
use Rattle.gaz_slots.specs.RecordPage.{count_in, from_in, size_in, slot_record}
use Rattle.gaz_slots.specs.Edited.{Added, FilledExactly, Packs, PacksFirst}
use Rattle.gaz_slots.specs.Room.{last_used}
use Rattle.gaz_slots.proofs.RoomLeft.{held_more, held_free, held_used, held_past}
use Rattle.gaz_slots.proofs.Form.{free_record, past_record, used_record}

pub packs_none : (number slot : ℕ) (page old new : List ℕ) → from_in page slot ≡ 0 → Added number old new → PacksFirst number slot page old → PacksFirst number (slot + 1) page new
packs_none number slot page old new free a p = record {
  form = a.form;
  count = omega (arith, a.count, p.count);
  mark = omega (arith, a.mark, p.mark, held_more slot page, held_free page slot free);
  records = λ k below. elim (cases_eq k slot) [
    | inl is ↦ a.records k ∙ past_record old k (omega (arith, is, p.count)) ∙ sym (free_record page k (ap (λ (m : ℕ). from_in page m) is ∙ free))
    | inr differs ↦ a.records k ∙ p.records k (omega arith)
  ];
}

pub packs_record : (number slot : ℕ) (page bytes old new : List ℕ) → slot < count_in page → from_in page slot ≢ 0 → from_in page slot + size_in page slot ≤ length page
    → bytes ≡ part (from_in page slot) (size_in page slot) page → FilledExactly number slot bytes old new → PacksFirst number slot page old → PacksFirst number (slot + 1) page new
packs_record number slot page bytes old new below used within is f p = record {
  form = f.filled.form;
  count = omega (arith, f.count, p.count);
  mark =
      omega (
        arith,
        f.mark,
        p.mark,
        held_more slot page,
        held_used page slot used,
        ap (λ (b : List ℕ). length b) is,
        length-take-le (size_in page slot) (drop (from_in page slot) page) (omega (arith, within, length-drop (from_in page slot) page)),
      );
  records = λ k low. elim (cases_eq k slot) [
    | inl same ↦
        ap (λ (m : ℕ). slot_record new m) same ∙ f.filled.there ∙ ap (λ (b : List ℕ). Some b) is
        ∙ sym (used_record page slot below used) ∙ ap (λ (m : ℕ). slot_record page m) (sym same)
    | inr differs ↦ f.filled.others k differs ∙ p.records k (omega arith)
  ];
}

pub packs_all : (number slots : ℕ) (page new : List ℕ) → slots ≡ last_used page → slots ≤ count_in page → ((k : ℕ) → slots ≤ k → k < count_in page → from_in page k ≡ 0) → PacksFirst number slots page new → Packs number page new
packs_all number slots page new last within free p = record {
  form = p.form;
  count = p.count ∙ last;
  mark = omega (arith, p.mark, held_past slots (count_in page) page within free);
  records = λ k. elim (cases_lt k slots) [
    | inl below ↦ p.records k below
    | inr past ↦ past_record new k (omega (arith, past, p.count)) ∙ sym (elim (cases_lt k (count_in page)) [
      | inl low ↦ free_record page k (free k past low)
      | inr out ↦ past_record page k out
    ])
  ];
}
