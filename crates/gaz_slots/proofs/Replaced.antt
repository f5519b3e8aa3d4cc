-- A record is put in place of another one, in a page that is packed without it.
use Rattle.std.proofs.Common.{◌≡◌, ◌≢◌, ◌≤◌, ◌<◌, ◌+◌, ◌*◌, ℕ, zero, suc, true, List, [], length, sym, ap, ◌∙◌, subst, arith, inl, inr}
use Rattle.std.specs.Prelude.{if◌then◌else◌, ◌==◌}
use Rattle.std.proofs.lemmas.Bool.{cases_eq}
use Rattle.gaz_slots.specs.RecordPage.{count_in, from_in, size_in, is_used, is_record_page}
use Rattle.gaz_slots.specs.Room.{held_by, held_below, used_below, last_used, size_with_other}
use Rattle.gaz_slots.specs.Edited.{Replaced, Overwritten, Cleared, FilledExactly, Packs}
use Rattle.gaz_slots.proofs.RoomLeft.{held_used, used_there}
use Rattle.gaz_slots.proofs.Slots.{used_below as slot_below}

-- the page with an empty record in place of the one of a slot
pub emptied_of : (number slot : ℕ) (page copy new : List ℕ) → copy ≡ page → is_record_page number page ≡ true → is_used page slot ≡ true
    → ((n : ℕ) → is_record_page n copy ≡ true → is_used copy slot ≡ true → 0 ≤ size_in copy slot → Overwritten n slot [] copy new) → Overwritten number slot [] page new
emptied_of number slot page copy new same form used written =
    subst (λ (p : List ℕ). Overwritten number slot [] p new) same
    (written number (subst (λ (p : List ℕ). is_record_page number p ≡ true) (sym same) form) (subst (λ (p : List ℕ). is_used p slot ≡ true) (sym same) used) (omega arith))

held_other : (number slot k : ℕ) (bytes old new : List ℕ) → Overwritten number slot bytes old new → k < count_in old → k ≢ slot → held_by new k ≡ held_by old k
held_other number slot k bytes old new o below differs = λ i. if o.froms k below i == 0 then 0 else o.sizes k below differs i

-- what the first slots hold
held_before : (number slot many : ℕ) (bytes old new : List ℕ) → Overwritten number slot bytes old new → many ≤ count_in old → many ≤ slot → held_below many new ≡ held_below many old
held_before number slot zero bytes old new o within before = omega arith
held_before number slot (suc many) bytes old new o within before =
    omega (arith, held_before number slot many bytes old new o (omega arith) (omega arith), held_other number slot many bytes old new o (omega arith) (omega arith))

held_with : (number slot many : ℕ) (bytes old new : List ℕ) → Overwritten number slot bytes old new → from_in old slot ≢ 0 → many ≤ count_in old → slot < many → held_below many new + held_by old slot ≡ held_below many old + length bytes
held_with number slot zero bytes old new o used within below = absurd (omega arith)
held_with number slot (suc many) bytes old new o used within below =
    elim (cases_eq many slot) [
      | inl is ↦
          let low : slot < count_in old = omega (arith, is, within) in
          let now = held_used new slot (λ free. used (sym (o.froms slot low) ∙ free)) in
          omega (
            arith,
            held_before number slot many bytes old new o (omega arith) (omega (arith, is)),
            ap (λ (k : ℕ). held_by new k) is,
            ap (λ (k : ℕ). held_by old k) is,
            now,
            o.size,
          )
      | inr differs ↦ omega (arith, held_with number slot many bytes old new o used (omega arith) (omega arith), held_other number slot many bytes old new o (omega arith) differs)
    ]

last_same : (number slot many : ℕ) (bytes old new : List ℕ) → Overwritten number slot bytes old new → many ≤ count_in old → used_below many new ≡ used_below many old
last_same number slot zero bytes old new o within = omega arith
last_same number slot (suc many) bytes old new o within =
    let below : many < count_in old = omega arith in
    λ i. if o.froms many below i == 0 then last_same number slot many bytes old new o (omega arith) i else suc many

-- there is no room in the page without the old record
pub full_other : (number slot n : ℕ) (page emptied : List ℕ) → Overwritten number slot [] page emptied → slot < count_in page → from_in page slot ≢ 0
    → 4096 < 16 + 4 * last_used emptied + held_below (count_in emptied) emptied + n → 4096 < size_with_other slot n page
unfolding size_with_other
full_other number slot n page emptied o below used none_ =
    let last : last_used emptied ≡ last_used page = ap (λ (m : ℕ). used_below m emptied) o.count ∙ last_same number slot (count_in page) [] page emptied o (omega arith) in
    let held : held_below (count_in emptied) emptied ≡ held_below (count_in page) emptied = ap (λ (m : ℕ). held_below m emptied) o.count in
    omega (arith, none_, last, held, held_with number slot (count_in page) [] page emptied o used (omega arith) below)

-- the slot is there in the packed page
pub slot_packed : (number slot : ℕ) (page emptied packed : List ℕ) → Overwritten number slot [] page emptied → Packs number emptied packed → slot < count_in packed
slot_packed number slot page emptied packed o p = slot_below packed slot (used_there packed slot [] (p.records slot ∙ o.replaced.there))

pub replaced_cleared : (number slot : ℕ) (bytes old cleared new : List ℕ) → Cleared number slot old cleared → FilledExactly number slot bytes cleared new → Replaced number slot bytes old new
replaced_cleared number slot bytes old cleared new c f = record {
  form = f.filled.form;
  there = f.filled.there;
  others = λ k differs. f.filled.others k differs ∙ c.others k differs;
}

pub replaced_packed : (number slot : ℕ) (bytes page emptied packed new : List ℕ) → Overwritten number slot [] page emptied → Packs number emptied packed → Replaced number slot bytes packed new → Replaced number slot bytes page new
replaced_packed number slot bytes page emptied packed new o p r = record {
  form = r.form;
  there = r.there;
  others = λ k differs. r.others k differs ∙ p.records k ∙ o.replaced.others k differs;
}
