-- The slots with which a code is stepped in, by the slot that is told for it.
use Rattle.std.proofs.Common.{◌≡◌, ℕ, Bool, List, Option, Some, None, refl, ap}
use Rattle.std.specs.Prelude.{if◌then◌else◌}
use Rattle.std.proofs.lemmas.Slice.Eq.{bytes_eq-Decides}
use Rattle.gaz_num.specs.declared.words.Table.TheVariants.{Codes}
use Rattle.gaz_plain.specs.Gazetteer.{Gazetteer, IsGazetteer, line_with}
use Rattle.gaz_rows.specs.Index.{Slots, SlotsDiffer}
use Rattle.gaz_rows.specs.Steps.{SameSlots, slot_with, IsSlotOf, IsSlotFor}
use Rattle.gaz_rows.proofs.ReindexedSlots.{slot_kept, slot_new, slots_agree}

-- Slots that give the code this one, tell it from the other codes, and leave these theirs.
pub record AreSlotsFor (slots : Slots) (gaz : Gazetteer) (code : List ℕ) (slot : ℕ) : Type 0 where
  pub now : Slots
  pub same : SameSlots gaz slots now
  pub of : IsSlotOf now gaz code
  pub is : now code ≡ slot

pub slots_for : (slots : Slots) (gaz : Gazetteer) (code : List ℕ) (slot : ℕ) → IsGazetteer gaz → SlotsDiffer slots gaz → IsSlotFor slots gaz code slot → AreSlotsFor slots gaz code slot
slots_for slots gaz code slot gazetteer are told = by (line_with Codes code gaz) refl
  where
    by : (found : Option (List ℕ)) → line_with Codes code gaz ≡ found → AreSlotsFor slots gaz code slot
    by (Some was) is = record { now = slots; same = λ line has. refl; of = slot_kept slots gaz code was are is; is = told.own was is }
    by None is =
        let new = told.new is in
        record {
          now = slot_with slots code slot;
          same = slots_agree slots gaz code slot gazetteer is;
          of = slot_new slots gaz code slot new.0 new.1;
          is = ap (λ (b : Bool). if b then slot else slots code) ((bytes_eq-Decides code code).1 refl);
        }
