-- Slots of codes: which one a code may have, and that those of the next gazetteer are told apart by theirs.
use Rattle.std.proofs.Common.{◌≡◌, ◌≢◌, ◌<◌, ◌^◌, ℕ, Bool, List, refl, sym, ◌∙◌, ap, subst, inl, inr, true, false, Option, Some, None}
use Rattle.std.specs.Prelude.{◌⊎◌, Contains, bytes_eq, if◌then◌else◌}
use Rattle.std.proofs.lemmas.Slice.Eq.{bytes_eq-Decides}
use Rattle.gaz_num.specs.Pieces.{column}
use Rattle.gaz_num.specs.declared.words.Table.{Table}
use Rattle.gaz_num.specs.declared.words.Table.TheVariants.{Codes}
use Rattle.gaz_name.specs.Name.{first_bytes}
use Rattle.gaz_plain.specs.Gazetteer.{Gazetteer, IsGazetteer, line_with, line_at}
use Rattle.gaz_plain.proofs.KeyOrder.{same_key}
use Rattle.gaz_rows.specs.Index.{Slots, SlotsDiffer}
use Rattle.gaz_rows.specs.Steps.{AreReplaced, SameSlots, slot_with, IsFreeSlot, IsSlotOf}
use Rattle.gaz_rows.proofs.ReindexedLines.{one_line, found_itself, find_has, none_is_some, false_is_true}
use Rattle.gaz_rows.proofs.Got.{has_key}

-- ---- which slot a code may have

-- a code that is there has its own
pub slot_kept : (slots : Slots) (gaz : Gazetteer) (code was : List ℕ) → SlotsDiffer slots gaz → line_with Codes code gaz ≡ Some was → IsSlotOf slots gaz code
slot_kept slots gaz code was are found = record {
  small = subst (λ text. slots text < 2 ^ 32) same (are.fit was there.0);
  alone = λ line has first is. ap (column 1) (are.differ line was has there.0 (first ∙ sym (ap (first_bytes 23) same)) (is ∙ sym (ap slots same))) ∙ same;
}
  where
    there : Contains gaz.codes was × (has_key Codes code was ≡ true)
    there = find_has (has_key Codes code) gaz.codes was found

    same : column 1 was ≡ code
    same = same_key (column 1 was) code there.1

module _ (slots : Slots) (gaz : Gazetteer) (code : List ℕ) (slot : ℕ) where
  own : slot_with slots code slot code ≡ slot
  own = ap (λ (b : Bool). if b then slot else slots code) ((bytes_eq-Decides code code).1 refl)

  other : (text : List ℕ) → text ≢ code → slot_with slots code slot text ≡ slots text
  other text differs = by (bytes_eq text code) refl
    where
      by : (b : Bool) → bytes_eq text code ≡ b → (if b then slot else slots text) ≡ slots text
      by true is = absurd (differs ((bytes_eq-Decides text code).0 is))
      by false is = refl

  -- A code that isn't there gets one that is free.
  pub slot_new : slot < 2 ^ 32 → IsFreeSlot slots gaz code slot → IsSlotOf (slot_with slots code slot) gaz code
  slot_new small free = record {
    small = subst (λ n. n < 2 ^ 32) (sym own) small;
    alone = alone;
  }
    where
      alone : (line : List ℕ) → Contains gaz.codes line → first_bytes 23 (column 1 line) ≡ first_bytes 23 code → slot_with slots code slot (column 1 line) ≡ slot_with slots code slot code → column 1 line ≡ code
      alone line has first same = by (bytes_eq (column 1 line) code) refl
        where
          by : (b : Bool) → bytes_eq (column 1 line) code ≡ b → column 1 line ≡ code
          by true is = (bytes_eq-Decides (column 1 line) code).0 is
          by false is = absurd (free line has first (sym (other (column 1 line) (λ e. false_is_true (sym is ∙ (bytes_eq-Decides (column 1 line) code).1 e))) ∙ same ∙ own))

  -- The codes that are there keep theirs.
  pub slots_agree : IsGazetteer gaz → line_with Codes code gaz ≡ None → SameSlots gaz slots (slot_with slots code slot)
  slots_agree is none line has =
      other (column 1 line) (λ same. none_is_some line (sym none ∙ ap (λ text. line_at Codes text gaz.codes) (sym same) ∙ found_itself Codes gaz.codes line (is.tables Codes).rising has))

-- ---- the next gazetteer

module _ (slots : Slots) (gaz next : Gazetteer) (table : Table) (old : Option (List ℕ)) (line : List ℕ) (new : Option (List ℕ)) (is_next : IsGazetteer next) (are : SlotsDiffer slots gaz) (replaced : AreReplaced gaz next table old new)
    (new_is : (l : List ℕ) → new ≡ Some l → l ≡ line) (slot : table ≡ Codes → IsSlotOf slots gaz (column 1 line)) where
  -- a code of the next gazetteer is the one that came, or was there
  came_or_was : (l : List ℕ) → Contains next.codes l → ((table ≡ Codes) × (l ≡ line)) ⊎ Contains gaz.codes l
  came_or_was l has = elim (replaced.before Codes l has) [
    | inl one ↦ inl (sym one.0, new_is l one.1)
    | inr kept ↦ inr kept.0
  ]

  same_code : (a b : List ℕ) → Contains next.codes a → Contains next.codes b → column 1 a ≡ column 1 b → a ≡ b
  same_code a b has also same = one_line Codes next.codes a b (is_next.tables Codes).rising has also same

  small : (l : List ℕ) → Contains next.codes l → slots (column 1 l) < 2 ^ 32
  small l has = elim (came_or_was l has) [
    | inl new ↦ subst (λ m. slots (column 1 m) < 2 ^ 32) (sym new.1) (slot new.0).small
    | inr was ↦ are.fit l was
  ]

  -- the code that came and one that was there
  new_told : (l : List ℕ) → table ≡ Codes → Contains gaz.codes l → first_bytes 23 (column 1 l) ≡ first_bytes 23 (column 1 line) → slots (column 1 l) ≡ slots (column 1 line) → column 1 l ≡ column 1 line
  new_told l codes has = (slot codes).alone l has

  told : (a b : List ℕ) → Contains next.codes a → Contains next.codes b → first_bytes 23 (column 1 a) ≡ first_bytes 23 (column 1 b) → slots (column 1 a) ≡ slots (column 1 b) → a ≡ b
  told a b has also first same = elim (came_or_was a has) [
    | inl one ↦ elim (came_or_was b also) [
      | inl two ↦ one.1 ∙ sym two.1
      | inr was ↦ same_code a b has also (ap (column 1) one.1 ∙ sym (new_told b one.0 was (sym first ∙ ap (λ l. first_bytes 23 (column 1 l)) one.1) (sym same ∙ ap (λ l. slots (column 1 l)) one.1)))
    ]
    | inr was ↦ elim (came_or_was b also) [
      | inl two ↦ same_code a b has also (new_told a two.0 was (first ∙ ap (λ l. first_bytes 23 (column 1 l)) two.1) (same ∙ ap (λ l. slots (column 1 l)) two.1) ∙ sym (ap (column 1) two.1))
      | inr both ↦ are.differ a b was both first same
    ]
  ]

  -- The slots tell its codes apart.
  pub slots_next : SlotsDiffer slots next
  slots_next = record { fit = small; differ = told }
