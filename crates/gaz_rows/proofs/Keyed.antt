-- Keys with a place, and the lines that have them.
use Rattle.std.proofs.Common.{◌≡◌, ℕ, List, sym, ◌∙◌, ap, subst, inl, inr, true, false, Some}
use Rattle.std.specs.Prelude.{Contains, unwrap_or}
use Rattle.gaz_num.specs.Pieces.{column}
use Rattle.gaz_plain.specs.Gazetteer.{Gazetteer}
use Rattle.gaz_num.specs.declared.words.Table.{Table}
use Rattle.gaz_plain.specs.Gazetteer.{lines_in}
use Rattle.gaz_keys.specs.Parts.{tag_of, has_place}
use Rattle.gaz_keys.specs.Lines.{more_keys}
use Rattle.gaz_keys.proofs.Tags.{contained, tag_for, tag_at, tag_has_place, tags_differ, more_placeless}
use Rattle.gaz_rows.specs.Index.{Slots, line_key, IsKeyOf}

pub some_inj : {X : Type 0} (x y : X) → Some x ≡ Some y → x ≡ y
some_inj x y is = ap (λ o. unwrap_or o x) is

-- A key with a place, of the lines of a gazetteer, is that of its line.
pub record IsThatOf (slots : Slots) (gaz : Gazetteer) (table : Table) (key : List ℕ) : Type 0 where
  pub line : List ℕ
  pub there : Contains (lines_in gaz table) line
  pub is : line_key slots table line ≡ key

-- a key with a place is that of its line
pub placed : (slots : Slots) (gaz : Gazetteer) (key : List ℕ) → has_place (tag_of key) ≡ true → (of : IsKeyOf slots gaz key) → line_key slots of.table of.line ≡ key
placed slots gaz key has of =
    elim (contained (line_key slots of.table of.line) (more_keys of.table of.line) key of.among) [
      | inl is ↦ is
      | inr more ↦ absurd (false_is_true (sym (more_placeless of.table of.line key more) ∙ has))
    ]
  where
    false_is_true : false ≡ true → ⊥
    false_is_true is = cc

pub that_of : (slots : Slots) (gaz : Gazetteer) (table : Table) (key : List ℕ) → tag_of key ≡ tag_for table → IsKeyOf slots gaz key → IsThatOf slots gaz table key
that_of slots gaz table key tag of =
    let is = placed slots gaz key (ap has_place tag ∙ tag_has_place table) of in
    let same : of.table ≡ table = tags_differ of.table table (sym (tag_at of.table (slots (column 1 of.line)) of.line) ∙ ap tag_of is ∙ tag) in
    record {
      line = of.line;
      there = subst (λ t. Contains (lines_in gaz t) of.line) same of.there;
      is = subst (λ t. line_key slots t of.line ≡ key) same is;
    }
