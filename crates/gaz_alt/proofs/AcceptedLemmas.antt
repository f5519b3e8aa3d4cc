-- What the check of an alternate name says of a line that it accepts.
use Rattle.std.proofs.Common.{◌-◌, ◌≡◌, ℕ, Bool, true, false, List, ◌∷◌, length, drop, None, refl}
use Rattle.std.specs.Prelude.{◌&&◌, nat_le, is_some, IsUtf8}
use Rattle.std.specs.Str.{is_utf8}
use Rattle.std.proofs.lemmas.Str.{IsUtf8-from_is_utf8}
use Rattle.gaz_num.specs.Numbers.{id_in}
use Rattle.gaz_num.specs.Pieces.{fields, column}
use Rattle.gaz_num.specs.Check.{tests, reason_against, line_limit}
use Rattle.gaz_num.specs.declared.words.Kind.TheVariants.{Alt}
use Rattle.gaz_num.specs.declared.words.Reason.TheVariants.{Length, Utf8, Columns, Id}
use Rattle.gaz_num.proofs.ColumnTextLemmas.{column_is_text}
use Rattle.gaz_num.proofs.PassedLemmas.{passed}

-- the tests that an alternate name's methods rest on
pub record IsAccepted (line : List ℕ) : Type 0 where
  pub utf8 : is_utf8 line ≡ true
  pub columns : (nat_le 4 (length (fields line)) && nat_le (length (fields line)) 10) ≡ true
  pub id : is_some (id_in (column 1 line)) ≡ true
  pub place : is_some (id_in (column 2 line)) ≡ true

both : (a b : Bool) → (a && b) ≡ true → (a ≡ true) × (b ≡ true)
both true b is = (refl, is)
both false b is = absurd (cc)

-- each of them passed
pub accepted : (line : List ℕ) → reason_against Alt line ≡ None → IsAccepted line
unfolding reason_against
accepted line is =
    let length_ok = passed Length (nat_le (length line) line_limit) ((Utf8, is_utf8 line) ∷ tests Alt line) is in
    let utf8_ok = passed Utf8 (is_utf8 line) (tests Alt line) length_ok.1 in
    let columns_ok = passed Columns (nat_le 4 (length (fields line)) && nat_le (length (fields line)) 10) (drop 1 (tests Alt line)) utf8_ok.1 in
    let ids_ok = passed Id (is_some (id_in (column 1 line)) && is_some (id_in (column 2 line))) (drop 2 (tests Alt line)) columns_ok.1 in
    let ids = both (is_some (id_in (column 1 line))) (is_some (id_in (column 2 line))) ids_ok.0 in
    record {
      utf8 = utf8_ok.0;
      columns = columns_ok.0;
      id = ids.0;
      place = ids.1;
    }

-- a column of an accepted line is a text
pub accepted_column : (line : List ℕ) (number : ℕ) → reason_against Alt line ≡ None → IsUtf8 (column number line)
accepted_column line number is = column_is_text (number - 1) line (IsUtf8-from_is_utf8 line (accepted line is).utf8)
