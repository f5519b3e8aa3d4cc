-- What the check of a row says of a line that it accepts.
use Rattle.std.proofs.Common.{◌-◌, ◌≡◌, ℕ, true, List, ◌∷◌, length, drop, None}
use Rattle.std.specs.Prelude.{◌==◌, nat_le, is_some, IsUtf8}
use Rattle.std.specs.Str.{is_utf8}
use Rattle.std.proofs.lemmas.Str.{IsUtf8-from_is_utf8}
use Rattle.gaz_num.specs.Numbers.{id_in, degrees_in}
use Rattle.gaz_num.specs.Pieces.{fields, column}
use Rattle.gaz_num.specs.Check.{tests, reason_against, line_limit}
use Rattle.gaz_num.specs.declared.words.Kind.TheVariants.{Row}
use Rattle.gaz_num.specs.declared.words.Reason.TheVariants.{Length, Utf8, Columns, Id, Latitude, Longitude}
use Rattle.gaz_num.proofs.ColumnTextLemmas.{column_is_text}
use Rattle.gaz_num.proofs.PassedLemmas.{passed}

-- the tests that a row's methods rest on
pub record IsAccepted (line : List ℕ) : Type 0 where
  pub utf8 : is_utf8 line ≡ true
  pub columns : (length (fields line) == 19) ≡ true
  pub id : is_some (id_in (column 1 line)) ≡ true
  pub latitude : is_some (degrees_in 90 (column 5 line)) ≡ true
  pub longitude : is_some (degrees_in 180 (column 6 line)) ≡ true

-- each of them passed
pub accepted : (line : List ℕ) → reason_against Row line ≡ None → IsAccepted line
unfolding reason_against
accepted line is =
    let length_ok = passed Length (nat_le (length line) line_limit) ((Utf8, is_utf8 line) ∷ tests Row line) is in
    let utf8_ok = passed Utf8 (is_utf8 line) (tests Row line) length_ok.1 in
    let columns_ok = passed Columns (length (fields line) == 19) (drop 1 (tests Row line)) utf8_ok.1 in
    let id_ok = passed Id (is_some (id_in (column 1 line))) (drop 2 (tests Row line)) columns_ok.1 in
    let latitude_ok = passed Latitude (is_some (degrees_in 90 (column 5 line))) (drop 3 (tests Row line)) id_ok.1 in
    let longitude_ok = passed Longitude (is_some (degrees_in 180 (column 6 line))) (drop 4 (tests Row line)) latitude_ok.1 in
    record {
      utf8 = utf8_ok.0;
      columns = columns_ok.0;
      id = id_ok.0;
      latitude = latitude_ok.0;
      longitude = longitude_ok.0;
    }

-- so is one of an accepted line
pub accepted_column : (line : List ℕ) (number : ℕ) → reason_against Row line ≡ None → IsUtf8 (column number line)
accepted_column line number is = column_is_text (number - 1) line (IsUtf8-from_is_utf8 line (accepted line is).utf8)
