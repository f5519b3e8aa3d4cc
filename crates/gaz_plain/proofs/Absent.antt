-- What is too long for a code is none.
use Rattle.std.proofs.Common.{◌≡◌, ℕ, ◌<◌, ◌≤◌, Bool, true, false, List, [], ◌∷◌, length, Some, None, refl, ap, sym, arith}
use Rattle.std.specs.Prelude.{All, nat_le, is_some, ◌&&◌, if◌then◌else◌}
use Rattle.std.specs.Ordering.{is_eq}
use Rattle.std.specs.Str.{is_utf8}
use Rattle.std.proofs.lemmas.Bool.Decides.{nat_tests}
use Rattle.gaz_num.specs.declared.words.Kind.TheVariants as kind
use Rattle.gaz_num.specs.declared.words.Table.TheVariants.{Codes, Countries}
use Rattle.gaz_num.specs.declared.words.Reason.TheVariants as reason
use Rattle.gaz_num.specs.Pieces.{column, fields}
use Rattle.std.specs.List.{list_all}
use Rattle.gaz_num.specs.Check.{reason_against, line_limit, has_between, is_comment, is_code_byte, first_failing, tests, tests_of_text}
use Rattle.gaz_num.proofs.PassedLemmas.{passed}
use Rattle.gaz_plain.specs.Gazetteer.{IsLine, key_of, key_cmp, line_at}
use Rattle.gaz_plain.proofs.KeyOrder.{same_key, All-rest}
use Rattle.gaz_plain.proofs.Foremost.{key_is_code}

within_most : (least most : ℕ) (text : List ℕ) → has_between least most text ≡ true → length text ≤ most
within_most least most text is = grind (arith, nat_tests)

-- the code of a line of the table of codes is no longer than one may be
code_short : (line : List ℕ) → IsLine kind.Code line → length (key_of Codes line) ≤ 128
unfolding reason_against
code_short line is =
    let length_ok = passed reason.Length (nat_le (length line) line_limit) (tests_of_text kind.Code line) is.accepted in
    let utf8_ok = passed reason.Utf8 (is_utf8 line) (tests kind.Code line) length_ok.1 in
    let columns_ok = passed reason.Columns (nat_le 4 (length (fields line))) ((reason.Code, has_between 1 128 (column 1 line)) ∷ []) utf8_ok.1 in
    within_most 1 128 (column 1 line) (passed reason.Code (has_between 1 128 (column 1 line)) [] columns_ok.1).0

-- so a longer text is the key of none
pub no_code : (code : List ℕ) → 128 < length code → (lines : List (List ℕ)) → All (IsLine kind.Code) lines → line_at Codes code lines ≡ None
no_code code long [] are = refl
no_code code long (line ∷ lines) are = by (is_eq (key_cmp (key_of Codes line) code)) refl (no_code code long lines (All-rest (IsLine kind.Code) line lines are))
  where
    by : (test : Bool) → is_eq (key_cmp (key_of Codes line) code) ≡ test → line_at Codes code lines ≡ None → line_at Codes code (line ∷ lines) ≡ None
    by true is rest =
        let same : key_of Codes line ≡ code = same_key (key_of Codes line) code is in
        absurd (omega (arith, ap length same, code_short line (are 0 line (omega arith)), long))
    by false is rest = rw is rest

and_first : (a b : Bool) → (a && b) ≡ true → a ≡ true
and_first true b both = refl
and_first false b both = both

-- a line with a key is no comment
no_remark : (line : List ℕ) → IsLine kind.Country line → is_comment kind.Country line ≡ false
no_remark line is = by (is_comment kind.Country line) is.keyed
  where
    by : (remark : Bool) → is_some (if remark then None else Some (column 1 line)) ≡ true → remark ≡ false
    by true some = sym some
    by false some = refl

-- the code of a country is no longer than one may be
country_short : (line : List ℕ) → IsLine kind.Country line → length (key_of Countries line) ≤ 4
unfolding reason_against
country_short line is =
    let length_ok = passed reason.Length (nat_le (length line) line_limit) (tests_of_text kind.Country line) is.accepted in
    let text : first_failing ((reason.Utf8, is_utf8 line) ∷ tests kind.Country line) ≡ None = rw (no_remark line is) at length_ok.1 in
    let utf8_ok = passed reason.Utf8 (is_utf8 line) (tests kind.Country line) text in
    let columns_ok = passed reason.Columns (nat_le 17 (length (fields line))) ((reason.Code, has_between 2 4 (column 1 line) && list_all is_code_byte (column 1 line)) ∷ []) utf8_ok.1 in
    let code_ok = (passed reason.Code (has_between 2 4 (column 1 line) && list_all is_code_byte (column 1 line)) [] columns_ok.1).0 in
    omega (arith, ap length (key_is_code line is), within_most 2 4 (column 1 line) (and_first (has_between 2 4 (column 1 line)) (list_all is_code_byte (column 1 line)) code_ok))

pub no_country : (code : List ℕ) → 4 < length code → (lines : List (List ℕ)) → All (IsLine kind.Country) lines → line_at Countries code lines ≡ None
no_country code long [] are = refl
no_country code long (line ∷ lines) are = by (is_eq (key_cmp (key_of Countries line) code)) refl (no_country code long lines (All-rest (IsLine kind.Country) line lines are))
  where
    by : (test : Bool) → is_eq (key_cmp (key_of Countries line) code) ≡ test → line_at Countries code lines ≡ None → line_at Countries code (line ∷ lines) ≡ None
    by true is rest =
        let same : key_of Countries line ≡ code = same_key (key_of Countries line) code is in
        absurd (omega (arith, ap length same, country_short line (are 0 line (omega arith)), long))
    by false is rest = rw is rest
