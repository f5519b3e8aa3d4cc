-- The rows and codes of a gazetteer are stored lines: one that the check accepts has a tab, and no LF.
use Rattle.std.proofs.Common.{◌≡◌, ℕ, ◌≤◌, Bool, true, false, cond, true≢false, List, [], ◌∷◌, length, refl, ap, arith, Option, Some, None, eqb-true, sym}
use Rattle.std.proofs.lemmas.List.Elements.{recursion_from_All}
use Rattle.std.proofs.lemmas.List.Sums.{sum_by-cons}
use Rattle.std.proofs.lemmas.List.Splits.{length-slice_split}
use Rattle.std.specs.Prelude.{not, count_by, if◌then◌else◌, is_some, ◌==◌, nat_le}
use Rattle.std.specs.List.{AllByRecursion}
use Rattle.std.specs.Str.{is_utf8}
use Rattle.gaz_num.specs.declared.words.Kind.TheVariants.{Row}
use Rattle.gaz_num.specs.declared.words.Kind.TheVariants as kind
use Rattle.gaz_num.specs.declared.words.Kind.{Kind}
use Rattle.gaz_num.specs.declared.words.Reason.{Reason}
use Rattle.gaz_num.specs.declared.words.Reason.TheVariants.{Length, Utf8, Columns}
use Rattle.gaz_num.specs.declared.words.Table.TheVariants.{Rows, Codes}
use Rattle.gaz_num.specs.Pieces.{fields}
use Rattle.gaz_num.specs.Check.{reason_against, first_failing, tests, line_limit}
use Rattle.gaz_plain.specs.Gazetteer.{Gazetteer, IsGazetteer, IsLine, IsTable}
use Rattle.gaz_turns.specs.Head.{has_byte, IsStored}
use Rattle.std.proofs.lemmas.Bool.Decides.{nat_tests}
use Rattle.gaz_turns.proofs.Counted.{or_left, or_right}

none_some : (x : Reason) → Some x ≡ None → ⊥
none_some x h = true≢false (ap is_some h)

third : (a b c : Bool) (rest : Option Reason) → (if a then (if b then (if c then rest else Some Columns) else Some Utf8) else Some Length) ≡ None → c ≡ true
third true true true rest h = refl
third true true false rest h = absurd (none_some Columns h)
third true false c rest h = absurd (none_some Utf8 h)
third false b c rest h = absurd (none_some Length h)

no_tab_none : (line : List ℕ) → has_byte 9 line ≡ false → count_by (λ byte. byte == 9) line ≡ 0
no_tab_none [] h = refl
no_tab_none (x ∷ line) h =
    let all = sum_by-cons (λ byte. cond (byte == 9) 1 0) x line in
    let first : cond (x == 9) 1 0 ≡ 0 = ap (λ (c : Bool). cond {A = ℕ} c 1 0) (or_left (x == 9) (has_byte 9 line) h) in
    let more = no_tab_none line (or_right (x == 9) (has_byte 9 line) h) in
    omega (arith, all, first, more)

-- what the tests behind the first one say
abbrev rest_of : List (Reason × Bool) → Option Reason
rest_of [] = None
rest_of (t ∷ ts) = first_failing ts

-- a line of more than one column has a tab
tab_between : (line : List ℕ) → 2 ≤ length (fields line) → has_byte 9 line ≡ true
tab_between line columns = by (has_byte 9 line) refl
  where
    by : (b : Bool) → has_byte 9 line ≡ b → has_byte 9 line ≡ true
    by true is = is
    by false is =
        let none = no_tab_none line is in
        let count = length-slice_split (λ byte. byte == 9) line in
        absurd (omega (arith, none, count, columns))

row_has_tab : (line : List ℕ) → reason_against Row line ≡ None → has_byte 9 line ≡ true
unfolding reason_against
row_has_tab line accepted =
    let columns = eqb-true (length (fields line)) 19 (third (nat_le (length line) line_limit) (is_utf8 line) (length (fields line) == 19) (rest_of (tests Row line)) accepted) in
    tab_between line (omega (arith, columns))

code_has_tab : (line : List ℕ) → reason_against kind.Code line ≡ None → has_byte 9 line ≡ true
unfolding reason_against
code_has_tab line accepted =
    let columns : nat_le 4 (length (fields line)) ≡ true = third (nat_le (length line) line_limit) (is_utf8 line) (nat_le 4 (length (fields line))) (rest_of (tests kind.Code line)) accepted in
    let most : 4 ≤ length (fields line) = grind (arith, nat_tests) in
    tab_between line (omega (arith, most))

not_lf : (b : Bool) → not b ≡ true → b ≡ false
not_lf true h = absurd (true≢false (sym h))
not_lf false h = refl

are_stored : (k : Kind) → ((line : List ℕ) → reason_against k line ≡ None → has_byte 9 line ≡ true) → (lines : List (List ℕ)) → AllByRecursion (IsLine k) lines → AllByRecursion IsStored lines
are_stored k has_tab [] h = tt
are_stored k has_tab (line ∷ lines) h = (record { tab = has_tab line h.0.accepted; one_line = not_lf (has_byte 10 line) h.0.one_line }, are_stored k has_tab lines h.1)

-- what replies tell of a gazetteer are stored lines
pub record AreStored (gaz : Gazetteer) : Type 0 where
  pub rows : AllByRecursion IsStored gaz.rows
  pub code_lines : AllByRecursion IsStored gaz.codes

pub read_stored : (gaz : Gazetteer) → IsGazetteer gaz → AreStored gaz
read_stored gaz is =
    let rows : IsTable Rows gaz.rows = is.tables Rows in
    let code_lines : IsTable Codes gaz.codes = is.tables Codes in
    record {
      rows = are_stored Row row_has_tab gaz.rows (recursion_from_All (IsLine Row) gaz.rows rows.each);
      code_lines = are_stored kind.Code code_has_tab gaz.codes (recursion_from_All (IsLine kind.Code) gaz.codes code_lines.each);
    }
