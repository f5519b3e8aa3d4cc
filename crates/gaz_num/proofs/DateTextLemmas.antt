-- A date that was read is written as it was read.
use Rattle.std.proofs.Common.{◌≡◌, ℕ, zero, suc, ◌+◌, ◌-◌, ◌^◌, ◌<◌, ◌≤◌, Bool, true, false, ◌&&◌, true≢false, List, [], ◌∷◌, ◌++◌, length, get_or, refl, sym, ◌∙◌, ap, subst, arith, leb-true, le-leb, eqb-true, Option, Some, None}
use Rattle.std.specs.Prelude.{decimal, replicate, ◌==◌, nat_le, slice_range, slice_index, IfSome, if◌then◌else◌}
use Rattle.std.specs.Str.{all_ascii_digits}
use Rattle.std.specs.Char.{is_ascii_digit}
use Rattle.std.specs.Str.Parse.{digits_value}
use Rattle.std.proofs.lemmas.Grind.{common_steps}
use Rattle.std.proofs.lemmas.Str.Parse.{IsNumeralModel, numerals_by_value, digits_value_short}
use Rattle.std.proofs.lemmas.Fmt.{decimal-digits_value}
use Rattle.gaz_num.specs.Numbers.{some_if}
use Rattle.gaz_num.specs.Dates.{day_number, padded_number, civil_text, date_text, civil_in, is_date, day_of_parts, day_in}
use Rattle.gaz_num.proofs.CalendarLemmas.{and_left, and_right, and_both, date_of-day_number}

-- the digits: a number is written with as many as it was read from
-- each byte is a decimal digit
abbrev pub AreAscii : List ℕ → Type 0
AreAscii ds = all_ascii_digits ds ≡ true

in_range : (c : ℕ) → is_ascii_digit c ≡ true → (48 ≤ c) × (c ≤ 57)
in_range c h = (leb-true 48 c (and_left (nat_le 48 c) (nat_le c 57) h), leb-true c 57 (and_right (nat_le 48 c) (nat_le c 57) h))

model : IsNumeralModel AreAscii (digits_value 10)
model = numerals_by_value AreAscii (record {
  empty = refl;
  parts = λ c cs h. (in_range c (and_left (is_ascii_digit c) (all_ascii_digits cs) h), and_right (is_ascii_digit c) (all_ascii_digits cs) h);
  more = λ c cs r h. and_both (is_ascii_digit c) (all_ascii_digits cs) (and_both (nat_le 48 c) (nat_le c 57) (le-leb 48 c r.0) (le-leb c 57 r.1)) h;
})

-- a number with as many digits as the width gets no zeros
padded_short : (n : ℕ) (width : ℕ) → width ≡ length (decimal n) → padded_number width n ≡ decimal n
padded_short n width is = ap (λ (k : ℕ). replicate k 48 ++ decimal n) none
  where
    none : width - length (decimal n) ≡ 0
    none = omega (arith, is)

length_zeros : (k : ℕ) (xs : List ℕ) → length (replicate k 48 ++ xs) ≡ k + length xs
length_zeros zero xs = omega arith
length_zeros (suc k) xs = let more = length_zeros k xs in omega (arith, more)

-- one place more puts a zero in front
zero_first : (rest : List ℕ) (k v : ℕ) → k ≡ length rest → padded_number k v ≡ rest → padded_number (suc k) v ≡ 48 ∷ rest
zero_first rest k v is text =
    let count : (k - length (decimal v)) + length (decimal v) ≡ k = sym (length_zeros (k - length (decimal v)) (decimal v)) ∙ ap length text ∙ sym is in
    let more : suc k - length (decimal v) ≡ suc (k - length (decimal v)) = omega (arith, count) in
    ap (λ (n : ℕ). replicate n 48 ++ decimal v) more ∙ ap (λ (l : List ℕ). 48 ∷ l) text

small : (ds : List ℕ) → AreAscii ds → length ds ≤ 10 → digits_value 10 ds < 2 ^ 64
small ds h le = let short = digits_value_short model ds 10 h le in omega (arith, short)

-- digits are written again from their number, padded to as many
pub written : (ds : List ℕ) → AreAscii ds → 0 < length ds → length ds ≤ 10 → padded_number (length ds) (digits_value 10 ds) ≡ ds
written [] h some le = absurd (omega (arith, some))
written (x ∷ []) h some le =
    let is = decimal-digits_value model (x ∷ []) h some (λ z. refl) (small (x ∷ []) h le) in
    padded_short (digits_value 10 (x ∷ [])) 1 (sym (ap length is)) ∙ is
written (x ∷ y ∷ ds) h some le = by (x == 48) refl (written (y ∷ ds) (and_right (is_ascii_digit x) (all_ascii_digits (y ∷ ds)) h) (omega arith) (omega (arith, le)))
  where
    by : (b : Bool) → (x == 48) ≡ b → padded_number (length (y ∷ ds)) (digits_value 10 (y ∷ ds)) ≡ y ∷ ds → padded_number (length (x ∷ y ∷ ds)) (digits_value 10 (x ∷ y ∷ ds)) ≡ x ∷ y ∷ ds
    by true is rest =
        subst (λ (z : ℕ). padded_number (length (z ∷ y ∷ ds)) (digits_value 10 (z ∷ y ∷ ds)) ≡ z ∷ y ∷ ds) (sym (eqb-true x 48 is)) (zero_first (y ∷ ds) (length (y ∷ ds)) (digits_value 10 (y ∷ ds)) refl rest)
    by false is rest =
        let lead : get_or (x ∷ y ∷ ds) 0 0 ≡ 48 → length (x ∷ y ∷ ds) ≡ 1 = λ z. absurd (true≢false (sym (ap (λ (n : ℕ). n == 48) z) ∙ is)) in
        let d = decimal-digits_value model (x ∷ y ∷ ds) h some lead (small (x ∷ y ∷ ds) h le) in
        padded_short (digits_value 10 (x ∷ y ∷ ds)) (length (x ∷ y ∷ ds)) (sym (ap length d)) ∙ d

-- the three parts of a date between dashes
pub three_parts : (a b c x y z : List ℕ) → a ≡ x → b ≡ y → c ≡ z → a ++ 45 ∷ [] ++ b ++ 45 ∷ [] ++ c ≡ x ++ 45 ∷ [] ++ y ++ 45 ∷ [] ++ z
three_parts a b c x y z is_a is_b is_c =
    ap (λ (l : List ℕ). l ++ 45 ∷ [] ++ b ++ 45 ∷ [] ++ c) is_a ∙ ap (λ (l : List ℕ). x ++ 45 ∷ [] ++ l ++ 45 ∷ [] ++ c) is_b ∙ ap (λ (l : List ℕ). x ++ 45 ∷ [] ++ y ++ 45 ∷ [] ++ l) is_c

-- what the test of three texts of digits says
record AreDate (year month day : List ℕ) (date : ℕ) : Type 0 where
  year_digits : AreAscii year
  month_digits : AreAscii month
  day_digits : AreAscii day
  civil : is_date (civil_in year month day) ≡ true
  number : day_number (civil_in year month day) ≡ date

some_is : (b : Bool) (x y : ℕ) → some_if b x ≡ Some y → (b ≡ true) × (x ≡ y)
some_is true x y h = (refl, cc)
some_is false x y h = absurd (cc)

are_date : (year month day : List ℕ) (date : ℕ) → day_of_parts year month day ≡ Some date → AreDate year month day date
are_date year month day date h =
    let c = civil_in year month day in
    let is = some_is (all_ascii_digits year && all_ascii_digits month && all_ascii_digits day && is_date c) (day_number c) date h in
    let three = and_left (all_ascii_digits year && all_ascii_digits month && all_ascii_digits day) (is_date c) is.0 in
    let two = and_left (all_ascii_digits year && all_ascii_digits month) (all_ascii_digits day) three in
    record {
      year_digits = and_left (all_ascii_digits year) (all_ascii_digits month) two;
      month_digits = and_right (all_ascii_digits year) (all_ascii_digits month) two;
      day_digits = and_right (all_ascii_digits year && all_ascii_digits month) (all_ascii_digits day) three;
      civil = and_right (all_ascii_digits year && all_ascii_digits month && all_ascii_digits day) (is_date c) is.0;
      number = is.1;
    }

-- the text of the day that three texts of digits name
text_of_parts : (year month day : List ℕ) (date : ℕ) → length year ≡ 4 → length month ≡ 2 → length day ≡ 2 → day_of_parts year month day ≡ Some date → date_text date ≡ year ++ 45 ∷ [] ++ month ++ 45 ∷ [] ++ day
text_of_parts year month day date four two_m two_d h =
    let is = are_date year month day date h in
    let y = written year is.year_digits (omega (arith, four)) (omega (arith, four)) in
    let m = written month is.month_digits (omega (arith, two_m)) (omega (arith, two_m)) in
    let d = written day is.day_digits (omega (arith, two_d)) (omega (arith, two_d)) in
    ap date_text (sym is.number) ∙ ap civil_text (date_of-day_number (civil_in year month day) is.civil)
    ∙ three_parts (padded_number 4 (digits_value 10 year)) (padded_number 2 (digits_value 10 month)) (padded_number 2 (digits_value 10 day)) year month day
    (ap (λ (n : ℕ). padded_number n (digits_value 10 year)) (sym four) ∙ y)
    (ap (λ (n : ℕ). padded_number n (digits_value 10 month)) (sym two_m) ∙ m)
    (ap (λ (n : ℕ). padded_number n (digits_value 10 day)) (sym two_d) ∙ d)

record HasForm (t : List ℕ) : Type 0 where
  ten : length t ≡ 10
  first : get_or t 4 0 ≡ 45
  second : get_or t 7 0 ≡ 45

part_length : (t : List ℕ) (from to : ℕ) → from ≤ to → to ≤ length t → length (slice_range t from to) ≡ to - from
part_length t from to up le = grind (arith, common_steps)

-- a text of ten bytes with a dash in two places is its three parts between dashes
in_parts : (t : List ℕ) → HasForm t → slice_range t 0 4 ++ 45 ∷ [] ++ slice_range t 5 7 ++ 45 ∷ [] ++ slice_range t 8 10 ≡ t
in_parts (a ∷ b ∷ c ∷ d ∷ e ∷ f ∷ g ∷ h ∷ i ∷ j ∷ []) is =
    ap (λ (x : ℕ). a ∷ b ∷ c ∷ d ∷ x ∷ f ∷ g ∷ 45 ∷ i ∷ j ∷ []) (sym is.first) ∙ ap (λ (x : ℕ). a ∷ b ∷ c ∷ d ∷ e ∷ f ∷ g ∷ x ∷ i ∷ j ∷ []) (sym is.second)
in_parts _ is = absurd (let ten = is.ten in omega (arith, ten))

of_form : (b : Bool) (o : Option ℕ) (date : ℕ) → (if b then o else None) ≡ Some date → (b ≡ true) × (o ≡ Some date)
of_form true o date h = (refl, h)
of_form false o date h = absurd (cc)

-- the text of a day that was read is the text that it was read from
pub written_again : (text : List ℕ) (date : ℕ) → day_in text ≡ Some date → date_text date ≡ text
written_again t date h =
    let of = of_form ((length t == 10) && (slice_index t 4 == 45) && (slice_index t 7 == 45)) (day_of_parts (slice_range t 0 4) (slice_range t 5 7) (slice_range t 8 10)) date h in
    let two = and_left ((length t == 10) && (slice_index t 4 == 45)) (slice_index t 7 == 45) of.0 in
    let form : HasForm t = record {
      ten = eqb-true (length t) 10 (and_left (length t == 10) (slice_index t 4 == 45) two);
      first = eqb-true (slice_index t 4) 45 (and_right (length t == 10) (slice_index t 4 == 45) two);
      second = eqb-true (slice_index t 7) 45 (and_right ((length t == 10) && (slice_index t 4 == 45)) (slice_index t 7 == 45) of.0);
    } in
    let ten = form.ten in
    text_of_parts (slice_range t 0 4) (slice_range t 5 7) (slice_range t 8 10) date
    (part_length t 0 4 (omega arith) (omega (arith, ten))) (part_length t 5 7 (omega arith) (omega (arith, ten))) (part_length t 8 10 (omega arith) (omega (arith, ten))) of.1
    ∙ in_parts t form

-- so it is of each day that was read
pub text_of_read : (read : Option ℕ) (text : List ℕ) → read ≡ day_in text → IfSome read (λ date. date_text date ≡ text)
text_of_read None text is = tt
text_of_read (Some date) text is = written_again text date (sym is)
