-- Numbers of two and three digits, digit by digit.
use Rattle.std.proofs.Common.{◌≡◌, ℕ, ◌+◌, ◌/◌, ◌%◌, ◌<◌, true, List, [], ◌∷◌, ◌++◌, append_assoc, refl, sym, ◌∙◌, ap, arith, le-leb}
use Rattle.std.specs.Prelude.{codes, decimal}
use Rattle.gaz_make.specs.Made.{thousandths}
use Rattle.std.specs.Char.{is_ascii_digit, digit_value}
use Rattle.std.specs.Str.Parse.{digits_value}
use Rattle.std.proofs.lemmas.Str.{digit_value_digit}
use Rattle.gaz_num.specs.Dates.{padded_number}
use Rattle.gaz_num.proofs.CalendarLemmas.{and_both}
use Rattle.gaz_num.proofs.DateTextLemmas.{AreAscii, written}

abbrev two_digits : ℕ → List ℕ
two_digits n = (48 + n / 10) ∷ (48 + n % 10) ∷ []

abbrev three_digits : ℕ → List ℕ
three_digits n = (48 + n / 100 % 10) ∷ (48 + n / 10 % 10) ∷ (48 + n % 10) ∷ []

ascii : (n : ℕ) → n < 10 → is_ascii_digit (48 + n) ≡ true
ascii n below = and_both _ _ (le-leb 48 (48 + n) (omega arith)) (le-leb (48 + n) 57 (omega (arith, below)))

value : (n : ℕ) → n < 10 → digit_value (48 + n) ≡ n
value n below = let same = digit_value_digit (48 + n) (omega arith, omega (arith, below)) in omega (arith, same)

ascii_two : (n : ℕ) → n < 100 → AreAscii (two_digits n)
ascii_two n below = and_both _ _ (ascii (n / 10) (omega (arith, below))) (and_both _ _ (ascii (n % 10) (omega arith)) refl)

ascii_three : (n : ℕ) → AreAscii (three_digits n)
ascii_three n = and_both _ _ (ascii (n / 100 % 10) (omega arith)) (and_both _ _ (ascii (n / 10 % 10) (omega arith)) (and_both _ _ (ascii (n % 10) (omega arith)) refl))

value_two : (n : ℕ) → n < 100 → digits_value 10 (two_digits n) ≡ n
value_two n below =
    let a = value (n / 10) (omega (arith, below)) in
    let b = value (n % 10) (omega arith) in
    omega (arith, a, b, below)

value_three : (n : ℕ) → digits_value 10 (three_digits n) ≡ n % 1000
value_three n =
    let a = value (n / 100 % 10) (omega arith) in
    let b = value (n / 10 % 10) (omega arith) in
    let c = value (n % 10) (omega arith) in
    omega (arith, a, b, c)

pub padded_two : (n : ℕ) → n < 100 → padded_number 2 n ≡ two_digits n
padded_two n below = ap (padded_number 2) (sym (value_two n below)) ∙ written (two_digits n) (ascii_two n below) (omega arith) (omega arith)

pub padded_three : (n : ℕ) → padded_number 3 (n % 1000) ≡ three_digits n
padded_three n = ap (padded_number 3) (sym (value_three n)) ∙ written (three_digits n) (ascii_three n) (omega arith) (omega arith)

-- thousandths that are put behind a text
pub thousandths_put : (text mid : List ℕ) (n a b d : ℕ) → mid ≡ text ++ decimal (n / 1000) → a ≡ 48 + n / 100 % 10 → b ≡ 48 + n / 10 % 10 → d ≡ 48 + n % 10 → mid ++ 46 ∷ a ∷ b ∷ d ∷ [] ≡ text ++ thousandths n
thousandths_put text mid n a b d is is_a is_b is_d =
    ap (λ (xs : List ℕ). xs ++ 46 ∷ a ∷ b ∷ d ∷ []) is ∙ append_assoc text (decimal (n / 1000)) (46 ∷ a ∷ b ∷ d ∷ [])
    ∙ ap (λ (xs : List ℕ). text ++ (decimal (n / 1000) ++ 46 ∷ xs)) (same is_a is_b is_d ∙ sym (padded_three n))
    ∙ ap (λ (xs : List ℕ). text ++ xs) (sym (append_assoc (decimal (n / 1000)) (codes ".") (padded_number 3 (n % 1000))))
  where
    same : {x y z : ℕ} → a ≡ x → b ≡ y → d ≡ z → a ∷ b ∷ d ∷ [] ≡ x ∷ y ∷ z ∷ []
    same is_x is_y is_z = cc (is_x, is_y, is_z)
