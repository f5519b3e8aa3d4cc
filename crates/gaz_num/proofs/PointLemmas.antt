-- The two sides of a decimal point.
use Rattle.std.proofs.Common.{◌≡◌, ℕ, suc, ◌+◌, ◌-◌, ◌*◌, ◌^◌, ◌<◌, ◌≤◌, Bool, true, false, cond, ◌&&◌, ◌||◌, List, [], ◌∷◌, length, take, drop, refl, ap, arith, ◌∙◌, sym, Option, Some, None, add-zero}
use Rattle.std.specs.Prelude.{not, position, nat_lt, if◌then◌else◌}
use Rattle.std.specs.List.{position_or_len, list_any}
use Rattle.std.specs.Str.Parse.{digits_value}
use Rattle.std.proofs.lemmas.Grind.{common_steps}
use Rattle.gaz_num.specs.Numbers.{some_if, is_digits, is_point, is_decimal, decimal_value}

any_at : (t any : Bool) (k n : ℕ) → (k < n → any ≡ true) → cond (not t) (1 + k) 0 < suc n → (t || any) ≡ true
any_at true any k n later below = refl
any_at false any k n later below = later (omega (arith, below))

any_below : (t : List ℕ) → position_or_len is_point t < length t → list_any is_point t ≡ true
any_below [] below = absurd (omega (arith, below))
any_below (b ∷ t) below = any_at (is_point b) (list_any is_point t) (position_or_len is_point t) (length t) (any_below t) below

none_at : (t any : Bool) (k n : ℕ) → (n ≤ k → any ≡ false) → suc n ≤ cond (not t) (1 + k) 0 → (t || any) ≡ false
none_at true any k n later past = absurd (omega (arith, past))
none_at false any k n later past = later (omega (arith, past))

none_past : (t : List ℕ) → length t ≤ position_or_len is_point t → list_any is_point t ≡ false
none_past [] past = refl
none_past (b ∷ t) past = none_at (is_point b) (list_any is_point t) (position_or_len is_point t) (length t) (none_past t) past

found : (b : Bool) (k at : ℕ) → Some at ≡ cond b (Some k) None → (b ≡ true) × (at ≡ k)
found true k at e = (refl, cc)
found false k at e = absurd (cc)

missed : (b : Bool) (k : ℕ) → None ≡ cond b (Some k) None → b ≡ false
missed true k e = absurd (cc)
missed false k e = refl

-- the number that stands before place k and behind it, where there is a point
abbrev cut_at : List ℕ → ℕ → Bool → Option ℕ
cut_at t k any =
    some_if (is_digits 3 (take k t) && (if any then is_digits 12 (drop (k + 1) t) else true))
    (digits_value 10 (take k t) * 10 ^ 12 + digits_value 10 (drop (k + 1) t) * 10 ^ (12 - length (drop (k + 1) t)))

-- the number of the digits before a point and of those behind it
abbrev pub number_of_parts : List ℕ → List ℕ → Option ℕ
number_of_parts whole fraction =
    some_if (is_digits 3 whole && is_digits 12 fraction)
    (digits_value 10 whole * 10 ^ 12 + digits_value 10 fraction * 10 ^ (12 - length fraction))

pub with_point : (t : List ℕ) (at : ℕ) (rest : List ℕ) → Some at ≡ position is_point t → rest ≡ drop (at + 1) t → number_of_parts (take at t) rest ≡ some_if (is_decimal t) (decimal_value t)
with_point t at rest e is =
    let here = found (nat_lt (position_or_len is_point t) (length t)) (position_or_len is_point t) at e in
    let below : position_or_len is_point t < length t = grind (arith, common_steps) in
    ap (number_of_parts (take at t)) is
    ∙ ap (λ (k : ℕ). cut_at t k true) here.1
    ∙ ap (cut_at t (position_or_len is_point t)) (sym (any_below t below))

and_true : (a : Bool) → a ≡ (a && true)
and_true true = refl
and_true false = refl

whole_of : (k : ℕ) (t : List ℕ) → length t ≤ k → some_if (is_digits 3 t) (digits_value 10 t * 10 ^ 12) ≡ cut_at t k false
whole_of k t le =
    let all : take k t ≡ t = grind (arith, common_steps) in
    let none : drop (k + 1) t ≡ [] = grind (arith, common_steps) in
    ap (λ (b : Bool). some_if b (digits_value 10 t * 10 ^ 12)) (and_true (is_digits 3 t))
    ∙ ap (some_if (is_digits 3 t && true)) (sym (add-zero (digits_value 10 t * 10 ^ 12)))
    ∙ ap (λ (whole : List ℕ). some_if (is_digits 3 whole && true) (digits_value 10 whole * 10 ^ 12 + 0)) (sym all)
    ∙ ap (λ (rest : List ℕ). some_if (is_digits 3 (take k t) && true) (digits_value 10 (take k t) * 10 ^ 12 + digits_value 10 rest * 10 ^ (12 - length rest))) (sym none)

pub without_point : (t : List ℕ) → None ≡ position is_point t → some_if (is_digits 3 t) (digits_value 10 t * 10 ^ 12) ≡ some_if (is_decimal t) (decimal_value t)
without_point t e =
    let is = missed (nat_lt (position_or_len is_point t) (length t)) (position_or_len is_point t) e in
    let past : length t ≤ position_or_len is_point t = grind (arith, common_steps) in
    whole_of (position_or_len is_point t) t past
    ∙ ap (cut_at t (position_or_len is_point t)) (sym (none_past t past))
