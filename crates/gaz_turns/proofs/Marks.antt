-- Which lines are acknowledgements: none with a tab, no refusal and no count of rows.
use Rattle.std.proofs.Common.{◌≡◌, ◌⊎◌, inl, ⊎_elim, ℕ, zero, suc, ◌-◌, ◌/◌, ◌%◌, ◌<◌, ◌≤◌, Bool, true, false, ◌&&◌, true≢false, List, [], ◌∷◌, ◌++◌, take, drop, length, refl, sym, ◌∙◌, ap, arith, Option, Some, None, mod-lt, lt-ltb}
use Rattle.std.proofs.lemmas.Bool.{ne_eqb}
use Rattle.std.proofs.lemmas.List.{take-append-drop}
use Rattle.std.proofs.lemmas.List.Folds.{list_any-append}
use Rattle.std.specs.Prelude.{codes, decimal, is_some, ◌==◌, nat_eq, replicate, if◌then◌else◌}
use Rattle.std.specs.Fmt.{digits, digits_onto, digit_glyph}
use Rattle.std.specs.Cmp.Lexicographic.{same_text}
use Rattle.std.specs.List.{starts_with, AllByRecursion, join_with_byte}
use Rattle.gaz_num.specs.Dates.{day_in, date_text, date_of, civil_text, padded_number, Civil}
use Rattle.gaz_num.proofs.DateTextLemmas.{written_again}
use Rattle.gaz_reply.specs.Reply.{is_ack}
use Rattle.gaz_turns.specs.Head.{has_byte}
use Rattle.gaz_turns.proofs.Counted.{IsOneLine, or_both}

pub and_left : (a b : Bool) → (a && b) ≡ true → a ≡ true
and_left true b h = refl
and_left false b h = h

pub and_right : (a b : Bool) → (a && b) ≡ true → b ≡ true
and_right true b h = h
and_right false b h = absurd (true≢false (sym h))

and_no : (a b : Bool) → (a ≡ true → b ≡ true → ⊥) → (a && b) ≡ false
and_no true true h = absurd (h refl refl)
and_no true false h = refl
and_no false b h = refl

pub no_byte_both : (c : ℕ) (xs ys : List ℕ) → has_byte c xs ≡ false → has_byte c ys ≡ false → has_byte c (xs ++ ys) ≡ false
no_byte_both c xs ys x y = list_any-append (λ b. b == c) xs ys ∙ or_both (has_byte c xs) (has_byte c ys) x y

-- no refusal is an acknowledgement
pub refusal_no_ack : (rest : List ℕ) → is_ack (codes "refused" ++ rest) ≡ false
refusal_no_ack rest = refl

-- ASCII digits
abbrev pub AreDigits : List ℕ → Type 0
AreDigits xs = AllByRecursion (λ x. (48 ≤ x) × (x ≤ 57)) xs

glyph : (n : ℕ) → (48 ≤ digit_glyph false (n % 10)) × (digit_glyph false (n % 10) ≤ 57)
glyph n = let small : n % 10 < 10 = mod-lt n (omega arith) in rw (lt-ltb (n % 10) 10 small) (omega (arith, small), omega (arith, small))

either : (b : Bool) (xs ys : List ℕ) → AreDigits xs → AreDigits ys → AreDigits (if b then xs else ys)
either true xs ys x y = x
either false xs ys x y = y

onto : (k n : ℕ) (acc : List ℕ) → AreDigits acc → AreDigits (digits_onto k 10 false n acc)
onto zero n acc h = h
onto (suc k) n acc h =
    let last = digit_glyph false (n % 10) ∷ acc in
    either (n / 10 == 0) last (digits_onto k 10 false (n / 10) last) (glyph n, h) (onto k (n / 10) last (glyph n, h))

pub decimal_digits : (n : ℕ) → AreDigits (decimal n)
unfolding digits
decimal_digits n = onto 64 n [] tt

no_letter : (xs : List ℕ) (c : ℕ) → (c < 48) ⊎ (57 < c) → AreDigits xs → has_byte c xs ≡ false
no_letter [] c out h = refl
no_letter (x ∷ xs) c out h =
    or_both (x == c) (has_byte c xs) (ne_eqb x c (λ is. ⊎_elim (λ low. omega (arith, low, is, h.0.0)) (λ high. omega (arith, high, is, h.0.1)) out)) (no_letter xs c out h.1)

pub decimal_line : (n : ℕ) → IsOneLine (decimal n)
decimal_line n = no_letter (decimal n) 10 (inl (omega arith)) (decimal_digits n)

count_line : (xs : List ℕ) → AreDigits xs → is_ack (codes "ok " ++ xs) ≡ false
count_line [] h = refl
count_line (x ∷ xs) h =
    rw (ne_eqb 108 x (λ is. omega (arith, is, h.0.1)), ne_eqb 100 x (λ is. omega (arith, is, h.0.1)))

-- nor is a count of rows
pub count_no_ack : (n : ℕ) → is_ack (codes "ok " ++ decimal n) ≡ false
count_no_ack n = count_line (decimal n) (decimal_digits n)

-- a date has digits and dashes alone
module _ (c : ℕ) (out : (c < 48) ⊎ (57 < c)) (dash : (45 == c) ≡ false) where
  not_zero : (48 == c) ≡ false
  not_zero = ne_eqb 48 c (λ is. ⊎_elim (λ low. omega (arith, low, is)) (λ high. omega (arith, high, is)) out)

  no_zeros : (k : ℕ) → has_byte c (replicate k 48) ≡ false
  no_zeros zero = refl
  no_zeros (suc k) = or_both (48 == c) (has_byte c (replicate k 48)) not_zero (no_zeros k)

  no_padded : (width n : ℕ) → has_byte c (padded_number width n) ≡ false
  no_padded width n = no_byte_both c (replicate (width - length (decimal n)) 48) (decimal n) (no_zeros (width - length (decimal n))) (no_letter (decimal n) c out (decimal_digits n))

  no_dash : has_byte c (45 ∷ []) ≡ false
  no_dash = or_both (45 == c) false dash refl

  no_dashed : (x y z : List ℕ) → has_byte c x ≡ false → has_byte c y ≡ false → has_byte c z ≡ false → has_byte c (x ++ 45 ∷ [] ++ y ++ 45 ∷ [] ++ z) ≡ false
  no_dashed x y z a b d =
      no_byte_both c (x ++ 45 ∷ [] ++ y ++ 45 ∷ []) z
      (no_byte_both c (x ++ 45 ∷ [] ++ y) (45 ∷ []) (no_byte_both c (x ++ 45 ∷ []) y (no_byte_both c x (45 ∷ []) a no_dash) b) no_dash) d

  no_civil : (date : Civil) → has_byte c (civil_text date) ≡ false
  no_civil date = no_dashed (padded_number 4 date.year) (padded_number 2 date.month) (padded_number 2 date.day) (no_padded 4 date.year) (no_padded 2 date.month) (no_padded 2 date.day)

  pub no_date : (date : ℕ) → has_byte c (date_text date) ≡ false
  no_date date = no_civil (date_of date)

pub date_line : (date : ℕ) → IsOneLine (date_text date)
date_line date = no_date 10 (inl (omega arith)) refl date

some_date : (o : Option ℕ) → is_some o ≡ true → (date : ℕ) × (o ≡ Some date)
some_date None h = absurd (true≢false (sym h))
some_date (Some date) h = (date, refl)

-- a text that is read as a date has no tab
read_no_tab : (text : List ℕ) → is_some (day_in text) ≡ true → has_byte 9 text ≡ false
read_no_tab text some =
    let read = some_date (day_in text) some in
    ap (has_byte 9) (sym (written_again text read.0 read.1)) ∙ no_date 9 (inl (omega arith)) refl read.0

no_mark : (word line : List ℕ) → has_byte 9 word ≡ false → has_byte 9 line ≡ true → (starts_with nat_eq line word && is_some (day_in (drop (length word) line))) ≡ false
no_mark word line none tab =
    and_no (starts_with nat_eq line word) (is_some (day_in (drop (length word) line)))
    (λ starts some.
    let t = drop (length word) line in
    let front : word ≡ take (length word) line = same_text word (take (length word) line) (sym starts) in
    let clear : has_byte 9 line ≡ false =
    ap (has_byte 9) (sym (take-append-drop (length word) line))
    ∙ no_byte_both 9 (take (length word) line) t (ap (has_byte 9) (sym front) ∙ none) (read_no_tab t some) in
    true≢false (sym tab ∙ clear))

-- a line with a tab is no acknowledgement
pub tab_no_ack : (line : List ℕ) → has_byte 9 line ≡ true → is_ack line ≡ false
tab_no_ack line tab =
    or_both (starts_with nat_eq line (codes "ok load ") && is_some (day_in (drop 8 line))) (starts_with nat_eq line (codes "ok day ") && is_some (day_in (drop 7 line)))
    (no_mark (codes "ok load ") line refl tab) (no_mark (codes "ok day ") line refl tab)

-- words without an LF make one line
pub words_line : (words : List (List ℕ)) → AllByRecursion IsOneLine words → IsOneLine (join_with_byte 32 words)
words_line [] h = refl
words_line (x ∷ []) h = h.0
words_line (x ∷ y ∷ words) h = no_byte_both 10 x (32 ∷ join_with_byte 32 (y ∷ words)) h.0 (words_line (y ∷ words) h.1)
