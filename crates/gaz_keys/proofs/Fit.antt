-- Lines, their columns and pieces of them have bytes.
use Rattle.std.proofs.Common.{◌≡◌, ◌<◌, ◌≤◌, ℕ, zero, suc, ◌+◌, ◌-◌, Bool, true, false, List, [], ◌∷◌, ◌++◌, length, take, replicate, refl, subst, arith, inl, inr, Some, None, length-append, length-take}
use Rattle.std.proofs.lemmas.List.{length-replicate}
use Rattle.std.specs.Prelude.{All, nat_lt, ◌/◌, ◌%◌, ◌^◌, unwrap_or, option_and_then, slice_get, ◌&&◌, is_some, IsSome, if◌then◌else◌, nat_le, ◌==◌}
use Rattle.std.specs.Str.{IsUtf8, is_utf8, encode_utf8_all, all_scalars}
use Rattle.std.specs.Char.{encode_utf8, IsScalar}
use Rattle.std.specs.List.{slice_split, onto_first, list_all}
use Rattle.std.specs.Int.{bytes_high_first, byte_at}
use Rattle.std.proofs.lemmas.List.Elements.{All-cons, All-append, All-take, All-replicate}
use Rattle.std.proofs.lemmas.Bool.{cases_lt, leb-true, and_from}
use Rattle.std.proofs.lemmas.Bool.Decides.{nat_tests}
use Rattle.gaz_num.proofs.CalendarLemmas.{and_left, and_right}
use Rattle.std.proofs.lemmas.Str.{IsUtf8-from_is_utf8}
use Rattle.std.specs.Str.Parse.{digits_value}
use Rattle.gaz_num.specs.Numbers.{some_if, is_digits}
use Rattle.gaz_num.specs.Pieces.{fields, column}
use Rattle.gaz_num.specs.Check.{line_limit, first_failing, tests, tests_of_text, is_comment, reason_against, key_in}
use Rattle.gaz_num.specs.declared.words.Kind.{Kind}
use Rattle.gaz_num.specs.declared.words.Kind.TheVariants as kind
use Rattle.gaz_num.specs.declared.words.Reason.TheVariants as reason
use Rattle.gaz_num.specs.declared.words.Table.{Table}
use Rattle.gaz_name.specs.Name.{first_bytes}
use Rattle.gaz_num.proofs.PassedLemmas.{passed}
use Rattle.gaz_keys.specs.Lines.{id_at, kind_of, IsKeyed}

-- an id has four bytes
pub id_small : (n : ℕ) (line : List ℕ) → id_at n line < 2 ^ 32
id_small n line = by (is_digits 10 text && nat_le value (2 ^ 32 - 1)) refl
  where
    text : List ℕ
    text = column n line

    value : ℕ
    value = digits_value 10 text

    positive : (b : Bool) → value < 2 ^ 32 → unwrap_or (some_if b value) 0 < 2 ^ 32
    positive true below = below
    positive false below = omega arith

    by : (b : Bool) → (is_digits 10 text && nat_le value (2 ^ 32 - 1)) ≡ b → unwrap_or (option_and_then (λ m. some_if (nat_lt 0 m) m) (some_if b value)) 0 < 2 ^ 32
    by true is = let below = leb-true value (2 ^ 32 - 1) (and_right (is_digits 10 text) (nat_le value (2 ^ 32 - 1)) is) in positive (nat_lt 0 value) (omega (arith, below))
    by false is = omega arith

abbrev pub AreBytes : List ℕ → Type 0
AreBytes bytes = All (λ byte. byte < 256) bytes

pub none_fit : AreBytes []
none_fit k d below = absurd (omega (arith, below))

pub byte_fits : (a : ℕ) (rest : List ℕ) → a < 256 → AreBytes rest → AreBytes (a ∷ rest)
byte_fits a rest = All-cons (λ byte. byte < 256) a rest

one_fits : (a : ℕ) → a < 256 → AreBytes (a ∷ [])
one_fits a x = byte_fits a [] x none_fit

two_fit : (a b : ℕ) → a < 256 → b < 256 → AreBytes (a ∷ b ∷ [])
two_fit a b x y = byte_fits a (b ∷ []) x (one_fits b y)

three_fit : (a b c : ℕ) → a < 256 → b < 256 → c < 256 → AreBytes (a ∷ b ∷ c ∷ [])
three_fit a b c x y z = byte_fits a (b ∷ c ∷ []) x (two_fit b c y z)

all_four_fit : (a b c d : ℕ) → a < 256 → b < 256 → c < 256 → d < 256 → AreBytes (a ∷ b ∷ c ∷ d ∷ [])
all_four_fit a b c d x y z w = byte_fits a (b ∷ c ∷ d ∷ []) x (three_fit b c d y z w)

-- a number in so many bytes
pub number_fits : (size n : ℕ) → AreBytes (bytes_high_first size n)
number_fits zero n = none_fit
number_fits (suc k) n = byte_fits (byte_at k n) (bytes_high_first k n) (one k) (number_fits k n)
  where
    one : (k : ℕ) → byte_at k n < 256
    one zero = omega arith
    one (suc k) = omega arith

char_cases : (c : ℕ) → IsScalar c → c < 1114112
char_cases c is = by (nat_lt c 55296) refl is
  where
    by : (b : Bool) → nat_lt c 55296 ≡ b → (if b then true else (nat_le 57344 c && nat_lt c 1114112)) ≡ true → c < 1114112
    by true low passes = grind (arith, nat_tests, low)
    by false low passes = let below = and_right (nat_le 57344 c) (nat_lt c 1114112) passes in grind (arith, nat_tests, below)

char_fits : (c : ℕ) → c < 1114112 → AreBytes (encode_utf8 c)
unfolding encode_utf8
char_fits c below = elim (cases_lt c 128) [
  | inl one ↦ rw (test 128 one) (one_fits c (omega (arith, one)))
  | inr more ↦ elim (cases_lt c 2048) [
    | inl two ↦ rw (past 128 more, test 2048 two) (two_fit (192 + c / 64) (128 + c % 64) (omega (arith, two)) (omega arith))
    | inr further ↦ elim (cases_lt c 65536) [
      | inl three ↦ rw (past 128 more, past 2048 further, test 65536 three) (three_fit (224 + c / 4096) (128 + c / 64 % 64) (128 + c % 64) (omega (arith, three)) (omega arith) (omega arith))
      | inr four ↦ rw (past 128 more, past 2048 further, past 65536 four) (all_four_fit (240 + c / 262144) (128 + c / 4096 % 64) (128 + c / 64 % 64) (128 + c % 64) (omega (arith, below)) (omega arith) (omega arith) (omega arith))
    ]
  ]
]
  where
    test : (n : ℕ) → c < n → nat_lt c n ≡ true
    test n less = grind (arith, nat_tests)

    past : (n : ℕ) → n ≤ c → nat_lt c n ≡ false
    past n more = grind (arith, nat_tests)

-- a number that UTF-8 can write
abbrev pub is_char : ℕ → Bool
is_char c = nat_lt c 1114112

abbrev pub are_chars : List ℕ → Bool
are_chars = list_all is_char

-- whether it is the code of a character
abbrev is_scalar : ℕ → Bool
is_scalar c = if nat_lt c 55296 then true else (nat_le 57344 c && nat_lt c 1114112)

pub scalars_are : (cs : List ℕ) → all_scalars cs ≡ true → are_chars cs ≡ true
scalars_are [] is = refl
scalars_are (c ∷ cs) is =
    let below = char_cases c (and_left (is_scalar c) (all_scalars cs) is) in
    and_from (is_char c) (are_chars cs) (grind (arith, nat_tests, below)) (scalars_are cs (and_right (is_scalar c) (all_scalars cs) is))

pub chars_fit : (cs : List ℕ) → are_chars cs ≡ true → AreBytes (encode_utf8_all cs)
chars_fit [] are = none_fit
chars_fit (c ∷ cs) are =
    let one = and_left (is_char c) (are_chars cs) are in
    All-append (λ byte. byte < 256) (encode_utf8 c) (encode_utf8_all cs) (char_fits c (grind (arith, nat_tests, one))) (chars_fit cs (and_right (is_char c) (are_chars cs) are))

pub text_fits : (bytes : List ℕ) → IsUtf8 bytes → AreBytes bytes
text_fits bytes text = subst AreBytes text.1.1 (chars_fit text.0 (scalars_are text.0 text.1.0))

-- pieces have the elements of the whole
pub first_fits : (size : ℕ) (text : List ℕ) → AreBytes text → AreBytes (first_bytes size text)
first_fits size text fits =
    All-append (λ byte. byte < 256) (take size text) (replicate (size - length text) 0) (All-take (λ byte. byte < 256) size text fits)
    (All-replicate (λ byte. byte < 256) (size - length text) 0 (omega arith))

pub first_size : (size : ℕ) (text : List ℕ) → length (first_bytes size text) ≡ size
first_size size text = omega (arith, length-append (take size text) (replicate (size - length text) 0), length-take size text, length-replicate {A = ℕ} (size - length text) 0)

-- so have the pieces of a text
onto_fits : (x : ℕ) (pieces : List (List ℕ)) → x < 256 → All AreBytes pieces → All AreBytes (onto_first x pieces)
onto_fits x [] below all = All-cons AreBytes (x ∷ []) [] (one_fits x below) all
onto_fits x (piece ∷ pieces) below all =
    All-cons AreBytes (x ∷ piece) pieces (byte_fits x piece below (all 0 [] (omega arith))) (λ k d within. all (suc k) d (omega arith))

pieces_fit : (p : ℕ → Bool) (bytes : List ℕ) → AreBytes bytes → All AreBytes (slice_split p bytes)
pieces_fit p [] fits = All-cons AreBytes [] [] none_fit (λ k d within. absurd (omega (arith, within)))
pieces_fit p (x ∷ xs) fits = by (p x) refl (pieces_fit p xs (λ k d within. fits (suc k) d (omega arith)))
  where
    by : (b : Bool) → p x ≡ b → All AreBytes (slice_split p xs) → All AreBytes (slice_split p (x ∷ xs))
    by true is rest = rw is (All-cons AreBytes [] (slice_split p xs) none_fit rest)
    by false is rest = rw is (onto_fits x (slice_split p xs) (fits 0 0 (omega arith)) rest)

get_fits : (pieces : List (List ℕ)) (n : ℕ) → All AreBytes pieces → AreBytes (unwrap_or (slice_get pieces n) [])
get_fits [] n all = none_fit
get_fits (piece ∷ pieces) zero all = all 0 [] (omega arith)
get_fits (piece ∷ pieces) (suc n) all = get_fits pieces n (λ k d within. all (suc k) d (omega arith))

pub column_fits : (n : ℕ) (line : List ℕ) → AreBytes line → AreBytes (column n line)
column_fits n line fits = get_fits (fields line) (n - 1) (pieces_fit (λ byte. byte == 9) line fits)

-- a line with a key is no comment
pub no_comment : (kind : Kind) (line : List ℕ) → IsSome (key_in kind line) → is_comment kind line ≡ false
no_comment kind.Row line keyed = refl
no_comment kind.RowDelete line keyed = refl
no_comment kind.Alt line keyed = refl
no_comment kind.AltDelete line keyed = refl
no_comment kind.Link line keyed = refl
no_comment kind.Country line keyed = by (is_comment kind.Country line) refl keyed
  where
    by : (b : Bool) → is_comment kind.Country line ≡ b → is_some (if b then None else Some (column 1 line)) ≡ true → is_comment kind.Country line ≡ false
    by true is keyed = absurd (cc)
    by false is keyed = is
no_comment kind.Code line keyed = refl

-- a line is UTF-8
pub line_is_text : (table : Table) (line : List ℕ) → IsKeyed table line → IsUtf8 line
unfolding reason_against
line_is_text table line is =
    let kind = kind_of table in
    let behind = passed reason.Length (nat_le (length line) line_limit) (tests_of_text kind line) is.accepted in
    let all : first_failing ((reason.Utf8, is_utf8 line) ∷ tests kind line) ≡ None = rw (no_comment kind line is.keyed) at behind.1 in
    IsUtf8-from_is_utf8 line (passed reason.Utf8 (is_utf8 line) (tests kind line) all).0

-- so it has bytes
pub line_fits : (table : Table) (line : List ℕ) → IsKeyed table line → AreBytes line
line_fits table line is = text_fits line (line_is_text table line is)

pub append_fits : (xs ys : List ℕ) → AreBytes xs → AreBytes ys → AreBytes (xs ++ ys)
append_fits = All-append (λ byte. byte < 256)

pub zeros_fit : (n : ℕ) → AreBytes (replicate n 0)
zeros_fit n = All-replicate (λ byte. byte < 256) n 0 (omega arith)
