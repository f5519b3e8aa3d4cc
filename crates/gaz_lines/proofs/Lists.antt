-- Parts of a buffer, and lists without an LF.
use Rattle.std.proofs.Common.{◌≡◌, ℕ, zero, suc, ◌+◌, ◌-◌, ◌<◌, ◌≤◌, List, [], ◌∷◌, ◌++◌, length, take, drop, refl, ap, sym, subst, ◌∙◌, arith, eq-eqb, eqb-true, get_or-take, length-take-le, length-drop, Some, None}
use Rattle.std.specs.Prelude.{slice_range, slice_index}
use Rattle.std.proofs.lemmas.List.{append-nil, take_at, drop_at, take-append-le, drop-append-le, drop-take, drop-drop, get_or-drop}
use Rattle.std.proofs.lemmas.Slice.{between_is}
use borrow.Rule.Slice.PartMut.{put_mid, post_of}
use lib.Seq.{take-add, take-nil}
use Rattle.memchr.specs.Find.{IsFirstByte, Nowhere, Passes, is_byte}
use Rattle.gaz_lines.specs.Lines.{IsLine}

pub range_drop : (xs : List ℕ) (i n j : ℕ) → slice_range xs (i + n) j ≡ drop n (slice_range xs i j)
range_drop xs i n j = between_is xs (i + n) j ∙ sym (drop-drop n i (take j xs)) ∙ ap (drop n) (sym (between_is xs i j))

-- what is held, after a write behind it
pub grown : (xs ys : List ℕ) (start end k n : ℕ) → start ≤ end → end ≤ length xs → n ≤ length ys → slice_range (put_mid end k xs ys) start (end + n) ≡ slice_range xs start end ++ take n ys
grown xs ys start end k n ordered within fits =
    let front = length-take-le end xs within in
    let held = drop start (take end xs) in
    let len : length held ≡ end - start = omega (arith, length-drop start (take end xs)) in
    let sum : end + n - start ≡ (end - start) + n = omega arith in
    let parts : end ≡ start + (end - start) = omega arith in
    let same : held ≡ take (end - start) (drop start xs) = ap (λ j. drop start (take j xs)) parts ∙ drop-take start (end - start) xs in
    let after = ys ++ post_of end k xs in
    ap (take (end + n - start)) (drop-append-le start (take end xs) after (omega arith))
    ∙ ap (λ j. take j (held ++ after)) sum ∙ take-add (end - start) n (held ++ after)
    ∙ (rw (take_at held after _ len, drop_at held after _ len, take-append-le n ys (post_of end k xs) fits, same) refl)

-- what is held, after a write behind it that doesn't count
pub untouched : (xs ys : List ℕ) (start end k : ℕ) → start ≤ end → end ≤ length xs → slice_range (put_mid end k xs ys) start end ≡ slice_range xs start end
untouched xs ys start end k ordered within =
    let none : end ≡ end + 0 = omega arith in
    ap (slice_range (put_mid end k xs ys) start) none ∙ grown xs ys start end k 0 ordered within (omega arith) ∙ append-nil (slice_range xs start end)

pub line_append : (xs ys : List ℕ) → IsLine xs → IsLine ys → IsLine (xs ++ ys)
line_append [] ys front behind = behind
line_append (x ∷ xs) ys front behind = (front.0, line_append xs ys front.1 behind)

line_nil : (n : ℕ) → IsLine (take n [])
line_nil zero = tt
line_nil (suc n) = tt

-- where no LF stands below n
pub line_of_none : (n : ℕ) (xs : List ℕ) → Nowhere (Passes (is_byte 10) xs) 0 n → IsLine (take n xs)
line_of_none n [] none = line_nil n
line_of_none zero (x ∷ xs) none = tt
line_of_none (suc n) (x ∷ xs) none = (
  λ is. none 0 (omega arith) (omega arith) (eq-eqb x 10 is),
  line_of_none n xs (λ k low high is. none (suc k) (omega arith) (omega (arith, high)) is),
)

pub line_parts : (i n : ℕ) (xs : List ℕ) → IsLine (take i xs) → IsLine (take n (drop i xs)) → IsLine (take (i + n) xs)
line_parts i n xs front behind = subst IsLine (sym (take-add i n xs)) (line_append (take i xs) (take n (drop i xs)) front behind)

take_take : (n m : ℕ) (xs : List ℕ) → n ≤ m → take n (take m xs) ≡ take n xs
take_take zero m xs within = refl
take_take (suc n) m [] within = ap (take (suc n)) (take-nil m)
take_take (suc n) zero (x ∷ xs) within = absurd (omega (arith, within))
take_take (suc n) (suc m) (x ∷ xs) within = ap (λ ys. x ∷ ys) (take_take n m xs (omega (arith, within)))

-- a part of what is held, in the buffer
pub range_range : (xs : List ℕ) (start end i j : ℕ) → i ≤ j → start + j ≤ end → slice_range xs (start + i) (start + j) ≡ take (j - i) (drop i (slice_range xs start end))
range_range xs start end i j ordered within =
    let size : (start + j) - (start + i) ≡ j - i = omega arith in
    let more : j - i ≤ end - (start + i) = omega (arith, ordered, within) in
    ap (λ n. take n (drop (start + i) xs)) size
    ∙ sym (take_take (j - i) (end - (start + i)) (drop (start + i) xs) more)
    ∙ ap (take (j - i)) (range_drop xs start i end)

-- what a search in a part of what is held finds
found_in : (held : List ℕ) (from stop place : ℕ) → from ≤ stop → stop ≤ length held → IsLine (take from held) → IsFirstByte (is_byte 10) (take (stop - from) (drop from held)) (Some place) → IsLine (take (from + place) held) × (from + place < stop) × (slice_index held (from + place) ≡ 10)
found_in held from stop place ordered within searched first =
    let part = take (stop - from) (drop from held) in
    let size : length part ≡ stop - from = length-take-le (stop - from) (drop from held) (omega (arith, within, length-drop from held)) in
    let below : place < stop - from = omega (arith, first.0.high, size) in (
      line_parts from place held searched (subst IsLine (take_take place (stop - from) (drop from held) (omega (arith, below))) (line_of_none place part first.0.before)),
      omega (arith, below),
      sym (get_or-take (stop - from) (drop from held) place 0 below ∙ get_or-drop from held place 0) ∙ eqb-true (slice_index part place) 10 first.1,
    )

none_in : (held : List ℕ) (from stop : ℕ) → from ≤ stop → stop ≤ length held → IsLine (take from held) → IsFirstByte (is_byte 10) (take (stop - from) (drop from held)) None → IsLine (take stop held)
none_in held from stop ordered within searched none =
    let part = take (stop - from) (drop from held) in
    let size : length part ≡ stop - from = length-take-le (stop - from) (drop from held) (omega (arith, within, length-drop from held)) in
    let whole : from + (stop - from) ≡ stop = omega (arith, ordered) in
    subst (λ n. IsLine (take n held)) whole
    (line_parts from (stop - from) held searched
    (subst IsLine (take_take (stop - from) (stop - from) (drop from held) (omega arith)) (line_of_none (stop - from) part (subst (λ n. Nowhere (Passes (is_byte 10) part) 0 n) size none))))

module _ (xs : List ℕ) (start end from stop : ℕ) (ordered : from ≤ stop) (within : stop ≤ length (slice_range xs start end)) (searched : IsLine (take from (slice_range xs start end))) (fits : start + stop ≤ end) where
  pub found : (place : ℕ) → IsFirstByte (is_byte 10) (slice_range xs (start + from) (start + stop)) (Some place) → IsLine (take (from + place) (slice_range xs start end)) × (from + place < stop) × (slice_index (slice_range xs start end) (from + place) ≡ 10)
  found place first = found_in (slice_range xs start end) from stop place ordered within searched (subst (λ part. IsFirstByte (is_byte 10) part (Some place)) (range_range xs start end from stop ordered fits) first)

  pub none : IsFirstByte (is_byte 10) (slice_range xs (start + from) (start + stop)) None → IsLine (take stop (slice_range xs start end))
  none first = none_in (slice_range xs start end) from stop ordered within searched (subst (λ part. IsFirstByte (is_byte 10) part None) (range_range xs start end from stop ordered fits) first)
