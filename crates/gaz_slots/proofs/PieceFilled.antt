-- An overflow page that was filled says what was put into it.
use Rattle.std.proofs.Common.{◌≡◌, ◌≤◌, ◌<◌, ◌+◌, ◌^◌, ℕ, true, List, length, take, drop, refl, sym, ap, ◌∙◌, arith, inl}
use Rattle.std.specs.Prelude.{◌==◌, ◌&&◌, nat_le, slice_index}
use Rattle.std.specs.Int.{w16, w32, from_be_bytes}
use Rattle.std.proofs.lemmas.Bool.{and_from, eq-eqb, le-leb}
use Rattle.std.proofs.lemmas.List.{take-take, drop-take}
use Rattle.std.proofs.lemmas.Nat.{from_be_bytes-to_be_bytes_2, from_be_bytes-to_be_bytes_4}
use Rattle.gaz_page.specs.Root.{number_at}
use Rattle.gaz_page.specs.Free.{short_at}
use Rattle.gaz_slots.specs.Bytes.{part, edited}
use Rattle.gaz_slots.specs.Overflow.{has_overflow_head, is_overflow_page, overflow_head, next_in, piece_in}
use Rattle.gaz_slots.proofs.Edits.{length-edited, kept, written, first_byte, second_byte}

abbrev pub headed : ℕ → ℕ → List ℕ → List ℕ → List ℕ
headed number next piece page = edited 0 (overflow_head number next (length piece)) page

abbrev pub with_head : ℕ → ℕ → List ℕ → List ℕ → List ℕ
with_head number next piece page = edited 16 piece (headed number next piece page)

-- what is asked of the piece
pub record Asks (number next : ℕ) (piece page : List ℕ) : Type 0 where
  pub size : length page ≡ 4096
  pub some : 1 ≤ length piece
  pub short : length piece ≤ 4080
  pub own : number < 2 ^ 32
  pub link : next < 2 ^ 32

long_head : (number next : ℕ) (piece page : List ℕ) → Asks number next piece page → length (headed number next piece page) ≡ 4096
long_head number next piece page a = length-edited 0 (overflow_head number next (length piece)) page (omega (arith, a.size)) ∙ a.size

pub long_both : (number next : ℕ) (piece page : List ℕ) → Asks number next piece page → length (with_head number next piece page) ≡ 4096
long_both number next piece page a = length-edited 16 piece (headed number next piece page) (omega (arith, long_head number next piece page a, a.short)) ∙ long_head number next piece page a

-- the header stands before the piece
in_head : (number next : ℕ) (piece page : List ℕ) → Asks number next piece page → part 0 16 (with_head number next piece page) ≡ overflow_head number next (length piece)
in_head number next piece page a =
    kept 0 16 16 piece (headed number next piece page) (omega (arith, long_head number next piece page a, a.short)) (inl (omega arith))
    ∙ written 0 (overflow_head number next (length piece)) page (omega (arith, a.size))

-- a field of the header, `more` bytes before its end
field_of : (number next : ℕ) (piece page : List ℕ) (at n more : ℕ) → Asks number next piece page → n ≤ more → at + more ≡ 16 → part at n (with_head number next piece page) ≡ part at n (overflow_head number next (length piece))
field_of number next piece page at n more a within end =
    let new = with_head number next piece page in
    sym (take-take n more (drop at new) within)
    ∙ ap (λ (b : List ℕ). take n b) (sym (drop-take at more new))
    ∙ ap (λ (k : ℕ). take n (drop at (take k new))) end
    ∙ ap (λ (b : List ℕ). take n (drop at b)) (in_head number next piece page a)

pub next_filled : (number next : ℕ) (piece page : List ℕ) → Asks number next piece page → next_in (with_head number next piece page) ≡ next
next_filled number next piece page a = ap (λ (b : List ℕ). from_be_bytes w32 b) (field_of number next piece page 8 4 8 a (omega arith) refl) ∙ from_be_bytes-to_be_bytes_4 next a.link

own_filled : (number next : ℕ) (piece page : List ℕ) → Asks number next piece page → number_at 4 (with_head number next piece page) ≡ number
own_filled number next piece page a = ap (λ (b : List ℕ). from_be_bytes w32 b) (field_of number next piece page 4 4 12 a (omega arith) refl) ∙ from_be_bytes-to_be_bytes_4 number a.own

count_filled : (number next : ℕ) (piece page : List ℕ) → Asks number next piece page → short_at 2 (with_head number next piece page) ≡ length piece
unfolding short_at
count_filled number next piece page a = ap (λ (b : List ℕ). from_be_bytes w16 b) (field_of number next piece page 2 2 14 a (omega arith) refl) ∙ from_be_bytes-to_be_bytes_2 (length piece) (omega (arith, a.short))

zeros_filled : (number next : ℕ) (piece page : List ℕ) → Asks number next piece page → number_at 12 (with_head number next piece page) ≡ 0
zeros_filled number next piece page a = ap (λ (b : List ℕ). from_be_bytes w32 b) (field_of number next piece page 12 4 4 a (omega arith) refl)

pub form_filled : (number next : ℕ) (piece page : List ℕ) → Asks number next piece page → is_overflow_page number (with_head number next piece page) ≡ true
unfolding is_overflow_page
form_filled number next piece page a =
    let new = with_head number next piece page in
    let first = field_of number next piece page 0 2 16 a (omega arith) refl in
    let kind : slice_index new 0 ≡ 4 = first_byte new (overflow_head number next (length piece)) first in
    let zero_ : slice_index new 1 ≡ 0 = second_byte new (overflow_head number next (length piece)) first in
    let count = count_filled number next piece page a in
    let low : 1 ≤ short_at 2 new = omega (arith, count, a.some) in
    let high : short_at 2 new ≤ 4080 = omega (arith, count, a.short) in
    and_from (has_overflow_head number new && nat_le 1 (short_at 2 new)) (nat_le (short_at 2 new) 4080)
    (and_from (has_overflow_head number new) (nat_le 1 (short_at 2 new))
    (and_from (length new == 4096 && slice_index new 0 == 4 && slice_index new 1 == 0 && number_at 4 new == number) (number_at 12 new == 0)
    (and_from (length new == 4096 && slice_index new 0 == 4 && slice_index new 1 == 0) (number_at 4 new == number)
    (and_from (length new == 4096 && slice_index new 0 == 4) (slice_index new 1 == 0)
    (and_from (length new == 4096) (slice_index new 0 == 4) (eq-eqb _ _ (long_both number next piece page a)) (eq-eqb _ _ kind))
    (eq-eqb _ _ zero_))
    (eq-eqb _ _ (own_filled number next piece page a)))
    (eq-eqb _ _ (zeros_filled number next piece page a)))
    (le-leb _ _ low))
    (le-leb _ _ high)

pub piece_filled : (number next : ℕ) (piece page : List ℕ) → Asks number next piece page → piece_in (with_head number next piece page) ≡ piece
piece_filled number next piece page a =
    ap (λ (n : ℕ). part 16 n (with_head number next piece page)) (count_filled number next piece page a)
    ∙ written 16 piece (headed number next piece page) (omega (arith, long_head number next piece page a, a.short))
