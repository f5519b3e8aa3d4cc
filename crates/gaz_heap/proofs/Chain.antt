-- The pieces of a long record, from one page to the next.
use Rattle.std.proofs.Common.{◌≡◌, ◌≢◌, ◌≤◌, ◌<◌, ◌+◌, ℕ, zero, suc, true, false, List, [], ◌++◌, length, take, refl, sym, ap, ◌∙◌, arith, add-one, inl, inr, Some, None, append_assoc}
use Rattle.std.specs.Prelude.{Option, option_map, nat_lt, nat_le, ◌&&◌}
use Rattle.std.proofs.lemmas.Bool.{cases_Bool, cases_eq, eq-eqb, ne_eqb, le-leb, lt-leb, lt-ltb, le-ltb, and_right}
use Rattle.std.proofs.lemmas.List.{length-append, length-take-le}
use Rattle.gaz_num.specs.Numbers.{some_if}
use Rattle.gaz_page.specs.Free.{short_at}
use Rattle.gaz_slots.specs.Overflow.{is_overflow_page, next_in, piece_in, CopiesPiece, IsBroken}
use Rattle.gaz_slots.proofs.PieceForm.{length-piece}
use Rattle.gaz_heap.specs.Chain.{chain_at, long_enough}

pub chain_last : (most : ℕ) (pages : ℕ → List ℕ) (number : ℕ) → is_overflow_page number (pages number) ≡ true → next_in (pages number) ≡ 0 → chain_at (most + 1) pages number ≡ Some (piece_in (pages number))
unfolding chain_at
chain_last most pages number form last = rw (add-one, form, eq-eqb _ _ last) refl

pub chain_more : (most : ℕ) (pages : ℕ → List ℕ) (number : ℕ) → is_overflow_page number (pages number) ≡ true → next_in (pages number) ≢ 0 → short_at 2 (pages number) ≡ 4080
    → chain_at (most + 1) pages number ≡ option_map (λ bytes. piece_in (pages number) ++ bytes) (chain_at most pages (next_in (pages number)))
unfolding chain_at
chain_more most pages number form more full = rw (add-one, form, ne_eqb _ _ more, eq-eqb _ _ full) refl

pub chain_unformed : (most : ℕ) (pages : ℕ → List ℕ) (number : ℕ) → is_overflow_page number (pages number) ≡ false → chain_at most pages number ≡ None
unfolding chain_at
chain_unformed zero pages number bad = refl
chain_unformed (suc most) pages number bad = rw bad refl

pub chain_short : (most : ℕ) (pages : ℕ → List ℕ) (number : ℕ) → next_in (pages number) ≢ 0 → short_at 2 (pages number) ≢ 4080 → chain_at most pages number ≡ None
unfolding chain_at
chain_short zero pages number more short = refl
chain_short (suc most) pages number more short =
    elim (cases_Bool (is_overflow_page number (pages number))) [
      | inl form ↦ rw (form, ne_eqb _ _ more, ne_eqb _ _ short) refl
      | inr bad ↦ rw bad refl
    ]

-- what follows the first bytes
abbrev pub behind : List ℕ → Option (List ℕ) → Option (List ℕ)
behind front rest = option_map (λ bytes. front ++ bytes) rest

pub behind_twice : (front piece : List ℕ) (rest : Option (List ℕ)) → behind front (behind piece rest) ≡ behind (front ++ piece) rest
behind_twice front piece None = refl
behind_twice front piece (Some bytes) = ap (λ (b : List ℕ). Some b) (sym (append_assoc front piece bytes))

-- a record that is too long
pub too_long : (bytes : List ℕ) → 65535 < length bytes → long_enough (Some bytes) ≡ None
too_long bytes long = ap (λ b. some_if b bytes) (and_right (nat_lt 4076 (length bytes)) (nat_le (length bytes) 65535) (lt-leb (length bytes) 65535 long))

pub too_short : (bytes : List ℕ) → length bytes ≤ 4076 → long_enough (Some bytes) ≡ None
too_short bytes short = ap (λ b. some_if (b && nat_le (length bytes) 65535) bytes) (le-ltb 4076 (length bytes) short)

pub fits : (bytes : List ℕ) → 4076 < length bytes → length bytes ≤ 65535 → long_enough (Some bytes) ≡ Some bytes
fits bytes long short = rw (lt-ltb 4076 (length bytes) long, le-leb (length bytes) 65535 short) refl

-- what follows the first bytes has at least these
behind_long : (front : List ℕ) (rest : Option (List ℕ)) (bytes : List ℕ) → behind front rest ≡ Some bytes → length front ≤ length bytes
behind_long front None bytes is = absurd cc
behind_long front (Some more) bytes is =
    let same : front ++ more ≡ bytes = cc in
    omega (arith, length-append front more, ap (λ (b : List ℕ). length b) same)

-- the pieces from a page on have at least the bytes of that page
pub chain_long : (most : ℕ) (pages : ℕ → List ℕ) (number : ℕ) (bytes : List ℕ) → is_overflow_page number (pages number) ≡ true → chain_at (most + 1) pages number ≡ Some bytes → short_at 2 (pages number) ≤ length bytes
chain_long most pages number bytes form is =
    let piece = piece_in (pages number) in
    let size = length-piece number (pages number) form in
    elim (cases_eq (next_in (pages number)) 0) [
      | inl last ↦
          let same : Some piece ≡ Some bytes = sym (chain_last most pages number form last) ∙ is in
          let one : piece ≡ bytes = cc in
          omega (arith, size, ap (λ (b : List ℕ). length b) one)
      | inr more ↦ elim (cases_eq (short_at 2 (pages number)) 4080) [
        | inl full ↦ omega (arith, size, behind_long piece (chain_at most pages (next_in (pages number))) bytes (sym (chain_more most pages number form more full) ∙ is))
        | inr short ↦ let none : None ≡ Some bytes = sym (chain_short (most + 1) pages number more short) ∙ is in absurd cc
      ]
    ]

-- the record so far, with what follows from a page on
pub step_last : (most at n : ℕ) (pages : ℕ → List ℕ) (number : ℕ) (old new : List ℕ) → CopiesPiece number (pages number) at old new n → next_in (pages number) ≡ 0
    → behind (take at old) (chain_at (most + 1) pages number) ≡ Some (take (at + n) new)
step_last most at n pages number old new c last =
    ap (λ (o : Option (List ℕ)). behind (take at old) o) (chain_last most pages number c.form last) ∙ ap (λ (b : List ℕ). Some b) (sym c.copied)

pub step_more : (most at : ℕ) (pages : ℕ → List ℕ) (number next : ℕ) (old new : List ℕ) → CopiesPiece number (pages number) at old new 4080 → next_in (pages number) ≡ next → next ≢ 0
    → behind (take at old) (chain_at (most + 1) pages number) ≡ behind (take (at + 4080) new) (chain_at most pages next)
step_more most at pages number next old new c is more =
    ap (λ (o : Option (List ℕ)). behind (take at old) o) (chain_more most pages number c.form (λ zero_. more (sym is ∙ zero_)) c.count)
    ∙ behind_twice (take at old) (piece_in (pages number)) (chain_at most pages (next_in (pages number)))
    ∙ (λ i. behind (sym c.copied i) (chain_at most pages (is i)))

-- a long record of which one piece is broken
none_behind : (front : List ℕ) (rest : Option (List ℕ)) → rest ≡ None → long_enough (behind front rest) ≡ None
none_behind front rest is = ap (λ (o : Option (List ℕ)). long_enough (behind front o)) is

long_behind : (front : List ℕ) (rest : Option (List ℕ)) → ((bytes : List ℕ) → rest ≡ Some bytes → 65535 < length front + length bytes) → long_enough (behind front rest) ≡ None
long_behind front None long = refl
long_behind front (Some bytes) long = too_long (front ++ bytes) (omega (arith, long bytes refl, length-append front bytes))

pub step_broken : (most at : ℕ) (pages : ℕ → List ℕ) (number : ℕ) (old : List ℕ) → at ≤ length old → IsBroken number (pages number) at → long_enough (behind (take at old) (chain_at (most + 1) pages number)) ≡ None
step_broken most at pages number old within broken =
    let front = take at old in
    elim broken [
      | inl unformed ↦ none_behind front _ (chain_unformed (most + 1) pages number unformed)
      | inr other ↦ elim other [
        | inr short ↦ none_behind front _ (chain_short (most + 1) pages number short.0 short.1)
        | inl long ↦ elim (cases_Bool (is_overflow_page number (pages number))) [
          | inr unformed ↦ none_behind front _ (chain_unformed (most + 1) pages number unformed)
          | inl form ↦ long_behind front (chain_at (most + 1) pages number) (λ bytes is. omega (arith, long, length-take-le at old within, chain_long most pages number bytes form is))
        ]
      ]
    ]

-- a buffer with nothing in it yet
pub behind_nothing : (rest : Option (List ℕ)) → behind [] rest ≡ rest
behind_nothing None = refl
behind_nothing (Some bytes) = refl
