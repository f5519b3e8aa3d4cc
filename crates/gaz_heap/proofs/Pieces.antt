-- A long record, while its pieces are copied.
use Rattle.std.proofs.Common.{◌≡◌, ◌≢◌, ◌≤◌, ◌<◌, ◌+◌, ◌-◌, ℕ, List, length, take, refl, sym, ap, ◌∙◌, subst, arith, Some, None}
use Rattle.std.specs.Prelude.{Option}
use Rattle.std.proofs.lemmas.List.{length-take-le}
use Rattle.gaz_slots.specs.Overflow.{next_in, CopiesPiece, IsBroken}
use Rattle.gaz_heap.specs.Chain.{chain_at, long_enough}
use Rattle.gaz_heap.proofs.Chain.{behind, step_last, step_more, step_broken, fits, too_short}
use Rattle.gaz_slots.specs.Bytes.{IsCopied}

-- what is found by now of the record that stands from a page on
abbrev pub Rest : ℕ → (ℕ → List ℕ) → ℕ → ℕ → List ℕ → Option (List ℕ) → Type 0
Rest turn pages number at buf whole = whole ≡ long_enough (behind (take at buf) (chain_at (17 - turn) pages number))

one_more : (turn : ℕ) (pages : ℕ → List ℕ) (number at : ℕ) (buf : List ℕ) (whole : Option (List ℕ)) → turn < 17 → Rest turn pages number at buf whole → whole ≡ long_enough (behind (take at buf) (chain_at (16 - turn + 1) pages number))
one_more turn pages number at buf whole low rest =
    let turns : 17 - turn ≡ 16 - turn + 1 = omega arith in
    subst (λ (k : ℕ). whole ≡ long_enough (behind (take at buf) (chain_at k pages number))) turns rest

pub found_last : (turn : ℕ) (pages : ℕ → List ℕ) (number at n : ℕ) (page old new : List ℕ) (whole : Option (List ℕ)) → turn < 17 → Rest turn pages number at old whole → page ≡ pages number
    → CopiesPiece number page at old new n → next_in page ≡ 0 → at + n ≤ length new → whole ≡ long_enough (Some (take (at + n) new))
found_last turn pages number at n page old new whole low rest is c last room =
    let here : CopiesPiece number (pages number) at old new n = subst (λ (p : List ℕ). CopiesPiece number p at old new n) is c in
    one_more turn pages number at old whole low rest
    ∙ ap (λ (o : Option (List ℕ)). long_enough o) (step_last (16 - turn) at n pages number old new here (ap (λ (p : List ℕ). next_in p) (sym is) ∙ last))

pub last_copied : (at n : ℕ) (new : List ℕ) (whole : Option (List ℕ)) → whole ≡ long_enough (Some (take (at + n) new)) → 4076 < at + n → at + n ≤ 65535 → at + n ≤ length new → IsCopied (at + n) new whole
last_copied at n new whole is long short room =
    let size = length-take-le (at + n) new room in
    subst (λ (o : Option (List ℕ)). IsCopied (at + n) new o) (sym (is ∙ fits (take (at + n) new) (omega (arith, size, long)) (omega (arith, size, short)))) (sym size, refl)

pub last_short : (at n : ℕ) (new : List ℕ) (whole : Option (List ℕ)) → whole ≡ long_enough (Some (take (at + n) new)) → at + n ≤ 4076 → at + n ≤ length new → whole ≡ None
last_short at n new whole is short room = is ∙ too_short (take (at + n) new) (omega (arith, length-take-le (at + n) new room, short))

pub found_more : (turn : ℕ) (pages : ℕ → List ℕ) (number at next : ℕ) (page old new : List ℕ) (whole : Option (List ℕ)) → turn < 17 → Rest turn pages number at old whole → page ≡ pages number
    → CopiesPiece number page at old new 4080 → next_in page ≡ next → next ≢ 0 → Rest (turn + 1) pages next (at + 4080) new whole
found_more turn pages number at next page old new whole low rest is c link more =
    let here : CopiesPiece number (pages number) at old new 4080 = subst (λ (p : List ℕ). CopiesPiece number p at old new 4080) is c in
    let turns : 16 - turn ≡ 17 - (turn + 1) = omega arith in
    one_more turn pages number at old whole low rest
    ∙ ap (λ (o : Option (List ℕ)). long_enough o) (step_more (16 - turn) at pages number next old new here (ap (λ (p : List ℕ). next_in p) (sym is) ∙ link) more)
    ∙ ap (λ (k : ℕ). long_enough (behind (take (at + 4080) new) (chain_at k pages next))) turns

pub found_broken : (turn : ℕ) (pages : ℕ → List ℕ) (number at : ℕ) (page old : List ℕ) (whole : Option (List ℕ)) → turn < 17 → Rest turn pages number at old whole → page ≡ pages number → at ≤ length old → IsBroken number page at → whole ≡ None
found_broken turn pages number at page old whole low rest is within broken =
    one_more turn pages number at old whole low rest ∙ step_broken (16 - turn) at pages number old within (subst (λ (p : List ℕ). IsBroken number p at) is broken)

-- a chain that is longer than 17 pages has no record
pub end_of_chain : (turn : ℕ) (pages : ℕ → List ℕ) (number at : ℕ) (buf : List ℕ) (whole : Option (List ℕ)) → 17 ≤ turn → Rest turn pages number at buf whole → whole ≡ None
unfolding chain_at
end_of_chain turn pages number at buf whole past rest =
    let none_left : 17 - turn ≡ 0 = omega arith in
    rest ∙ ap (λ (k : ℕ). long_enough (behind (take at buf) (chain_at k pages number))) none_left
