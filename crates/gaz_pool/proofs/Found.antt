-- The map of the places of pages, after one is put behind the others or in the place of another.
use Rattle.std.proofs.Common.{◌≡◌, ◌≢◌, ℕ, ◌+◌, ◌<◌, List, [], ◌∷◌, ◌++◌, length, get_or, set, take, Option, Some, None, unwrap_or, refl, sym, ◌∙◌, ap, subst, arith, inl, inr}
use Rattle.std.proofs.lemmas.Bool.{cases_lt, cases_eq}
use Rattle.std.proofs.lemmas.List.{length-append, length-set, length-take-le, get_or-take, take_more, get_or_append_left, get_or-set_same, get_or-set_other}
use Rattle.std.proofs.Math.Seq.{get_or-append_seam}
use Rattle.gaz_pool.specs.Table.{StandsAt, Has, OneEach, AreFound}

some_is : (a b : ℕ) → Some a ≡ Some b → a ≡ b
some_is a b same = ap (λ (o : Option ℕ). unwrap_or o 0) same

-- no number stands at two places
pub found_once : (map : ℕ → Option ℕ) (numbers : List ℕ) → AreFound map numbers → OneEach numbers
found_once map numbers are i j low high same = some_is i j (sym (are.here i low) ∙ ap map same ∙ are.here j high)

none_by : (map : ℕ → Option ℕ) (numbers : List ℕ) (number : ℕ) → AreFound map numbers → (Has numbers number → ⊥) → (o : Option ℕ) → map number ≡ o → o ≡ None
none_by map numbers number are isnt None is = refl
none_by map numbers number are isnt (Some place) is = (let stands = are.there number place is in absurd (isnt (place, stands.0, stands.1)))

-- a number that doesn't stand among them has no place
pub found_none : (map : ℕ → Option ℕ) (numbers : List ℕ) (number : ℕ) → AreFound map numbers → (Has numbers number → ⊥) → map number ≡ None
found_none map numbers number are isnt = none_by map numbers number are isnt (map number) refl

-- the place behind them is no number's
pub end_unused : (map : ℕ → Option ℕ) (numbers : List ℕ) (place other : ℕ) → AreFound map numbers → place ≡ length numbers → map other ≡ Some place → ⊥
end_unused map numbers place other are end is = let low = (are.there other place is).0 in omega (arith, low, end)

-- one more behind them
pub found_pushed : (map new : ℕ → Option ℕ) (numbers : List ℕ) (number : ℕ) → AreFound map numbers → (Has numbers number → ⊥)
    → new number ≡ Some (length numbers) → ((other : ℕ) → other ≢ number → new other ≡ map other) → AreFound new (numbers ++ number ∷ [])
found_pushed map new numbers number are isnt put others = record { here = here; there = there }
  where
    all : List ℕ
    all = numbers ++ number ∷ []

    long : length all ≡ length numbers + 1
    long = length-append numbers (number ∷ [])

    here : (place : ℕ) → place < length all → new (get_or all place 0) ≡ Some place
    here place within =
        elim (cases_lt place (length numbers)) [
          | inl first ↦
              let is = get_or_append_left numbers (number ∷ []) 0 place first in
              ap new is ∙ others (get_or numbers place 0) (λ same. isnt (place, first, same)) ∙ are.here place first
          | inr last ↦
              let end : place ≡ length numbers = omega (arith, within, last, long) in
              ap new (ap (λ (k : ℕ). get_or all k 0) end ∙ get_or-append_seam numbers number [] 0) ∙ put ∙ ap Some (sym end)
        ]

    there : (other place : ℕ) → new other ≡ Some place → StandsAt all place other
    there other place is =
        elim (cases_eq other number) [
          | inl same ↦
              let end : place ≡ length numbers = some_is place (length numbers) (sym is ∙ ap new same ∙ put) in
              (omega (arith, end, long), ap (λ (k : ℕ). get_or all k 0) end ∙ get_or-append_seam numbers number [] 0 ∙ sym same)
          | inr away ↦
              let stands = are.there other place (sym (others other away) ∙ is) in
              let low = stands.0 in
              (omega (arith, low, long), get_or_append_left numbers (number ∷ []) 0 place low ∙ stands.1)
        ]

-- What is left when the number at a place was taken out: the place is no number's.
pub place_unused : (map less : ℕ → Option ℕ) (numbers : List ℕ) (place other : ℕ) → AreFound map numbers → place < length numbers → less (get_or numbers place 0) ≡ None
    → ((other : ℕ) → other ≢ get_or numbers place 0 → less other ≡ map other) → less other ≡ Some place → ⊥
place_unused map less numbers place other are within gone others is =
    elim (cases_eq other (get_or numbers place 0)) [
      | inl same ↦ absurd (cc (gone, ap less (sym same), is))
      | inr away ↦ away (sym (are.there other place (sym (others other away) ∙ is)).1)
    ]

-- one in the place of another
pub found_replaced : (map less new : ℕ → Option ℕ) (numbers : List ℕ) (place number : ℕ) → AreFound map numbers → place < length numbers → (Has numbers number → ⊥)
    → less (get_or numbers place 0) ≡ None → ((other : ℕ) → other ≢ get_or numbers place 0 → less other ≡ map other)
    → new number ≡ Some place → ((other : ℕ) → other ≢ number → new other ≡ less other) → AreFound new (set numbers place number)
found_replaced map less new numbers place number are within isnt gone kept put others = record { here = here; there = there }
  where
    all : List ℕ
    all = set numbers place number

    long : length all ≡ length numbers
    long = length-set numbers place number

    here : (i : ℕ) → i < length all → new (get_or all i 0) ≡ Some i
    here i below =
        let low : i < length numbers = omega (arith, below, long) in
        elim (cases_eq i place) [
          | inl same ↦ ap new (ap (λ (k : ℕ). get_or all k 0) same ∙ get_or-set_same numbers place number 0 within) ∙ put ∙ ap Some (sym same)
          | inr away ↦
              ap new (get_or-set_other numbers place i number 0 away)
              ∙ others (get_or numbers i 0) (λ same. isnt (i, low, same))
              ∙ kept (get_or numbers i 0) (λ same. away (found_once map numbers are i place low within same))
              ∙ are.here i low
        ]

    there : (other i : ℕ) → new other ≡ Some i → StandsAt all i other
    there other i is =
        elim (cases_eq other number) [
          | inl same ↦
              let end : i ≡ place = some_is i place (sym is ∙ ap new same ∙ put) in
              (omega (arith, end, within, long), ap (λ (k : ℕ). get_or all k 0) end ∙ get_or-set_same numbers place number 0 within ∙ sym same)
          | inr away ↦ still other i (sym (others other away) ∙ is)
        ]
      where
        still : (other i : ℕ) → less other ≡ Some i → StandsAt all i other
        still other i is =
            elim (cases_eq other (get_or numbers place 0)) [
              | inl same ↦ absurd (cc (gone, ap less (sym same), is))
              | inr away ↦
                  let stands = are.there other i (sym (kept other away) ∙ is) in
                  let low = stands.0 in
                  let elsewhere : i ≢ place = λ same. away (sym (ap (λ (k : ℕ). get_or numbers k 0) (sym same) ∙ stands.1)) in
                  (omega (arith, low, long), get_or-set_other numbers place i number 0 elsewhere ∙ stands.1)
            ]

front_long : (numbers : List ℕ) (place : ℕ) → place < length numbers → length (take place numbers) ≡ place
front_long numbers place there = length-take-le place numbers (omega (arith, there))

-- the number at a place doesn't stand before it
unseen : (numbers : List ℕ) (place : ℕ) → OneEach numbers → place < length numbers → Has (take place numbers) (get_or numbers place 0) → ⊥
unseen numbers place once there (i, within, is) =
    let low : i < place = omega (arith, within, front_long numbers place there) in
    let same : i ≡ place = once i place (omega (arith, low, there)) there (sym (get_or-take place numbers i 0 low) ∙ is) in
    omega (arith, same, low)

-- Where the numbers before a place have been entered: the next has no place, no number has the place, and then it may be entered.
pub next_new : (map : ℕ → Option ℕ) (numbers : List ℕ) (place : ℕ) → OneEach numbers → place < length numbers → AreFound map (take place numbers) → map (get_or numbers place 0) ≡ None
next_new map numbers place once there are = found_none map (take place numbers) (get_or numbers place 0) are (unseen numbers place once there)

pub next_unused : (map : ℕ → Option ℕ) (numbers : List ℕ) (place other : ℕ) → place < length numbers → AreFound map (take place numbers) → map other ≡ Some place → ⊥
next_unused map numbers place other there are = end_unused map (take place numbers) place other are (sym (front_long numbers place there))

pub next_entered : (map new : ℕ → Option ℕ) (numbers : List ℕ) (place : ℕ) → OneEach numbers → place < length numbers → AreFound map (take place numbers)
    → new (get_or numbers place 0) ≡ Some place → ((other : ℕ) → other ≢ get_or numbers place 0 → new other ≡ map other) → AreFound new (take (place + 1) numbers)
next_entered map new numbers place once there are put others =
    subst (AreFound new) (sym (take_more numbers place 0 there))
    (found_pushed map new (take place numbers) (get_or numbers place 0) are (unseen numbers place once there) (put ∙ ap Some (sym (front_long numbers place there))) others)
