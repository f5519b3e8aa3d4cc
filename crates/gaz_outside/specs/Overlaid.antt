-- A file after bytes were put at an offset.
use Rattle.std.proofs.Common.{◌≡◌, ◌⊎◌, inl, inr, ⊎_elim, ℕ, ◌+◌, ◌-◌, ◌<◌, ◌≤◌, max, List, ◌++◌, length, get_or, take, drop, replicate, refl, sym, ◌∙◌, ap, arith, length-append, length-drop}
use Rattle.std.proofs.lemmas.Bool.{cases_lt}
use Rattle.std.proofs.lemmas.List.{length-take, length-replicate, get_or-take, get_or-drop, get_or_append_left, get_or-append_right, get_or-replicate, get_or_past, append-nil, ext_get_or}
use Rattle.gaz_outside.specs.Station.{Torn, overlaid}

abbrev padded : List ℕ → ℕ → List ℕ
padded file at = file ++ replicate (at - length file) 0

length-padded : (file : List ℕ) (at : ℕ) → length (padded file at) ≡ max (length file) at
length-padded file at = omega (arith, length-append file (replicate (at - length file) 0), length-replicate {A = ℕ} (at - length file) 0)

padded_at : (file : List ℕ) (at i : ℕ) → get_or (padded file at) i 0 ≡ get_or file i 0
padded_at file at i = elim (cases_lt i (length file)) [
  | inl inside ↦ get_or_append_left file (replicate (at - length file) 0) 0 i inside
  | inr past ↦ get_or-append_right file (replicate (at - length file) 0) (length file) i 0 refl past ∙ zeros (i - length file) ∙ sym (get_or_past file i 0 past)
]
  where
    zeros : (k : ℕ) → get_or {A = ℕ} (replicate (at - length file) 0) k 0 ≡ 0
    zeros k = elim (cases_lt k (at - length file)) [
      | inl inside ↦ get_or-replicate (at - length file) k 0 0 inside
      | inr past ↦ get_or_past (replicate (at - length file) 0) k 0 (omega (arith, length-replicate {A = ℕ} (at - length file) 0))
    ]

front_length : (file : List ℕ) (at : ℕ) → length (take at (padded file at)) ≡ at
front_length file at = omega (arith, length-take at (padded file at), length-padded file at)

pub length-overlaid : (file : List ℕ) (at : ℕ) (bytes : List ℕ) → length (overlaid file at bytes) ≡ max (length file) (at + length bytes)
length-overlaid file at bytes =
    let front = take at (padded file at) in
    omega (arith, front_length file at, length-append (front ++ bytes) (drop (at + length bytes) file), length-append front bytes, length-drop (at + length bytes) file)

pub overlaid_before : (file : List ℕ) (at : ℕ) (bytes : List ℕ) (i : ℕ) → i < at → get_or (overlaid file at bytes) i 0 ≡ get_or file i 0
overlaid_before file at bytes i lt =
    let front = take at (padded file at) in
    let in_front : i < length front = omega (arith, front_length file at) in
    let in_both : i < length (front ++ bytes) = omega (arith, length-append front bytes) in
    get_or_append_left (front ++ bytes) (drop (at + length bytes) file) 0 i in_both
    ∙ get_or_append_left front bytes 0 i in_front
    ∙ get_or-take at (padded file at) i 0 lt
    ∙ padded_at file at i

pub overlaid_inside : (file : List ℕ) (at : ℕ) (bytes : List ℕ) (i : ℕ) → at ≤ i → i < at + length bytes → get_or (overlaid file at bytes) i 0 ≡ get_or bytes (i - at) 0
overlaid_inside file at bytes i from to =
    let front = take at (padded file at) in
    let in_both : i < length (front ++ bytes) = omega (arith, length-append front bytes, front_length file at) in
    get_or_append_left (front ++ bytes) (drop (at + length bytes) file) 0 i in_both
    ∙ get_or-append_right front bytes at i 0 (front_length file at) from

pub overlaid_after : (file : List ℕ) (at : ℕ) (bytes : List ℕ) (i : ℕ) → at + length bytes ≤ i → get_or (overlaid file at bytes) i 0 ≡ get_or file i 0
overlaid_after file at bytes i from =
    let front = take at (padded file at) in
    let both : length (front ++ bytes) ≡ at + length bytes = omega (arith, length-append front bytes, front_length file at) in
    let place : at + length bytes + (i - (at + length bytes)) ≡ i = omega arith in
    get_or-append_right (front ++ bytes) (drop (at + length bytes) file) (at + length bytes) i 0 both from
    ∙ get_or-drop (at + length bytes) file (i - (at + length bytes)) 0
    ∙ ap (λ (k : ℕ). get_or file k 0) place

-- a whole write is one that could be cut short
pub torn-overlaid : (file : List ℕ) (at : ℕ) (bytes : List ℕ) → Torn at (length bytes) file (overlaid file at bytes)
torn-overlaid file at bytes = record {
  no_shorter = omega (arith, length-overlaid file at bytes);
  no_longer = omega (arith, length-overlaid file at bytes);
  same = λ i lt out. ⊎_elim (λ before. overlaid_before file at bytes i before) (λ after. overlaid_after file at bytes i after) out;
}

-- where there is no gap, and where there is one or bytes past the end
pub overlaid_within : (file : List ℕ) (at : ℕ) (bytes : List ℕ) → at + length bytes ≤ length file → overlaid file at bytes ≡ take at file ++ bytes ++ drop (at + length bytes) file
overlaid_within file at bytes within =
    let none : at - length file ≡ 0 = omega arith in
    ap (λ (k : ℕ). take at (file ++ replicate k 0) ++ bytes ++ drop (at + length bytes) file) none
    ∙ ap (λ (f : List ℕ). take at f ++ bytes ++ drop (at + length bytes) file) (append-nil file)

-- what a file reads outside of the bytes, and where it ends, is all that counts
pub overlaid_same : (x y : List ℕ) (at : ℕ) (bytes : List ℕ) → ((i : ℕ) → (i < at) ⊎ (at + length bytes ≤ i) → get_or x i 0 ≡ get_or y i 0) → max (length x) (at + length bytes) ≡ max (length y) (at + length bytes) → overlaid x at bytes ≡ overlaid y at bytes
overlaid_same x y at bytes same ends =
    ext_get_or 0 (overlaid x at bytes) (overlaid y at bytes) (length-overlaid x at bytes ∙ ends ∙ sym (length-overlaid y at bytes)) (λ i lt. each i)
  where
    each : (i : ℕ) → get_or (overlaid x at bytes) i 0 ≡ get_or (overlaid y at bytes) i 0
    each i = elim (cases_lt i at) [
      | inl before ↦ overlaid_before x at bytes i before ∙ same i (inl before) ∙ sym (overlaid_before y at bytes i before)
      | inr from ↦ elim (cases_lt i (at + length bytes)) [
        | inl to ↦ overlaid_inside x at bytes i from to ∙ sym (overlaid_inside y at bytes i from to)
        | inr after ↦ overlaid_after x at bytes i after ∙ same i (inr after) ∙ sym (overlaid_after y at bytes i after)
      ]
    ]

-- grown by zeros to the end of the bytes, and then written over
pub grown-overlaid : (file : List ℕ) (at : ℕ) (bytes grown new : List ℕ) → grown ≡ file ++ replicate (at + length bytes - length file) 0 → new ≡ take at grown ++ bytes ++ drop (at + length bytes) grown → new ≡ overlaid file at bytes
grown-overlaid file at bytes grown new is written =
    let to = at + length bytes in
    let long : length grown ≡ max (length file) to = ap length is ∙ length-padded file to in
    written ∙ sym (overlaid_within grown at bytes (omega (arith, long)))
    ∙ overlaid_same grown file at bytes (λ i out. ap (λ (f : List ℕ). get_or f i 0) is ∙ padded_at file to i) (omega (arith, long))
