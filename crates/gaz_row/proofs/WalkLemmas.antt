-- A walk over the columns of a line.
use Rattle.std.proofs.Common.{◌-◌, ◌≡◌, ℕ, zero, suc, ◌+◌, ◌<◌, ◌≤◌, List, [], ◌∷◌, ◌++◌, map, length, take, set, refl, ap, arith, ◌∙◌, sym, append_assoc, length-append, Bor, subst, get_or, unwrap_or}
use Rattle.std.specs.Prelude.{slice_get}
use Rattle.std.proofs.lemmas.List.{take_more_set, map-append, length-map, length-take-le}
use Rattle.std.proofs.Math.Seq.{take-length}
use Rattle.std.proofs.Math.ListN.{length-set}
use Rattle.gaz_num.specs.Pieces.{fields, column}
use Rattle.gaz_num.proofs.PiecesLemmas.{some_field}

-- the texts that references show
abbrev pub shown : List (Bor (List ℕ)) → List (List ℕ)
shown texts = map (λ text. text.now) texts

-- the first texts and the fields of the rest are the fields of the line
pub record Walked (place : ℕ) (texts : List (Bor (List ℕ))) (rest line : List ℕ) : Type 0 where
  pub size : length texts ≡ 19
  pub parts : shown (take place texts) ++ fields rest ≡ fields line

-- one text more
shown_more : (texts : List (Bor (List ℕ))) (place : ℕ) (text : Bor (List ℕ)) → place < length texts → shown (take (place + 1) (set texts place text)) ≡ shown (take place texts) ++ text.now ∷ []
shown_more texts place text below =
    ap shown (take_more_set texts place text below) ∙ map-append (λ (t : Bor (List ℕ)). t.now) (take place texts) (text ∷ [])

pub step : (place : ℕ) (texts : List (Bor (List ℕ))) (text : Bor (List ℕ)) (rest behind line : List ℕ) → Walked place texts rest line → place < 18 → fields rest ≡ text.now ∷ fields behind → Walked (place + 1) (set texts place text) behind line
step place texts text rest behind line walked below is =
    let size = walked.size in
    record {
      size = length-set texts place text ∙ size;
      parts =
          ap (λ (xs : List (List ℕ)). xs ++ fields behind) (shown_more texts place text (omega (arith, size)))
          ∙ append_assoc (shown (take place texts)) (text.now ∷ []) (fields behind)
          ∙ ap (λ (xs : List (List ℕ)). shown (take place texts) ++ xs) (sym is)
          ∙ walked.parts;
    }

pub count : (place : ℕ) (texts : List (Bor (List ℕ))) (rest line : List ℕ) → Walked place texts rest line → place ≤ 18 → length (fields line) ≡ place + length (fields rest)
count place texts rest line walked le =
    let size = walked.size in
    sym (ap length walked.parts)
    ∙ length-append (shown (take place texts)) (fields rest)
    ∙ ap (λ (n : ℕ). n + length (fields rest)) (length-map (take place texts) (λ (t : Bor (List ℕ)). t.now) ∙ length-take-le place texts (omega (arith, size)))

-- a line that ends too early
pub too_few : (place : ℕ) (texts : List (Bor (List ℕ))) (rest line : List ℕ) → Walked place texts rest line → place < 18 → fields rest ≡ rest ∷ [] → length (fields line) < 19
too_few place texts rest line walked below last =
    let all = count place texts rest line walked (omega (arith, below)) in
    let one = ap length last in
    omega (arith, all, one)

-- a line with a column behind the nineteenth
pub too_many : (texts : List (Bor (List ℕ))) (rest text behind line : List ℕ) → Walked 18 texts rest line → fields rest ≡ text ∷ fields behind → 19 < length (fields line)
too_many texts rest text behind line walked is =
    let all = count 18 texts rest line walked (omega arith) in
    let more = ap length is in
    let some = some_field behind in
    omega (arith, all, more, some)

-- a line with as many as there are to be
pub just : (texts : List (Bor (List ℕ))) (rest line : List ℕ) → Walked 18 texts rest line → fields rest ≡ rest ∷ [] → length (fields line) ≡ 19
just texts rest line walked last =
    let all = count 18 texts rest line walked (omega arith) in
    let one = ap length last in
    omega (arith, all, one)

all_texts : (texts : List (Bor (List ℕ))) → length texts ≡ 19 → take 19 texts ≡ texts
all_texts texts size = ap (λ (n : ℕ). take n texts) (sym size) ∙ take-length texts

pub whole : (texts : List (Bor (List ℕ))) (rest : Bor (List ℕ)) (line : List ℕ) → Walked 18 texts rest.now line → fields rest.now ≡ rest.now ∷ [] → shown (set texts 18 rest) ≡ fields line
whole texts rest line walked last =
    let size = walked.size in
    ap shown (sym (all_texts (set texts 18 rest) (length-set texts 18 rest ∙ size)))
    ∙ shown_more texts 18 rest (omega (arith, size))
    ∙ ap (λ (xs : List (List ℕ)). shown (take 18 texts) ++ xs) (sym last)
    ∙ walked.parts

-- the walk at its end
pub at_end : (place : ℕ) (texts : List (Bor (List ℕ))) (rest line : List ℕ) → Walked place texts rest line → place ≤ 18 → 18 ≤ place → Walked 18 texts rest line
at_end place texts rest line walked le ge = subst (λ (n : ℕ). Walked n texts rest line) (omega (arith, le, ge)) walked

at : (texts : List (Bor (List ℕ))) (place : ℕ) (other : Bor (List ℕ)) → place < length texts → (get_or texts place other).now ≡ unwrap_or (slice_get (shown texts) place) []
at [] place other below = absurd (omega (arith, below))
at (text ∷ texts) zero other below = refl
at (text ∷ texts) (suc place) other below = at texts place other (omega (arith, below))

-- the text of a number is that column
pub text_is_column : (texts : List (Bor (List ℕ))) (number : ℕ) (other : Bor (List ℕ)) (line : List ℕ) → number - 1 < length texts → shown texts ≡ fields line → (get_or texts (number - 1) other).now ≡ column number line
text_is_column texts number other line below is =
    at texts (number - 1) other below
    ∙ ap (λ (all : List (List ℕ)). unwrap_or (slice_get all (number - 1)) []) is
