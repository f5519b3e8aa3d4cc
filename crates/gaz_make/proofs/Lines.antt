-- Lines, one behind the other.
use Rattle.std.proofs.Common.{◌≡◌, ℕ, zero, suc, ◌+◌, ◌-◌, ◌≤◌, List, [], ◌∷◌, ◌++◌, refl, sym, ◌∙◌, ap, arith, append_assoc, append-nil}
use Rattle.std.specs.Prelude.{map}
use Rattle.std.proofs.lemmas.List.{map-append}
use Rattle.std.proofs.lemmas.List.Concat.{flat_map-append}
use Rattle.gaz_outside.specs.Outside.{IsPrefix}
use Rattle.gaz_make.specs.Made.{up_to, lined}

-- the lines that f makes of the numbers from 1 to n
abbrev pub lines_by : (ℕ → List ℕ) → ℕ → List ℕ
lines_by f n = lined (map f (up_to n))

pub none_by : (f : ℕ → List ℕ) → lines_by f 0 ≡ []
unfolding up_to
none_by f = refl

-- one line more
pub more_by : (f : ℕ → List ℕ) (n : ℕ) → lines_by f (suc n) ≡ lines_by f n ++ (f (suc n) ++ 10 ∷ [])
unfolding up_to
more_by f n =
    ap lined (map-append f (up_to n) (suc n ∷ [])) ∙ flat_map-append (λ (line : List ℕ). line ++ 10 ∷ []) (map f (up_to n)) (f (suc n) ∷ [])
    ∙ ap (λ (xs : List ℕ). lines_by f n ++ xs) (append-nil (f (suc n) ++ 10 ∷ []))

-- fewer lines are a front of more
front_by : (f : ℕ → List ℕ) (n more all : ℕ) → all ≡ more + n → IsPrefix (lines_by f n) (lines_by f all)
front_by f n zero all is = ([], ap (lines_by f) (none_more n all is) ∙ sym (append-nil (lines_by f n)))
  where
    none_more : (n all : ℕ) → all ≡ 0 + n → all ≡ n
    none_more n all is = omega (arith, is)
front_by f n (suc more) all is =
    let before = front_by f n more (more + n) refl in
    let line = f (suc (more + n)) ++ 10 ∷ [] in
    (before.0 ++ line, ap (lines_by f) (one_more n more all is) ∙ more_by f (more + n) ∙ ap (λ (xs : List ℕ). xs ++ line) before.1 ∙ append_assoc (lines_by f n) before.0 line)
  where
    one_more : (n more all : ℕ) → all ≡ suc more + n → all ≡ suc (more + n)
    one_more n more all is = omega (arith, is)

pub front_of_lines : (f : ℕ → List ℕ) (n all : ℕ) → n ≤ all → IsPrefix (lines_by f n) (lines_by f all)
front_of_lines f n all le = front_by f n (all - n) all (omega (arith, le))

-- one line more behind a text
pub more_put : (f : ℕ → List ℕ) (front text new line : List ℕ) (n id : ℕ) → id ≡ n + 1 → line ≡ f id → new ≡ text ++ (line ++ 10 ∷ []) → front ++ text ≡ lines_by f n → front ++ new ≡ lines_by f id
more_put f front text new line n id place is put before =
    ap (λ (xs : List ℕ). front ++ xs) put ∙ sym (append_assoc front text (line ++ 10 ∷ [])) ∙ ap (λ (xs : List ℕ). xs ++ (line ++ 10 ∷ [])) before
    ∙ ap (λ (xs : List ℕ). lines_by f n ++ (xs ++ 10 ∷ [])) (is ∙ ap f next) ∙ sym (more_by f n) ∙ ap (lines_by f) (sym next)
  where
    next : id ≡ suc n
    next = omega (arith, place)
