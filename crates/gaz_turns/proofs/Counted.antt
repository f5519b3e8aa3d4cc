-- How lines are counted in a text of whole lines, and in a front of it.
use Rattle.std.proofs.Common.{◌≡◌, ◌⊎◌, inl, inr, ⊎_elim, ℕ, zero, suc, ◌+◌, ◌≤◌, Bool, true, false, ◌||◌, cond, true≢false, List, [], ◌∷◌, ◌++◌, take, refl, ◌∙◌, ap, arith, append_assoc}
use Rattle.std.proofs.lemmas.List.Sums.{sum_by-append, sum_by-cons}
use Rattle.std.specs.Prelude.{flat_map, count_by, ◌==◌}
use Rattle.std.specs.List.{AllByRecursion}
use Rattle.gaz_num.specs.Pieces.{pieces, all_but_last, ended_lines}
use Rattle.gaz_turns.specs.Head.{has_byte}

pub or_left : (a b : Bool) → (a || b) ≡ false → a ≡ false
or_left true b h = h
or_left false b h = refl

pub or_right : (a b : Bool) → (a || b) ≡ false → b ≡ false
or_right true b h = absurd (true≢false h)
or_right false b h = h

pub or_both : (a b : Bool) → a ≡ false → b ≡ false → (a || b) ≡ false
or_both a b x y = rw x y

abbrev pub IsOneLine : List ℕ → Type 0
IsOneLine line = has_byte 10 line ≡ false

-- the lines, each with an LF
abbrev pub lined : List (List ℕ) → List ℕ
lined lines = flat_map (λ line. line ++ 10 ∷ []) lines

pieces_at : (xs ys : List ℕ) → IsOneLine xs → pieces 10 (xs ++ 10 ∷ ys) ≡ xs ∷ pieces 10 ys
pieces_at [] ys h = refl
pieces_at (x ∷ xs) ys h = rw (or_left (x == 10) (has_byte 10 xs) h, pieces_at xs ys (or_right (x == 10) (has_byte 10 xs) h))

pieces_none : (xs : List ℕ) → IsOneLine xs → pieces 10 xs ≡ xs ∷ []
pieces_none [] h = refl
pieces_none (x ∷ xs) h = rw (or_left (x == 10) (has_byte 10 xs) h, pieces_none xs (or_right (x == 10) (has_byte 10 xs) h))

-- there is a first piece
pieces_some : (ys : List ℕ) → (x : List ℕ) × (more : List (List ℕ)) × (pieces 10 ys ≡ x ∷ more)
pieces_some [] = ([], [], refl)
pieces_some (y ∷ ys) =
    let rest = pieces_some ys in
    split_by (y == 10) refl rest
  where
    split_by : (b : Bool) → (y == 10) ≡ b → ((x : List ℕ) × (more : List (List ℕ)) × (pieces 10 ys ≡ x ∷ more)) → (x : List ℕ) × (more : List (List ℕ)) × (pieces 10 (y ∷ ys) ≡ x ∷ more)
    split_by true is rest = ([], pieces 10 ys, rw is)
    split_by false is rest = (y ∷ rest.0, rest.1, rw (is, rest.2))

but_last_more : (x : List ℕ) (zs : List (List ℕ)) → ((y : List ℕ) × (more : List (List ℕ)) × (zs ≡ y ∷ more)) → all_but_last (x ∷ zs) ≡ x ∷ all_but_last zs
but_last_more x zs some = rw some.2

pub ended_more : (line rest : List ℕ) → IsOneLine line → ended_lines (line ++ 10 ∷ rest) ≡ line ∷ ended_lines rest
ended_more line rest h = ap all_but_last (pieces_at line rest h) ∙ but_last_more line (pieces 10 rest) (pieces_some rest)

pub ended_none : (text : List ℕ) → IsOneLine text → ended_lines text ≡ []
ended_none text h = ap all_but_last (pieces_none text h)

-- a front of a line and more is in the line, or the line and a front of the rest
cut : (line rest : List ℕ) (n : ℕ) → IsOneLine line → IsOneLine (take n (line ++ 10 ∷ rest)) ⊎ ((m : ℕ) × (take n (line ++ 10 ∷ rest) ≡ line ++ 10 ∷ take m rest))
cut line rest zero h = inl refl
cut [] rest (suc n) h = inr (n, refl)
cut (x ∷ line) rest (suc n) h =
    ⊎_elim
    (λ no. inl (or_both (x == 10) (has_byte 10 (take n (line ++ 10 ∷ rest))) (or_left (x == 10) (has_byte 10 line) h) no))
    (λ m. inr (m.0, ap (λ (t : List ℕ). x ∷ t) m.1))
    (cut line rest n (or_right (x == 10) (has_byte 10 line) h))

abbrev nil : List ℕ
nil = []

take_none : (n : ℕ) → take n nil ≡ nil
take_none zero = refl
take_none (suc n) = refl

module _ (p : List ℕ → Bool) where
  pub count_more : (x : List ℕ) (xs : List (List ℕ)) → count_by p (x ∷ xs) ≡ cond (p x) 1 0 + count_by p xs
  count_more x xs = sum_by-cons (λ line. cond (p line) 1 0) x xs

  pub count_one : (x : List ℕ) (b : Bool) → p x ≡ b → count_by p (x ∷ []) ≡ cond b 1 0
  count_one x b is =
      let all = count_more x [] in
      let one : cond (p x) 1 0 ≡ cond b 1 0 = ap (λ (c : Bool). cond {A = ℕ} c 1 0) is in
      omega (arith, all, one)

  pub count_both : (xs ys : List (List ℕ)) → count_by p (xs ++ ys) ≡ count_by p xs + count_by p ys
  count_both xs ys = sum_by-append (λ line. cond (p line) 1 0) xs ys

  pub count_none : (xs : List (List ℕ)) → AllByRecursion (λ x. p x ≡ false) xs → count_by p xs ≡ 0
  count_none [] h = refl
  count_none (x ∷ xs) h =
      let all = count_more x xs in
      let first : cond (p x) 1 0 ≡ 0 = ap (λ (c : Bool). cond {A = ℕ} c 1 0) h.0 in
      let more = count_none xs h.1 in
      omega (arith, all, first, more)

  pub counted : (lines : List (List ℕ)) (rest : List ℕ) → AllByRecursion IsOneLine lines → count_by p (ended_lines (lined lines ++ rest)) ≡ count_by p lines + count_by p (ended_lines rest)
  counted [] rest h = omega arith
  counted (line ∷ lines) rest h =
      let first : count_by p (ended_lines (lined (line ∷ lines) ++ rest)) ≡ cond (p line) 1 0 + count_by p (ended_lines (lined lines ++ rest)) =
      ap (λ (t : List ℕ). count_by p (ended_lines t)) (append_assoc (line ++ 10 ∷ []) (lined lines) rest ∙ append_assoc line (10 ∷ []) (lined lines ++ rest))
      ∙ ap (count_by p) (ended_more line (lined lines ++ rest) h.0) ∙ count_more line (ended_lines (lined lines ++ rest)) in
      let more = counted lines rest h.1 in
      let here = count_more line lines in
      omega (arith, first, more, here)

  pub counted_front : (lines : List (List ℕ)) (n : ℕ) → AllByRecursion IsOneLine lines → count_by p (ended_lines (take n (lined lines))) ≤ count_by p lines
  counted_front [] n h = let none : count_by p (ended_lines (take n nil)) ≡ 0 = ap (λ (t : List ℕ). count_by p (ended_lines t)) (take_none n) in omega (arith, none)
  counted_front (line ∷ lines) n h =
      let whole : take n (lined (line ∷ lines)) ≡ take n (line ++ 10 ∷ lined lines) = ap (take n) (append_assoc line (10 ∷ []) (lined lines)) in
      ⊎_elim
      (λ no. let none : count_by p (ended_lines (take n (lined (line ∷ lines)))) ≡ 0 =
      ap (λ (t : List ℕ). count_by p (ended_lines t)) whole ∙ ap (count_by p) (ended_none (take n (line ++ 10 ∷ lined lines)) no) in omega (arith, none))
      (λ m. let some : count_by p (ended_lines (take n (lined (line ∷ lines)))) ≡ cond (p line) 1 0 + count_by p (ended_lines (take m.0 (lined lines))) =
      ap (λ (t : List ℕ). count_by p (ended_lines t)) (whole ∙ m.1) ∙ ap (count_by p) (ended_more line (take m.0 (lined lines)) h.0) ∙ count_more line (ended_lines (take m.0 (lined lines))) in
      let more = counted_front lines m.0 h.1 in
      let here = count_more line lines in
      omega (arith, some, more, here))
      (cut line (lined lines) n h.0)
