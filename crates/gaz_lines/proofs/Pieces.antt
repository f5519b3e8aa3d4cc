-- The lines of a text, one after another.
use Rattle.std.proofs.Common.{sym, ◌≡◌, ◌≢◌, ℕ, suc, ◌+◌, ◌-◌, ◌<◌, ◌≤◌, Bool, true, false, cond, List, [], ◌∷◌, ◌++◌, length, take, refl, ap, arith, ◌∙◌, length-append}
use Rattle.std.specs.Prelude.{◌==◌, nat_lt}
use Rattle.std.specs.List.{onto_first, AllByRecursion}
use Rattle.std.proofs.lemmas.Bool.{false≢true, eq-eqb}
use Rattle.std.proofs.lemmas.Grind.{common_steps}
use Rattle.std.proofs.Math.Seq.{take-append-add}
use Rattle.gaz_num.specs.Pieces.{pieces, lines, ended_lines, lines_up_to, is_past, all_but_last, last_if_any, if_any}
use Rattle.gaz_lines.specs.Lines.{IsLine}

not_lf : (b : ℕ) → b ≢ 10 → (b == 10) ≡ false
not_lf b other = grind (arith, common_steps)

not_ten : (b : ℕ) → (b == 10) ≡ false → b ≢ 10
not_ten b other is = absurd (false≢true (sym other ∙ eq-eqb b 10 is))

pub pieces_line : (text rest : List ℕ) → IsLine text → pieces 10 (text ++ 10 ∷ rest) ≡ text ∷ pieces 10 rest
pieces_line [] rest is = refl
pieces_line (b ∷ text) rest is = rw (not_lf b is.0) (ap (onto_first b) (pieces_line text rest is.1))

pub pieces_last : (text : List ℕ) → IsLine text → pieces 10 text ≡ text ∷ []
pieces_last [] is = refl
pieces_last (b ∷ text) is = rw (not_lf b is.0) (ap (onto_first b) (pieces_last text is.1))

some_cond : (t : Bool) (b : ℕ) (ps : List (List ℕ)) → (x : List ℕ) × (xs : List (List ℕ)) × (cond t ([] ∷ ps) (onto_first b ps) ≡ x ∷ xs)
some_cond true b ps = ([], ps, refl)
some_cond false b [] = (b ∷ [], [], refl)
some_cond false b (p ∷ ps) = (b ∷ p, ps, refl)

pub pieces_some : (bytes : List ℕ) → (x : List ℕ) × (xs : List (List ℕ)) × (pieces 10 bytes ≡ x ∷ xs)
pieces_some [] = ([], [], refl)
pieces_some (b ∷ bytes) = some_cond (b == 10) b (pieces 10 bytes)

-- a front without an LF belongs to the first piece
pub pieces_front : (front bytes x : List ℕ) (xs : List (List ℕ)) → IsLine front → pieces 10 bytes ≡ x ∷ xs → pieces 10 (front ++ bytes) ≡ (front ++ x) ∷ xs
pieces_front [] bytes x xs is e = e
pieces_front (b ∷ front) bytes x xs is e = rw (not_lf b is.0) (ap (onto_first b) (pieces_front front bytes x xs is.1 e))

all_more : (x y : List ℕ) (ps ys : List (List ℕ)) → ps ≡ y ∷ ys → all_but_last (x ∷ ps) ≡ x ∷ all_but_last ps
all_more x y ps ys e = rw e refl

last_more : (x y : List ℕ) (ps ys : List (List ℕ)) → ps ≡ y ∷ ys → last_if_any (x ∷ ps) ≡ last_if_any ps
last_more x y ps ys e = rw e refl

pub ended_line : (text rest : List ℕ) → IsLine text → ended_lines (text ++ 10 ∷ rest) ≡ text ∷ ended_lines rest
ended_line text rest is = let some = pieces_some rest in ap all_but_last (pieces_line text rest is) ∙ all_more text some.0 (pieces 10 rest) some.1 some.2

lines_line : (text rest : List ℕ) → IsLine text → lines (text ++ 10 ∷ rest) ≡ text ∷ lines rest
lines_line text rest is =
    let some = pieces_some rest in
    ap (λ xs. xs ++ last_if_any (pieces 10 (text ++ 10 ∷ rest))) (ended_line text rest is)
    ∙ ap (λ xs. (text ∷ ended_lines rest) ++ xs) (ap last_if_any (pieces_line text rest is) ∙ last_more text some.0 (pieces 10 rest) some.1 some.2)

same_test : (l s n r : ℕ) → s < l → n ≡ s + (r + 1) → nat_lt l n ≡ nat_lt (l - (s + 1)) r
same_test l s n r below e = grind (arith, common_steps)

pub test_false : (l n : ℕ) → n ≤ l → nat_lt l n ≡ false
test_false l n h = grind (arith, common_steps)

pub test_true : (l n : ℕ) → l < n → nat_lt l n ≡ true
test_true l n h = grind (arith, common_steps)

cond_line : (t : Bool) (x : List ℕ) (xs ys : List (List ℕ)) → cond t (x ∷ xs) (x ∷ ys) ≡ x ∷ cond t xs ys
cond_line true x xs ys = refl
cond_line false x xs ys = refl

take_line : (m : ℕ) (text rest : List ℕ) → take (length text + suc m) (text ++ 10 ∷ rest) ≡ text ++ 10 ∷ take m rest
take_line m text rest = take-append-add text (10 ∷ rest) (suc m)

pub past_line : (limit : ℕ) (text rest : List ℕ) → length text < limit → is_past limit (text ++ 10 ∷ rest) ≡ is_past (limit - (length text + 1)) rest
past_line limit text rest below = same_test limit (length text) (length (text ++ 10 ∷ rest)) (length rest) below (omega (arith, length-append text (10 ∷ rest)))

pub up_to_line : (limit : ℕ) (text rest : List ℕ) → IsLine text → length text < limit → lines_up_to limit (text ++ 10 ∷ rest) ≡ text ∷ lines_up_to (limit - (length text + 1)) rest
up_to_line limit text rest is below =
    let m = limit - (length text + 1) in
    let split : limit ≡ length text + suc m = omega arith in
    let front : take limit (text ++ 10 ∷ rest) ≡ text ++ 10 ∷ take m rest = ap (λ n. take n (text ++ 10 ∷ rest)) split ∙ take_line m text rest in
    ap (λ t. cond t (ended_lines (take limit (text ++ 10 ∷ rest))) (lines (text ++ 10 ∷ rest))) (past_line limit text rest below)
    ∙ ap (λ xs. cond (is_past m rest) xs (lines (text ++ 10 ∷ rest))) (ap ended_lines front ∙ ended_line text (take m rest) is)
    ∙ ap (λ ys. cond (is_past m rest) (text ∷ ended_lines (take m rest)) ys) (lines_line text rest is)
    ∙ cond_line (is_past m rest) text (ended_lines (take m rest)) (lines rest)

pub if_some : (text : List ℕ) → 0 < length text → if_any text ≡ text ∷ []
if_some [] some = absurd (omega (arith, some))
if_some (b ∷ text) some = refl

pub up_to_last : (limit : ℕ) (text : List ℕ) → IsLine text → 0 < length text → length text ≤ limit → lines_up_to limit text ≡ text ∷ []
up_to_last limit text is some within =
    rw (test_false limit (length text) within, pieces_last text is) (if_some text some)

pub up_to_much : (limit : ℕ) (bytes : List ℕ) → IsLine (take limit bytes) → limit < length bytes → lines_up_to limit bytes ≡ []
up_to_much limit bytes is more = rw (test_true limit (length bytes) more, pieces_last (take limit bytes) is) refl

pub up_to_nil : (limit : ℕ) → lines_up_to limit [] ≡ []
up_to_nil limit = rw (test_false limit 0 (omega arith)) refl

-- Each line is one: no LF is in it

onto_are_lines : (t : Bool) (b : ℕ) (ps : List (List ℕ)) → (b == 10) ≡ t → AllByRecursion IsLine ps → AllByRecursion IsLine (cond t ([] ∷ ps) (onto_first b ps))
onto_are_lines true b ps lf are = (tt, are)
onto_are_lines false b [] other are = ((not_ten b other, tt), tt)
onto_are_lines false b (p ∷ ps) other are = ((not_ten b other, are.0), are.1)

pieces_are_lines : (bytes : List ℕ) → AllByRecursion IsLine (pieces 10 bytes)
pieces_are_lines [] = (tt, tt)
pieces_are_lines (b ∷ bytes) = onto_are_lines (b == 10) b (pieces 10 bytes) refl (pieces_are_lines bytes)

all_but_are : (ps : List (List ℕ)) → AllByRecursion IsLine ps → AllByRecursion IsLine (all_but_last ps)
all_but_are [] are = tt
all_but_are (p ∷ []) are = tt
all_but_are (p ∷ q ∷ ps) are = (are.0, all_but_are (q ∷ ps) are.1)

if_any_is : (p : List ℕ) → IsLine p → AllByRecursion IsLine (if_any p)
if_any_is [] is = tt
if_any_is (b ∷ p) is = (is, tt)

last_is : (ps : List (List ℕ)) → AllByRecursion IsLine ps → AllByRecursion IsLine (last_if_any ps)
last_is [] are = tt
last_is (p ∷ []) are = if_any_is p are.0
last_is (p ∷ q ∷ ps) are = last_is (q ∷ ps) are.1

pub are_more : (xs ys : List (List ℕ)) → AllByRecursion IsLine xs → AllByRecursion IsLine ys → AllByRecursion IsLine (xs ++ ys)
are_more [] ys front behind = behind
are_more (x ∷ xs) ys front behind = (front.0, are_more xs ys front.1 behind)

either_are : (t : Bool) (xs ys : List (List ℕ)) → AllByRecursion IsLine xs → AllByRecursion IsLine ys → AllByRecursion IsLine (cond t xs ys)
either_are true xs ys front behind = front
either_are false xs ys front behind = behind

pub lines_are_lines : (limit : ℕ) (text : List ℕ) → AllByRecursion IsLine (lines_up_to limit text)
lines_are_lines limit text =
    either_are (is_past limit text) (ended_lines (take limit text)) (lines text)
    (all_but_are (pieces 10 (take limit text)) (pieces_are_lines (take limit text)))
    (are_more (ended_lines text) (last_if_any (pieces 10 text)) (all_but_are (pieces 10 text) (pieces_are_lines text)) (last_is (pieces 10 text) (pieces_are_lines text)))
