-- No line of a text has an LF.
use Rattle.std.proofs.Common.{◌≡◌, ℕ, Bool, true, false, cond, eqb, List, [], ◌∷◌, ◌++◌, IsTrue, refl, take, arith}
use Rattle.std.specs.List.{AllByRecursion, onto_first}
use Rattle.gaz_num.specs.Pieces.{pieces, all_but_last, if_any, last_if_any, ended_lines, lines, is_past, lines_within, text_limit}
use Rattle.gaz_plain.specs.Gazetteer.{is_one_line}

-- none of these lines has an LF
abbrev pub AreOneLines : List (List ℕ) → Type 0
AreOneLines texts = AllByRecursion (λ text. IsTrue (is_one_line text)) texts

onto : (b : ℕ) (parts : List (List ℕ)) → eqb b 10 ≡ false → AreOneLines parts → AreOneLines (onto_first b parts)
onto b [] other are = (grind arith, tt)
onto b (part ∷ parts) other are = let one = are.0 in (grind arith, are.1)

cut : (b : ℕ) (parts : List (List ℕ)) (test : Bool) → eqb b 10 ≡ test → AreOneLines parts → AreOneLines (cond test ([] ∷ parts) (onto_first b parts))
cut b parts true is are = (refl, are)
cut b parts false other are = onto b parts other are

pieces_are : (text : List ℕ) → AreOneLines (pieces 10 text)
pieces_are [] = (refl, tt)
pieces_are (b ∷ text) = cut b (pieces 10 text) (eqb b 10) refl (pieces_are text)

all_but_last_are : (texts : List (List ℕ)) → AreOneLines texts → AreOneLines (all_but_last texts)
all_but_last_are [] are = tt
all_but_last_are (x ∷ []) are = tt
all_but_last_are (x ∷ y ∷ more) are = (are.0, all_but_last_are (y ∷ more) are.1)

if_any_is : (text : List ℕ) → IsTrue (is_one_line text) → AreOneLines (if_any text)
if_any_is [] is = tt
if_any_is (b ∷ bs) is = (is, tt)

last_is : (texts : List (List ℕ)) → AreOneLines texts → AreOneLines (last_if_any texts)
last_is [] are = tt
last_is (x ∷ []) are = if_any_is x are.0
last_is (x ∷ y ∷ more) are = last_is (y ∷ more) are.1

both : (xs ys : List (List ℕ)) → AreOneLines xs → AreOneLines ys → AreOneLines (xs ++ ys)
both [] ys left right = right
both (x ∷ xs) ys left right = (left.0, both xs ys left.1 right)

ended_are : (text : List ℕ) → AreOneLines (ended_lines text)
ended_are text = all_but_last_are (pieces 10 text) (pieces_are text)

chosen : (test : Bool) (xs ys : List (List ℕ)) → AreOneLines xs → AreOneLines ys → AreOneLines (cond test xs ys)
chosen true xs ys left right = left
chosen false xs ys left right = right

pub lines_within_are : (text : List ℕ) → AreOneLines (lines_within text)
lines_within_are text = chosen (is_past text_limit text) (ended_lines (take text_limit text)) (lines text) (ended_are (take text_limit text)) (both (ended_lines text) (last_if_any (pieces 10 text)) (ended_are text) (last_is (pieces 10 text) (pieces_are text)))
