-- A path that is written code by code, with a byte behind each.
use Rattle.std.proofs.Common.{◌≡◌, ◌<◌, ◌+◌, ℕ, zero, suc, List, [], ◌∷◌, ◌++◌, flat_map, refl, sym, ap, subst, arith, ◌∙◌}
use Rattle.std.proofs.lemmas.Grind.{flat_map-append}
use Rattle.std.proofs.lemmas.List.{append-nil}
use Rattle.gaz_num.specs.Pieces.{column}
use Rattle.gaz_parent.specs.Parent.{path_columns}
use Rattle.gaz_keys.specs.Front.{IsFront}
use Rattle.gaz_kin.specs.Kept.{path_with}

-- the path to level 0
pub path_begun : (byte : ℕ) (row : List ℕ) → column 9 row ++ byte ∷ [] ≡ path_with byte 0 row
path_begun byte row = sym (append-nil (column 9 row ++ byte ∷ []))

-- the path to a level, and to the next one
pub path_more : (byte k : ℕ) (row : List ℕ) → k < 4 → path_with byte k row ++ (column (10 + (k + 1)) row ++ byte ∷ []) ≡ path_with byte (k + 1) row
path_more byte k row below =
    ap (λ text. path_with byte k row ++ text) (sym (append-nil (column (10 + (k + 1)) row ++ byte ∷ [])))
    ∙ sym (flat_map-append coded (path_columns k) ((10 + (k + 1)) ∷ []))
    ∙ ap (flat_map coded) (columns k below)
  where
    coded : ℕ → List ℕ
    coded n = column n row ++ byte ∷ []

    columns : (k : ℕ) → k < 4 → path_columns k ++ ((10 + (k + 1)) ∷ []) ≡ path_columns (k + 1)
    columns zero below = refl
    columns (suc zero) below = refl
    columns (suc (suc zero)) below = refl
    columns (suc (suc (suc zero))) below = refl
    columns (suc (suc (suc (suc k)))) below = absurd (omega (arith, below))

-- a code more, where this is what a call promises of it
pub code_more : (byte held size : ℕ) (text code more bytes now : List ℕ) (len len_now : ℕ) → held ≡ size
    → ((text : List ℕ) → IsFront held text bytes len → IsFront held (text ++ (code ++ byte ∷ [])) now len_now)
    → text ++ (code ++ byte ∷ []) ≡ more → IsFront size text bytes len → IsFront size more now len_now
code_more byte held size text code more bytes now len len_now same promised is front =
    subst (λ t. IsFront size t now len_now) is
    (subst (λ n. IsFront n text bytes len → IsFront n (text ++ (code ++ byte ∷ [])) now len_now) same (promised text) front)
