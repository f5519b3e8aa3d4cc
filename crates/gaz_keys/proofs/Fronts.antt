-- A piece put behind the front of a text makes the front of the longer text.
use Rattle.std.proofs.Common.{◌≡◌, ℕ, ◌+◌, ◌-◌, ◌<◌, ◌≤◌, min, List, [], ◌∷◌, ◌++◌, length, take, drop, replicate, refl, subst, sym, ◌∙◌, ap, ap₂, arith, inl, inr, zero, suc, flat_map, length-append}
use Rattle.std.proofs.lemmas.Bool.{cases_lt}
use Rattle.std.proofs.lemmas.Grind.{flat_map-append}
use Rattle.std.proofs.lemmas.List.{append-nil, append_assoc, take_all, take-append-drop, take-append-le}
use Rattle.std.proofs.Math.Seq.{take-append-add, drop-append_seam}
use Rattle.std.specs.Prelude.{◌⊎◌}
use borrow.Rule.Slice.PartMut.{put_mid}
use Rattle.gaz_name.specs.Name.{first_bytes}
use Rattle.gaz_name.proofs.KeyLemmas.{zeros_behind}
use Rattle.gaz_num.specs.Pieces.{column}
use Rattle.gaz_parent.specs.Parent.{path_columns}
use Rattle.gaz_keys.specs.Front.{IsFront}
use Rattle.gaz_keys.specs.Lines.{path_to}
use Rattle.gaz_keys.proofs.Made.{take_front}

-- a front without room for more
full : (size : ℕ) (text piece : List ℕ) → size ≤ length text → first_bytes size text ≡ first_bytes size (text ++ piece)
full size text piece long =
    let more = length-append text piece in
    ap₂ ◌++◌ (sym (take-append-le size text piece long)) (ap (λ n. replicate n 0) (omega (arith, long, more)))

-- a front with room: the text, and the front of a text without a byte
short : (size : ℕ) (text : List ℕ) → length text ≤ size → first_bytes size text ≡ text ++ replicate (size - length text) 0
short size text fits = ap (λ front. front ++ replicate (size - length text) 0) (take_all size text fits)

longer : (size : ℕ) (text piece : List ℕ) → length text ≤ size → first_bytes size (text ++ piece) ≡ text ++ first_bytes (size - length text) piece
longer size text piece fits =
    let more = length-append text piece in
    let whole : size ≡ length text + (size - length text) = omega (arith, fits) in
    ap₂ ◌++◌ (ap (λ n. take n (text ++ piece)) whole ∙ take-append-add text piece (size - length text)) (ap (λ n. replicate n 0) (omega (arith, fits, more)))
    ∙ append_assoc text (take (size - length text) piece) (replicate (size - length text - length piece) 0)

-- what stands there when the piece is written
written_full : (size : ℕ) (text piece : List ℕ) (len count : ℕ) → size ≤ length text → len ≡ size → count ≡ 0 → put_mid len count (first_bytes size text) (take count piece) ≡ first_bytes size (text ++ piece)
written_full size text piece len count long is none =
    ap (λ n. put_mid len n (first_bytes size text) (take n piece)) none ∙ take-append-drop len (first_bytes size text) ∙ full size text piece long

written_short : (size : ℕ) (text piece : List ℕ) (len count : ℕ) → length text ≤ size → len ≡ length text → count ≡ min (length piece) (size - length text) → put_mid len count (first_bytes size text) (take count piece) ≡ first_bytes size (text ++ piece)
written_short size text piece len count fits is few =
    let room = size - length text in
    ap (λ bytes. put_mid len count bytes (take count piece)) (short size text fits)
    ∙ ap (λ n. put_mid n count (text ++ replicate room 0) (take count piece)) is
    ∙ ap₂ (λ front rest. front ++ (take count piece ++ drop count rest)) (take_front text (replicate room 0) (length text) refl) (drop-append_seam text (replicate room 0))
    ∙ ap (λ n. text ++ (take n piece ++ drop n (replicate room 0))) few
    ∙ ap (λ rest. text ++ rest) (zeros_behind room piece)
    ∙ sym (longer size text piece fits)

-- A piece is put behind the front of a text, as much of it as there is room for.
pub put_front : (size : ℕ) (text piece bytes written : List ℕ) (len count held : ℕ) → count ≡ min (length piece) (size - len) → written ≡ take count piece → held ≡ count → IsFront size text bytes len → IsFront size (text ++ piece) (put_mid len held bytes written) (len + count)
put_front size text piece bytes written len count held few is same front = record {
  are = ap (λ b. put_mid len held b written) front.are ∙ ap (λ n. put_mid len n (first_bytes size text) written) same ∙ ap (put_mid len count (first_bytes size text)) is ∙ by (cases_lt (length text) size);
  own = let more = length-append text piece in let own = front.own in omega (arith, few, more, own);
}
  where
    own : len ≡ min (length text) size
    own = front.own

    by : (length text < size) ⊎ (size ≤ length text) → put_mid len count (first_bytes size text) (take count piece) ≡ first_bytes size (text ++ piece)
    by (inl room) = written_short size text piece len count (omega (arith, room)) (omega (arith, own, room)) (omega (arith, own, few, room))
    by (inr none) = written_full size text piece len count none (omega (arith, own, none)) (omega (arith, own, few, none))

-- before a piece is put the zeros are the front of the empty text
pub nothing_put : (size : ℕ) → IsFront size [] (replicate size 0) 0
nothing_put size = record {
  are = ap₂ (λ front n. front ++ replicate n 0) (sym (take_all size [] (omega arith))) (omega arith);
  own = omega arith;
}

-- the path to a level, and to the next one
pub path_more : (k : ℕ) (line : List ℕ) → k < 4 → path_to k line ++ (column (10 + (k + 1)) line ++ 0 ∷ []) ≡ path_to (k + 1) line
path_more k line below =
    ap (λ text. path_to k line ++ text) (sym (append-nil (column (10 + (k + 1)) line ++ 0 ∷ [])))
    ∙ sym (flat_map-append coded (path_columns k) ((10 + (k + 1)) ∷ []))
    ∙ ap (flat_map coded) (columns k below)
  where
    coded : ℕ → List ℕ
    coded n = column n line ++ 0 ∷ []

    columns : (k : ℕ) → k < 4 → path_columns k ++ ((10 + (k + 1)) ∷ []) ≡ path_columns (k + 1)
    columns zero below = refl
    columns (suc zero) below = refl
    columns (suc (suc zero)) below = refl
    columns (suc (suc (suc zero))) below = refl
    columns (suc (suc (suc (suc k)))) below = absurd (omega (arith, below))

-- a code more, where this is what a call promises of it
pub code_more : (held size : ℕ) (text code more bytes now : List ℕ) (len len_now : ℕ) → held ≡ size
    → ((text : List ℕ) → IsFront held text bytes len → IsFront held (text ++ (code ++ 0 ∷ [])) now len_now)
    → text ++ (code ++ 0 ∷ []) ≡ more → IsFront size text bytes len → IsFront size more now len_now
code_more held size text code more bytes now len len_now same promised is front =
    subst (λ t. IsFront size t now len_now) is
    (subst (λ n. IsFront n text bytes len → IsFront n (text ++ (code ++ 0 ∷ [])) now len_now) same (promised text) front)

-- the path to level 0
pub path_begun : (line : List ℕ) → column 9 line ++ 0 ∷ [] ≡ path_to 0 line
path_begun line = sym (append-nil (column 9 line ++ 0 ∷ []))
