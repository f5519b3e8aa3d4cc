-- The first pairs of the lines so far that pass a test.
use Rattle.std.proofs.Common.{◌≡◌, ℕ, zero, suc, Bool, true, false, List, [], ◌∷◌, ◌++◌, take, map, filter, refl, sym, ap, ◌∙◌}
use Rattle.std.proofs.lemmas.List.{append-nil, map-append}
use Rattle.std.proofs.lemmas.List.Elements.{filter-append}
use Rattle.gaz_pick.specs.Order.{Pair, with_pair, in_order}
use Rattle.gaz_pick.specs.Laws.{FirstOfNext}
use Rattle.gaz_pick.specs.Match.{pair_of}

pub none_yet : (keep : ℕ) → [] ≡ take {A = Pair} keep []
none_yet zero = refl
none_yet (suc keep) = refl

module _ {A : Type 0} (line_of : A → List ℕ) (test : List ℕ → Bool) where
  abbrev picked : List A → List Pair
  picked lines = map pair_of (filter test (map line_of lines))

  module _ (lines : List A) (line : A) where
    parted : picked (lines ++ line ∷ []) ≡ picked lines ++ map pair_of (filter test (line_of line ∷ []))
    parted =
        ap (λ ls. map pair_of (filter test ls)) (map-append line_of lines (line ∷ []))
        ∙ ap (map pair_of) (filter-append test (map line_of lines) (line_of line ∷ []))
        ∙ map-append pair_of (filter test (map line_of lines)) (filter test (line_of line ∷ []))

    module _ (keep : ℕ) (old : List Pair) (so_far : old ≡ take keep (in_order (picked lines))) where
      -- a line that passes was offered
      pub offered : FirstOfNext → test (line_of line) ≡ true → (pair : Pair) → pair ≡ pair_of (line_of line) → (new : List Pair) → new ≡ take keep (with_pair pair old) → new ≡ take keep (in_order (picked (lines ++ line ∷ [])))
      offered next passes pair is new held =
          let more : picked (lines ++ line ∷ []) ≡ picked lines ++ pair_of (line_of line) ∷ [] = parted ∙ rw passes refl in
          held
          ∙ ap (λ p. take keep (with_pair p old)) is
          ∙ ap (λ pairs. take keep (with_pair (pair_of (line_of line)) pairs)) so_far
          ∙ next keep (pair_of (line_of line)) (picked lines)
          ∙ ap (λ pairs. take keep (in_order pairs)) (sym more)

      -- another one wasn't
      pub passed_by : test (line_of line) ≡ false → old ≡ take keep (in_order (picked (lines ++ line ∷ [])))
      passed_by fails =
          let same : picked (lines ++ line ∷ []) ≡ picked lines = parted ∙ rw fails (append-nil (picked lines)) in
          so_far ∙ ap (λ pairs. take keep (in_order pairs)) (sym same)
