-- Pieces of a text that are printed one behind the other.
use Rattle.std.proofs.Common.{◌≡◌, ℕ, List, [], ◌++◌, append-nil, refl, ap, ◌∙◌, sym, append_assoc, Option, Some, None}
use Rattle.std.specs.Prelude.{Result, Ok, Err, IsErr}
use Rattle.std.specs.Io.KnownBytes.{append_known}
use Rattle.gaz_outside.specs.Outside.{StationView, IsPrefix, Prints, PrintsFront, printed_of}

-- text after text after what is known
append_two : (known : Option (List ℕ)) (xs ys : List ℕ) → append_known (append_known known xs) ys ≡ append_known known (xs ++ ys)
append_two None xs ys = refl
append_two (Some zs) xs ys = ap Some (append_assoc zs xs ys)

-- nothing more behind what is known
pub append_none : (known : Option (List ℕ)) → known ≡ append_known known []
append_none None = refl
append_none (Some xs) = ap Some (sym (append-nil xs))

-- one piece more of a text
pub piece_more : (front piece text : List ℕ) (old mid new : StationView) → front ++ piece ≡ text → printed_of mid ≡ append_known (printed_of old) front → printed_of new ≡ append_known (printed_of mid) piece → printed_of new ≡ append_known (printed_of old) text
piece_more front piece text old mid new whole before now =
    now ∙ ap (λ (o : Option (List ℕ)). append_known o piece) before ∙ append_two (printed_of old) front piece ∙ ap (append_known (printed_of old)) whole

-- a front of one piece more is one of the text
pub front_more : (front piece text : List ℕ) (old mid new : StationView) → IsPrefix (front ++ piece) text → printed_of mid ≡ append_known (printed_of old) front → PrintsFront piece mid new → PrintsFront text old new
front_more front piece text old mid new whole before cut =
    let part = cut.0 in (
      front ++ part,
      (
        cut.1.0 ++ whole.0,
        whole.1 ∙ ap (λ (xs : List ℕ). (front ++ xs) ++ whole.0) cut.1.1 ∙ regroup front part cut.1.0 whole.0,
      ),
      cut.2 ∙ ap (λ (o : Option (List ℕ)). append_known o part) before ∙ append_two (printed_of old) front part,
    )
  where
    regroup : (a b c d : List ℕ) → (a ++ (b ++ c)) ++ d ≡ (a ++ b) ++ (c ++ d)
    regroup a b c d = simp (append_assoc) refl

-- a print that failed
pub print_failed : {T E : Type 0} (text : List ℕ) (old new : StationView) (result : Result T E) → IsErr result → PrintsFront text old new → Prints text old new result
print_failed text old new (Ok x) is front = absurd (cc)
print_failed text old new (Err e) is front = front
