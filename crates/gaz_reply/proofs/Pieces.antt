-- Pieces that are printed one behind the other.
use Rattle.std.proofs.Common.{◌≡◌, ℕ, List, [], ◌++◌, append-nil, refl, ap, ◌∙◌, sym, subst, append_assoc, Option, Some, None}
use Rattle.std.specs.Prelude.{Result, Ok, Err}
use Rattle.std.specs.Io.KnownBytes.{append_known}
use Rattle.gaz_outside.specs.Outside.{StationView, Prints, PrintsFront, printed_of}

-- text after text after what is known
pub append_two : (known : Option (List ℕ)) (xs ys : List ℕ) → append_known (append_known known xs) ys ≡ append_known known (xs ++ ys)
append_two None xs ys = refl
append_two (Some zs) xs ys = ap Some (append_assoc zs xs ys)

-- nothing more behind what is known
pub append_none : (known : Option (List ℕ)) → known ≡ append_known known []
append_none None = refl
append_none (Some xs) = ap Some (sym (append-nil xs))

-- the second piece after a first that was printed whole
pub both : {T E : Type 0} (first second : List ℕ) (old mid new : StationView) (result : Result T E) → printed_of mid ≡ append_known (printed_of old) first → Prints second mid new result → Prints (first ++ second) old new result
both first second old mid new (Ok x) e p = p ∙ ap (λ o. append_known o second) e ∙ append_two (printed_of old) first second
both first second old mid new (Err x) e p =
    let front = p.0 in
    (first ++ front, (p.1.0, ap (λ xs. first ++ xs) p.1.1 ∙ sym (append_assoc first front p.1.0)), p.2 ∙ ap (λ o. append_known o front) e ∙ append_two (printed_of old) first front)

-- a front of the first piece is one of both
pub front : (first second : List ℕ) (old new : StationView) → PrintsFront first old new → PrintsFront (first ++ second) old new
front first second old new p = (p.0, (p.1.0 ++ second, ap (λ xs. xs ++ second) p.1.1 ∙ append_assoc p.0 p.1.0 second), p.2)

-- the same text in another form
pub same_print : {T E : Type 0} (text same : List ℕ) (old new : StationView) (result : Result T E) → text ≡ same → Prints text old new result → Prints same old new result
same_print text same old new result e p = subst (λ xs. Prints xs old new result) e p
