-- Tests that passed, and readers that find something.
use Rattle.std.proofs.Common.{◌≡◌, Bool, true, false, List, ◌∷◌, refl, ◌∙◌, ap, Option, None, Result, Ok, Err}
use Rattle.std.specs.Prelude.{is_some, IsSome, IsOk, MatchResult}
use Rattle.gaz_num.specs.Check.{first_failing}
use Rattle.gaz_num.specs.declared.words.Reason.{Reason}

-- a test that passed, and those behind it
pub passed : (reason : Reason) (b : Bool) (rest : List (Reason × Bool)) → first_failing ((reason, b) ∷ rest) ≡ None → (b ≡ true) × (first_failing rest ≡ None)
passed reason true rest is = (refl, is)
passed reason false rest is = absurd (cc)

-- a reader that is known to find something
pub some_of : {X : Type 0} → (found wanted : Option X) → found ≡ wanted → is_some wanted ≡ true → IsSome found
some_of found wanted is some = ap is_some is ∙ some

-- a reader that is known not to fail
pub ok_of : {T E : Type 0} → (read : Result T E) (P : T → Type 0) (Q : E → Type 0) → MatchResult read P Q → ((fault : E) → Q fault → ⊥) → IsOk read
ok_of (Ok text) P Q is never = refl
ok_of (Err fault) P Q is never = absurd (never fault is)
