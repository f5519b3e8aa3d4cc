-- Answers of which more is known.
use Rattle.std.proofs.Common.{◌≡◌, ℕ, List, subst, Result, Ok, Err}
use Rattle.std.specs.Prelude.{IfOk, IfErr}
use Rattle.gaz_leaf.specs.Node.{Pair, key_of}
use Rattle.gaz_scan.specs.Ranges.{between}
use Rattle.gaz_scan.specs.declared.scan.Scan.{Scan}
use Rattle.gaz_scan.specs.Scan.{Comes}

pub if_ok : {T E : Type 0} (P Q : T → Type 0) (result : Result T E) → ((given : T) → P given → Q given) → IfOk result P → IfOk result Q
if_ok P Q (Ok given) to is = to given is
if_ok P Q (Err fault) to is = is

pub if_err : {T E : Type 0} (P Q : E → Type 0) (result : Result T E) → ((fault : E) → P fault → Q fault) → IfErr result P → IfErr result Q
if_err P Q (Ok given) to is = is
if_err P Q (Err fault) to is = to fault is

-- what comes between keys that were made
pub comes_between : (pages : ℕ → List ℕ) (scan : Scan) (pairs : List Pair) (low high l h : List ℕ) → low ≡ l → high ≡ h → Comes pages scan (between (key_of low) (key_of high) pairs) → Comes pages scan (between (key_of l) (key_of h) pairs)
comes_between pages scan pairs low high l h low_is high_is comes =
    subst (λ k. Comes pages scan (between (key_of l) (key_of k) pairs)) high_is (subst (λ k. Comes pages scan (between (key_of k) (key_of high) pairs)) low_is comes)

pub both_ok : {T E : Type 0} (P Q : T → Type 0) (result : Result T E) → IfOk result P → IfOk result Q → IfOk result (λ given. P given × Q given)
both_ok P Q (Ok given) one two = (one, two)
both_ok P Q (Err fault) one two = one
