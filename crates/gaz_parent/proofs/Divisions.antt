-- The divisions of the levels from one downwards.
use Rattle.std.proofs.Common.{◌≡◌, ℕ, zero, suc, ◌+◌, ◌-◌, ◌<◌, ◌≤◌, List, [], ◌∷◌, arith, refl, ap, subst, sym, ◌∙◌, Option, None}
use Rattle.std.specs.Prelude.{map, Result, Ok, Err, IfOk}
use Rattle.gaz_parent.specs.Parent.{Lists, downwards, division, division_above, first_some}
use Rattle.gaz_parent.specs.Questions.{Question, by_division, divisions, ReadsNoMore}
use Rattle.gaz_parent.proofs.Reading.{one_read, front_read, both_read}

-- the first of them, and those below
pub step_down : (level : ℕ) → 0 < level → downwards level ≡ level ∷ downwards (level - 1)
step_down zero above = absurd (omega (arith, above))
step_down (suc level) above = let e : suc level - 1 ≡ level = omega arith in rw e refl

pub none_here : (lists : Lists) (level : ℕ) (row : List ℕ) → 0 < level → None ≡ division lists level row → division_above lists level row ≡ division_above lists (level - 1) row
none_here lists level row above none =
    ap (λ levels. first_some (map (λ k. division lists k row) levels)) (step_down level above)
    ∙ ap (λ (found : Option ℕ). first_some (found ∷ map (λ k. division lists k row) (downwards (level - 1)))) (sym none)

-- what the first of them reads
pub first_read : (bounded : Question → ℕ → Type 0) (level : ℕ) (row : List ℕ) (before now : ℕ) → 0 < level → ((most : ℕ) → bounded (by_division level row) most → now ≤ before + most) → ReadsNoMore bounded (divisions level row) before now
first_read bounded level row before now above reads =
    subst (λ (levels : List ℕ). ReadsNoMore bounded (map (λ k. by_division k row) levels) before now) (sym (step_down level above))
    (front_read bounded (by_division level row ∷ []) (divisions (level - 1) row) before now (one_read bounded (by_division level row) before now reads))

-- and all of them
pub all_read : (bounded later : Question → ℕ → Type 0) (level : ℕ) (row : List ℕ) (before between now : ℕ) → 0 < level → ((question : Question) (most : ℕ) → bounded question most → later question most) → ((most : ℕ) → bounded (by_division level row) most → between ≤ before + most) → ReadsNoMore later (divisions (level - 1) row) between now → ReadsNoMore bounded (divisions level row) before now
all_read bounded later level row before between now above still reads then =
    subst (λ (levels : List ℕ). ReadsNoMore bounded (map (λ k. by_division k row) levels) before now) (sym (step_down level above))
    (both_read bounded later (by_division level row ∷ []) (divisions (level - 1) row) before between now still (one_read bounded (by_division level row) before between reads) then)

-- what holds of an answer in other words
pub in_other_words : {F : Type 0} (P Q : Option ℕ → Type 0) (result : Result (Option ℕ) F) → ((found : Option ℕ) → P found → Q found) → IfOk result P → IfOk result Q
in_other_words P Q (Ok found) same holds = same found holds
in_other_words P Q (Err fault) same holds = holds
