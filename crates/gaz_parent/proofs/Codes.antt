-- Tests of the admin codes up to a level.
use Rattle.std.proofs.Common.{◌≡◌, ℕ, zero, suc, ◌+◌, ◌-◌, ◌≤◌, Bool, true, false, ◌&&◌, [], ◌∷◌, List, refl, sym, ap, arith, ◌∙◌}
use Rattle.std.specs.List.{list_all}
use Rattle.std.proofs.lemmas.List.Folds.{list_all-append}
use Rattle.gaz_parent.specs.Parent.{code_columns}

and_true : (test : Bool) → (test && true) ≡ test
and_true true = refl
and_true false = refl

one_more : (test : ℕ → Bool) (before : List ℕ) (last : ℕ) → (list_all test before && list_all test (last ∷ [])) ≡ (list_all test before && test last)
one_more test before last = ap (λ passes. list_all test before && passes) (and_true (test last))

-- that of the last one stands behind those of the ones before
pub last_code : (test : ℕ → Bool) (level : ℕ) → 1 ≤ level → level ≤ 4 → list_all test (code_columns level) ≡ (list_all test (code_columns (level - 1)) && test (10 + level))
last_code test zero low high = absurd (omega (arith, low))
last_code test (suc zero) low high = list_all-append test [] (11 ∷ []) ∙ one_more test [] 11
last_code test (suc (suc zero)) low high = list_all-append test (11 ∷ []) (12 ∷ []) ∙ one_more test (11 ∷ []) 12
last_code test (suc (suc (suc zero))) low high = list_all-append test (11 ∷ 12 ∷ []) (13 ∷ []) ∙ one_more test (11 ∷ 12 ∷ []) 13
last_code test (suc (suc (suc (suc zero)))) low high = list_all-append test (11 ∷ 12 ∷ 13 ∷ []) (14 ∷ []) ∙ one_more test (11 ∷ 12 ∷ 13 ∷ []) 14
last_code test (suc (suc (suc (suc (suc level))))) low high = absurd (omega (arith, high))

-- so it decides where the ones before pass
pub last_decides : (test : ℕ → Bool) (level : ℕ) → 1 ≤ level → level ≤ 4 → list_all test (code_columns (level - 1)) ≡ true → test (10 + level) ≡ list_all test (code_columns level)
last_decides test level low high before = sym (last_code test level low high ∙ ap (λ passes. passes && test (10 + level)) before)
