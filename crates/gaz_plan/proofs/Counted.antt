-- How many members of a list pass a test.
use Rattle.std.proofs.Common.{◌≡◌, ◌≤◌, ◌+◌, suc, Bool, true, false, true≢false, List, [], ◌∷◌, length, map, filter, refl, sym, ◌∙◌, ap, arith}

-- what passes two tests one at a time is no more than what passes a third that both imply
pub count_both : {X : Type 0} (a b c : X → Bool) (xs : List X) → ((x : X) → a x ≡ true → c x ≡ true) → ((x : X) → b x ≡ true → c x ≡ true) → ((x : X) → a x ≡ true → b x ≡ true → ⊥)
    → length (filter a xs) + length (filter b xs) ≤ length (filter c xs)
count_both a b c [] in_a in_b apart = omega arith
count_both a b c (x ∷ xs) in_a in_b apart = by (a x) (b x) (c x) refl refl refl (count_both a b c xs in_a in_b apart)
  where
    by : (p q r : Bool) → a x ≡ p → b x ≡ q → c x ≡ r → length (filter a xs) + length (filter b xs) ≤ length (filter c xs)
        → length (filter a (x ∷ xs)) + length (filter b (x ∷ xs)) ≤ length (filter c (x ∷ xs))
    by true true r e f g le = absurd (apart x e f)
    by true false true e f g le = rw (e, f, g) (omega (arith, le))
    by true false false e f g le = absurd (true≢false (sym (in_a x e) ∙ g))
    by false true true e f g le = rw (e, f, g) (omega (arith, le))
    by false true false e f g le = absurd (true≢false (sym (in_b x f) ∙ g))
    by false false true e f g le = rw (e, f, g) (omega (arith, le))
    by false false false e f g le = rw (e, f, g) (omega (arith, le))

none_passes : {X : Type 0} (xs : List X) → length (filter (λ (x : X). false) xs) ≡ 0
none_passes [] = refl
none_passes (x ∷ xs) = none_passes xs

-- what passes a test is no more than what passes one that it implies
pub count_more : {X : Type 0} (a c : X → Bool) (xs : List X) → ((x : X) → a x ≡ true → c x ≡ true) → length (filter a xs) ≤ length (filter c xs)
count_more a c xs in_a =
    let both = count_both a (λ x. false) c xs in_a (λ x never. absurd (true≢false (sym never))) (λ x is never. true≢false (sym never)) in
    omega (arith, both, none_passes xs)

-- a test of what others are made into
pub count_made : {X Y : Type 0} (f : X → Y) (test : Y → Bool) (xs : List X) → length (filter (λ x. test (f x)) xs) ≡ length (filter test (map f xs))
count_made f test [] = refl
count_made f test (x ∷ xs) = by (test (f x)) refl (count_made f test xs)
  where
    by : (b : Bool) → test (f x) ≡ b → length (filter (λ y. test (f y)) xs) ≡ length (filter test (map f xs)) → length (filter (λ y. test (f y)) (x ∷ xs)) ≡ length (filter test (map f (x ∷ xs)))
    by true is rest = rw is (ap suc rest)
    by false is rest = rw is rest
