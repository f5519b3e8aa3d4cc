-- Tests as they compute, and what lists have of them.
use Rattle.std.proofs.Common.{◌≡◌, inl, inr, Bool, true, false, true≢false, List, [], ◌∷◌, refl, sym, ap, ◌∙◌}
use Rattle.std.specs.Prelude.{Contains, ◌||◌}
use Rattle.std.specs.List.{list_any}
use Rattle.std.proofs.lemmas.Bool.{or_left, or_right}
use Rattle.gaz_pick.proofs.OrderLemmas.{by_test}
use Rattle.gaz_keys.proofs.Tags.{contained, contained_none}
use Rattle.gaz_rows.proofs.Members.{head_is_in, tail_is_in}

pub either : (a b : Bool) (P : Type 0) → (a || b) ≡ true → (a ≡ true → P) → (b ≡ true → P) → P
either a b P some one two = by_test a one (λ isnt. two (rw isnt at some))

pub both_ways : (a b : Bool) → (a ≡ true → b ≡ true) → (b ≡ true → a ≡ true) → a ≡ b
both_ways true b there back = sym (there refl)
both_ways false true there back = back refl
both_ways false false there back = refl

-- some member passes
pub any_has : {X : Type 0} (test : X → Bool) (xs : List X) → list_any test xs ≡ true → (x : X) × Contains xs x × (test x ≡ true)
any_has test [] some = absurd (true≢false (sym some))
any_has test (x ∷ xs) some =
    by_test (test x)
    (λ is. (x, head_is_in x xs, is))
    (λ isnt. let rest = any_has test xs (rw isnt at some) in (rest.0, tail_is_in x xs rest.0 rest.1, rest.2))

pub has_any : {X : Type 0} (test : X → Bool) (xs : List X) (x : X) → Contains xs x → test x ≡ true → list_any test xs ≡ true
has_any test [] x has is = absurd (contained_none x has)
has_any test (y ∷ ys) x has is = elim (contained y ys x has) [
  | inl same ↦ or_left (test y) _ (ap test same ∙ is)
  | inr later ↦ or_right (test y) _ (has_any test ys x later is)
]
