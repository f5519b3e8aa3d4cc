-- What is found in a list by a test.
use Rattle.std.proofs.Common.{◌≡◌, ◌≤◌, suc, arith, subst, length, map, filter, List, [], ◌∷◌, refl, sym, ◌∙◌, ap, inl, inr, true, false, Bool, Some, None}
use Rattle.std.specs.Prelude.{◌⊎◌, Contains, find}
use Rattle.gaz_keys.proofs.Tags.{contained, contained_none}
use Rattle.gaz_rows.proofs.Members.{head_is_in, tail_is_in}

module _ {X : Type 0} (p : X → Bool) where
  -- nothing is found where none passes
  pub found_none : (xs : List X) → ((y : X) → Contains xs y → p y ≡ false) → find p xs ≡ None
  found_none [] none = refl
  found_none (x ∷ xs) none = rw (none x (head_is_in x xs)) (found_none xs (λ y has. none y (tail_is_in x xs y has)))

  behind : (z : X) (zs : List X) (x : X) → p z ≡ false → p x ≡ true → Contains (z ∷ zs) x → Contains zs x
  behind z zs x fails passes has = elim (contained z zs x has) [
    | inl is ↦ absurd (false_is_true (sym fails ∙ ap p is ∙ passes))
    | inr later ↦ later
  ]
    where
      false_is_true : false ≡ true → ⊥
      false_is_true is = cc

  -- the only one that passes is found
  pub found_one : (xs : List X) (x : X) → Contains xs x → p x ≡ true → ((y : X) → Contains xs y → p y ≡ true → y ≡ x) → find p xs ≡ Some x
  found_one [] x has passes only = absurd (contained_none x has)
  found_one (z ∷ zs) x has passes only = by (p z) refl (λ has. found_one zs x has passes (λ y there. only y (tail_is_in z zs y there)))
    where
      by : (b : Bool) → p z ≡ b → (Contains zs x → find p zs ≡ Some x) → find p (z ∷ zs) ≡ Some x
      by true is rest = rw is (ap Some (only z (head_is_in z zs) is))
      by false is rest = rw is (rest (behind z zs x is passes has))

  -- one passes, or none does
  one_or_none : (xs : List X) → ((x : X) × Contains xs x × (p x ≡ true)) ⊎ ((x : X) → Contains xs x → p x ≡ false)
  one_or_none [] = inr (λ x has. absurd (contained_none x has))
  one_or_none (z ∷ zs) = by (p z) refl (one_or_none zs)
    where
      by : (b : Bool) → p z ≡ b → ((x : X) × Contains zs x × (p x ≡ true)) ⊎ ((x : X) → Contains zs x → p x ≡ false) → ((x : X) × Contains (z ∷ zs) x × (p x ≡ true)) ⊎ ((x : X) → Contains (z ∷ zs) x → p x ≡ false)
      by true is rest = inl (z, head_is_in z zs, is)
      by false is (inl one) = inl (one.0, tail_is_in z zs one.0 one.1, one.2)
      by false is (inr none) = inr (λ x has. elim (contained z zs x has) [
        | inl same ↦ ap p (sym same) ∙ is
        | inr later ↦ none x later
      ])

  -- Of a list and a part of it that has all that pass, the same is found, where only one passes.
  pub same_found : (xs ys : List X) → ((y : X) → Contains ys y → Contains xs y) → ((x : X) → Contains xs x → p x ≡ true → Contains ys x) → ((x y : X) → Contains xs x → Contains xs y → p x ≡ true → p y ≡ true → x ≡ y) → find p ys ≡ find p xs
  same_found xs ys part all only = elim (one_or_none ys) [
    | inl one ↦
        found_one ys one.0 one.1 one.2 (λ z there also. only z one.0 (part z there) (part one.0 one.1) also one.2)
        ∙ sym (found_one xs one.0 (part one.0 one.1) one.2 (λ z there also. only z one.0 there (part one.0 one.1) also one.2))
    | inr none ↦ found_none ys none ∙ sym (found_none xs (λ x there. by x there (p x) refl none))
  ]
    where
      never : false ≡ true → ⊥
      never is = cc

      by : (x : X) → Contains xs x → (b : Bool) → p x ≡ b → ((y : X) → Contains ys y → p y ≡ false) → p x ≡ false
      by x there true is none = absurd (never (sym (none x (all x there is)) ∙ is))
      by x there false is none = is

  -- what passes is in the filtered list
  pub kept_in : (xs : List X) (x : X) → Contains xs x → p x ≡ true → Contains (filter p xs) x
  kept_in [] x has is = absurd (contained_none x has)
  kept_in (z ∷ zs) x has is = by (p z) refl (contained z zs x has) (λ later. kept_in zs x later is)
    where
      never : false ≡ true → ⊥
      never is = cc

      by : (b : Bool) → p z ≡ b → (z ≡ x) ⊎ Contains zs x → (Contains zs x → Contains (filter p zs) x) → Contains (filter p (z ∷ zs)) x
      by true kept (inl same) rest = rw kept (subst (Contains (z ∷ filter p zs)) same (head_is_in z (filter p zs)))
      by true kept (inr later) rest = rw kept (tail_is_in z (filter p zs) x (rest later))
      by false left (inl same) rest = absurd (never (sym left ∙ ap p same ∙ is))
      by false left (inr later) rest = rw left (rest later)

module _ {X Y : Type 0} (f : X → Y) where
  -- what is in a mapped list comes from one of the list
  pub mapped_from : (xs : List X) (y : Y) → Contains (map f xs) y → (x : X) × Contains xs x × (f x ≡ y)
  mapped_from [] y has = absurd (contained_none y has)
  mapped_from (x ∷ xs) y has = elim (contained (f x) (map f xs) y has) [
    | inl is ↦ (x, head_is_in x xs, is)
    | inr later ↦ let more = mapped_from xs y later in (more.0, tail_is_in x xs more.0 more.1, more.2)
  ]

  pub mapped_in : (xs : List X) (x : X) → Contains xs x → Contains (map f xs) (f x)
  mapped_in [] x has = absurd (contained_none x has)
  mapped_in (z ∷ zs) x has = elim (contained z zs x has) [
    | inl is ↦ subst (λ y. Contains (map f (z ∷ zs)) (f y)) is (head_is_in (f z) (map f zs))
    | inr later ↦ tail_is_in (f z) (map f zs) (f x) (mapped_in zs x later)
  ]

module _ {X : Type 0} where
  -- no element comes again
  abbrev pub IsApart : List X → Type 0
  IsApart [] = Unit {0}
  IsApart (x ∷ xs) = (Contains xs x → ⊥) × IsApart xs

  -- the list without an element
  record IsWithout (xs : List X) (x : X) : Type 0 where
    rest : List X
    long : length xs ≡ suc (length rest)
    keeps : (y : X) → Contains xs y → (x ≡ y → ⊥) → Contains rest y

  taken_out : (xs : List X) (x : X) → Contains xs x → IsWithout xs x
  taken_out [] x has = absurd (contained_none x has)
  taken_out (z ∷ zs) x has = elim (contained z zs x has) [
    | inl is ↦ record { rest = zs; long = refl; keeps = λ y there other. elim (contained z zs y there) [ inl same ↦ absurd (other (sym is ∙ same)) | inr later ↦ later ] }
    | inr later ↦
        let more = taken_out zs x later in
        record { rest = z ∷ more.rest; long = ap suc more.long; keeps = λ y there other. elim (contained z zs y there) [ inl same ↦ subst (Contains (z ∷ more.rest)) same (head_is_in z more.rest) | inr behind_it ↦ tail_is_in z more.rest y (more.keeps y behind_it other) ] }
  ]

  -- a list whose elements are apart is no longer than one that has them all
  pub no_longer : (xs ys : List X) → IsApart xs → ((x : X) → Contains xs x → Contains ys x) → length xs ≤ length ys
  no_longer [] ys apart part = omega arith
  no_longer (x ∷ xs) ys apart part =
      let less = taken_out ys x (part x (head_is_in x xs)) in
      let rest = no_longer xs less.rest apart.1 (λ y has. less.keeps y (part y (tail_is_in x xs y has)) (λ same. apart.0 (subst (Contains xs) (sym same) has))) in
      let long = less.long in
      omega (arith, rest, long)
