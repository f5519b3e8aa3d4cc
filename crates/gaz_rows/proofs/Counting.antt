-- How long lists are, by what they contain.
use Rattle.std.proofs.Common.{◌≡◌, ◌<◌, ◌≤◌, ◌*◌, ℕ, suc, Bool, true, false, cond, eqb, List, [], ◌∷◌, length, map, filter, refl, sym, ◌∙◌, ap, arith, subst, inl, inr, length-append}
use Rattle.std.specs.Prelude.{Contains}
use Rattle.std.specs.List.{list_any, flat_map, IsDistinct, AllByRecursion}
use Rattle.std.specs.Cmp.{nat_eq_equiv}
use Rattle.std.proofs.lemmas.Bool.{eqb-true, ne_eqb}
use Rattle.std.proofs.lemmas.List.Elements.{Contains-append_left, Contains-append_right}
use Rattle.std.proofs.lemmas.Map.Steps.{le-length_from_below}
use Rattle.std.proofs.lemmas.Map.Views.{Contains-from_any, list_any-from_Contains}
use Rattle.std.proofs.lemmas.Map.Made.{length-le_from_is_member}
use Rattle.std.proofs.lemmas.List.{length-map}
use Rattle.gaz_leaf.specs.Node.{Pair}
use Rattle.gaz_tree.specs.Pairs.{Within}
use Rattle.gaz_tree.proofs.Lists.{Within-lower}
use Rattle.gaz_keys.proofs.Tags.{contained, contained_none}
use Rattle.gaz_rows.proofs.Members.{head_is_in, tail_is_in}

-- a list that contains all numbers below one is at least as long as that number
pub as_long : (most : ℕ) (ns : List ℕ) → ((n : ℕ) → n < most → Contains ns n) → most ≤ length ns
as_long most ns each = le-length_from_below ns most (λ n below. list_any-from_Contains nat_eq_equiv n ns (each n below))

-- ---- lists made of others

pub map_contains : {X Y : Type 0} (f : X → Y) (xs : List X) (x : X) → Contains xs x → Contains (map f xs) (f x)
map_contains f [] x has = absurd (contained_none x has)
map_contains f (y ∷ ys) x has = elim (contained y ys x has) [
  | inl is ↦ subst (λ z. Contains (f y ∷ map f ys) (f z)) is (head_is_in (f y) (map f ys))
  | inr behind ↦ tail_is_in (f y) (map f ys) (f x) (map_contains f ys x behind)
]

pub map_from : {X Y : Type 0} (f : X → Y) (xs : List X) (y : Y) → Contains (map f xs) y → (x : X) × Contains xs x × (f x ≡ y)
map_from f [] y has = absurd (contained_none y has)
map_from f (x ∷ xs) y has = elim (contained (f x) (map f xs) y has) [
  | inl is ↦ (x, head_is_in x xs, is)
  | inr behind ↦ let rest = map_from f xs y behind in (rest.0, tail_is_in x xs rest.0 rest.1, rest.2)
]

pub flat_contains : {X Y : Type 0} (f : X → List Y) (xs : List X) (x : X) (y : Y) → Contains xs x → Contains (f x) y → Contains (flat_map f xs) y
flat_contains f [] x y has among = absurd (contained_none x has)
flat_contains f (z ∷ zs) x y has among = elim (contained z zs x has) [
  | inl is ↦ Contains-append_left (f z) (flat_map f zs) y (subst (λ w. Contains (f w) y) (sym is) among)
  | inr behind ↦ Contains-append_right (f z) (flat_map f zs) y (flat_contains f zs x y behind among)
]

-- pieces of at most so many, put together
pub flat_most : {X Y : Type 0} (most : ℕ) (f : X → List Y) (xs : List X) → ((x : X) → length (f x) ≤ most) → length (flat_map f xs) ≤ most * length xs
flat_most most f [] each = omega arith
flat_most most f (x ∷ xs) each = omega (arith, each x, flat_most most f xs each, length-append (f x) (flat_map f xs))

-- ---- pairs whose keys rise

abbrev keys_in : List Pair → List ℕ
keys_in ps = map (λ p. p.key) ps

-- the keys behind are others
others : (key low high : ℕ) (ps : List Pair) → key < low → Within low high ps → AllByRecursion (λ n. eqb key n ≡ false) (keys_in ps)
others key low high [] less rising = tt
others key low high (p ∷ ps) less rising =
    let at = rising.0 in
    (ne_eqb key p.key (omega (arith, less, at)), others key (suc p.key) high ps (omega (arith, less, at)) rising.1)

distinct : (low high : ℕ) (ps : List Pair) → Within low high ps → IsDistinct eqb (keys_in ps)
unfolding IsDistinct
distinct low high [] rising = tt
distinct low high (p ∷ ps) rising = (others p.key (suc p.key) high ps (omega arith) rising.1, distinct (suc p.key) high ps rising.1)

-- pairs whose keys rise are no more than a list that contains all their keys
pub few_pairs : (low high : ℕ) (ps : List Pair) (ns : List ℕ) → Within low high ps → ((p : Pair) → Contains ps p → Contains ns p.key) → length ps ≤ length ns
few_pairs low high ps ns rising each =
    omega (arith, length-map ps (λ p. p.key), length-le_from_is_member nat_eq_equiv (keys_in ps) ns (distinct low high ps rising) within)
  where
    within : (n : ℕ) → list_any (eqb n) (keys_in ps) ≡ true → list_any (eqb n) ns ≡ true
    within n is =
        let from = map_from (λ p. p.key) ps n (Contains-from_any eqb-true n (keys_in ps) is) in
        list_any-from_Contains nat_eq_equiv n ns (subst (Contains ns) from.2 (each from.0 from.1))

-- some of the pairs rise as well
pub some_rise : (test : Pair → Bool) (low high : ℕ) (ps : List Pair) → Within low high ps → Within low high (filter test ps)
some_rise test low high [] rising = rising
some_rise test low high (p ∷ ps) rising = by (test p) (some_rise test (suc p.key) high ps rising.1)
  where
    by : (b : Bool) → Within (suc p.key) high (filter test ps) → Within low high (cond b (p ∷ filter test ps) (filter test ps))
    by true rest = (rising.0, rest)
    by false rest = let at = rising.0 in Within-lower (suc p.key) low high (filter test ps) (omega (arith, at)) rest

-- what is kept was there, and passed
pub passed : {X : Type 0} (test : X → Bool) (xs : List X) (x : X) → Contains (filter test xs) x → Contains xs x × (test x ≡ true)
passed test [] x has = absurd (contained_none x has)
passed test (y ∷ ys) x has = by (test y) refl has (passed test ys x)
  where
    by : (b : Bool) → test y ≡ b → Contains (cond b (y ∷ filter test ys) (filter test ys)) x → (Contains (filter test ys) x → Contains ys x × (test x ≡ true))
        → Contains (y ∷ ys) x × (test x ≡ true)
    by true is has behind = elim (contained y (filter test ys) x has) [
      | inl same ↦ (subst (Contains (y ∷ ys)) same (head_is_in y ys), ap test (sym same) ∙ is)
      | inr later ↦ let rest = behind later in (tail_is_in y ys x rest.0, rest.1)
    ]
    by false is has behind = let rest = behind has in (tail_is_in y ys x rest.0, rest.1)
