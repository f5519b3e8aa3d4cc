-- Chains of free pages: from a page on there is one, so no page comes twice.
use Rattle.std.proofs.Common.{◌≡◌, ◌≢◌, ◌≤◌, ℕ, List, [], ◌∷◌, length, refl, sym, ap, ◌∙◌, subst, arith, inl, inr, Some}
use Rattle.gaz_page.specs.Pages.{PagesView}
use Rattle.gaz_page.specs.Free.{free_link}
use Rattle.gaz_page.specs.Chains.{Each, Among, IsFreeChain}

some_same : (a b : ℕ) → Some a ≡ Some b → a ≡ b
some_same a b same = cc

-- from a page on there is one chain
pub chain_one : (v : PagesView) (first : ℕ) (one other : List ℕ) → IsFreeChain v first one → IsFreeChain v first other → one ≡ other
chain_one v first [] [] a b = refl
chain_one v first [] (m ∷ rest) a b = absurd (omega (arith, a, b.0, b.1.0))
chain_one v first (n ∷ rest) [] a b = absurd (omega (arith, b, a.0, a.1.0))
chain_one v first (n ∷ rest) (m ∷ more) a b =
    let same : n ≡ m = sym a.0 ∙ b.0 in
    let link = a.2 in
    let other = b.2 in
    let next : link.0 ≡ other.0 = some_same link.0 other.0 (sym link.1 ∙ (λ i. free_link (same i) (v.page (same i))) ∙ other.1) in
    let shorter = chain_one v link.0 rest more link.2 (subst (λ (k : ℕ). IsFreeChain v k more) (sym next) other.2) in
    λ i. same i ∷ shorter i

pub chain_unique : (v : PagesView) (first : ℕ) (one other : List ℕ) → IsFreeChain v first one → IsFreeChain v first other → length one ≡ length other
chain_unique v first one other a b = ap (λ (l : List ℕ). length l) (chain_one v first one other a b)

-- the chain from one of its pages on
chain_from : (v : PagesView) (first : ℕ) (chain : List ℕ) (n : ℕ) → IsFreeChain v first chain → Among chain n → (tail : List ℕ) × IsFreeChain v n tail × (length tail ≤ length chain)
chain_from v first [] n a among = absurd among
chain_from v first (m ∷ rest) n a among =
    elim among [
      | inl is ↦ (m ∷ rest, subst (λ (k : ℕ). IsFreeChain v k (m ∷ rest)) (a.0 ∙ sym is) a, omega arith)
      | inr later ↦ let t = chain_from v a.2.0 rest n a.2.2 later in (t.0, t.1, omega (arith, t.2))
    ]

pub not_again : (v : PagesView) (n : ℕ) (rest : List ℕ) → IsFreeChain v n (n ∷ rest) → Among rest n → ⊥
not_again v n rest a among =
    let t = chain_from v a.2.0 rest n a.2.2 among in
    omega (arith, t.2, chain_unique v n (n ∷ rest) t.0 a t.1)

pub each_other : (n : ℕ) (list : List ℕ) → (Among list n → ⊥) → Each (λ m. m ≢ n) list
each_other n [] out = tt
each_other n (m ∷ rest) out = (λ is. out (inl (sym is)), each_other n rest (λ among. out (inr among)))

pub each_among : (P : ℕ → Type 0) (list : List ℕ) → ((n : ℕ) → Among list n → P n) → Each P list
each_among P [] f = tt
each_among P (n ∷ rest) f = (f n (inl refl), each_among P rest (λ m among. f m (inr among)))

-- free pages are free still where they stay
pub free_still : (old new : PagesView) (first : ℕ) (free : List ℕ) → old.fresh ≤ new.fresh → IsFreeChain old first free → Each (λ n. new.page n ≡ old.page n) free → IsFreeChain new first free
free_still old new first [] grows chain each = chain
free_still old new first (n ∷ rest) grows chain each =
    let link = chain.2 in (
      chain.0,
      (chain.1.0, omega (arith, chain.1.1, grows)),
      (link.0, ap (λ (p : List ℕ). free_link n p) each.0 ∙ link.1, free_still old new link.0 rest grows link.2 each.1),
    )

-- a page of the chain has a link
pub free_in : (v : PagesView) (first : ℕ) (free : List ℕ) (n : ℕ) → IsFreeChain v first free → Among free n → (link : ℕ) × (free_link n (v.page n) ≡ Some link)
free_in v first [] n a among = absurd among
free_in v first (m ∷ rest) n a among =
    elim among [
      | inl is ↦ (a.2.0, subst (λ (k : ℕ). free_link k (v.page k) ≡ Some a.2.0) (sym is) a.2.1)
      | inr later ↦ free_in v a.2.0 rest n a.2.2 later
    ]
