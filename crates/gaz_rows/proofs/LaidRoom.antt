-- No fewer pages can be taken where all free pages stay free.
use Rattle.std.proofs.Common.{◌≡◌, ◌≤◌, ℕ, false, eqb, List, length, [], ◌∷◌, subst, arith, inl, inr}
use Rattle.std.specs.List.{IsDistinct, AllByRecursion}
use Rattle.std.specs.Cmp.{nat_eq_equiv}
use Rattle.std.proofs.lemmas.Bool.{eqb-true, ne_eqb}
use Rattle.std.proofs.lemmas.Map.Views.{Contains-from_any, list_any-from_Contains}
use Rattle.std.proofs.lemmas.Map.Made.{length-le_from_is_member}
use Rattle.gaz_page.specs.Pages.{PagesView}
use Rattle.gaz_page.specs.Chains.{Among, IsFreeChain}
use Rattle.gaz_page.proofs.FreeChains.{not_again}
use Rattle.gaz_tree.specs.Put.{HasChain}
use Rattle.gaz_rows.specs.Laid.{HasRoom}
use Rattle.gaz_rows.proofs.LaidForms.{among_of, contains_of}

away : (n : ℕ) (ns : List ℕ) → (Among ns n → ⊥) → AllByRecursion (λ m. eqb n m ≡ false) ns
away n [] out = tt
away n (m ∷ ms) out = (ne_eqb n m (λ is. out (inl is)), away n ms (λ more. out (inr more)))

-- no page stands twice on a chain
chain_distinct : (v : PagesView) (first : ℕ) (ns : List ℕ) → IsFreeChain v first ns → IsDistinct eqb ns
unfolding IsDistinct
chain_distinct v first [] c = tt
chain_distinct v first (n ∷ ns) c = (away n ns (not_again v n ns (subst (λ (k : ℕ). IsFreeChain v k (n ∷ ns)) c.0 c)), chain_distinct v c.2.0 ns c.2.2)

-- distinct numbers of a list are no more than it has
no_longer : (xs ys : List ℕ) → IsDistinct eqb xs → ((n : ℕ) → Among xs n → Among ys n) → length xs ≤ length ys
no_longer xs ys distinct within =
    length-le_from_is_member nat_eq_equiv xs ys distinct (λ n is. list_any-from_Contains nat_eq_equiv n ys (contains_of ys n (within n (among_of xs n (Contains-from_any eqb-true n xs is)))))

pub room_stays : (old new : PagesView) (before : HasChain old) → new.fresh ≡ old.fresh → ((after : HasChain new) (n : ℕ) → Among before.frees n → Among after.frees n) → (n : ℕ) → HasRoom n old → HasRoom n new
room_stays old new before fresh within n room after =
    let least = room before in
    let no_fewer = no_longer before.frees after.frees (chain_distinct old old.free before.frees before.chain) (within after) in
    omega (arith, least, no_fewer, fresh)
