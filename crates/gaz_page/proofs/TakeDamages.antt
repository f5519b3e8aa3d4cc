-- Damage that a take meets over a chain of free pages in order: none but that pages are used up.
use Rattle.std.proofs.Common.{◌≡◌, ℕ, false, List, [], ◌∷◌, refl, sym, ap, ◌∙◌, arith, Some, None}
use Rattle.std.specs.Prelude.{Bool, Option, ◌==◌, if◌then◌else◌}
use Rattle.std.specs.Option.{is_none}
use Rattle.std.proofs.lemmas.Bool.{eq-eqb, ne_eqb, eqb-true}
use Rattle.std.proofs.lemmas.Option.{cond_some}
use Rattle.gaz_num.specs.Numbers.{some_if}
use Rattle.gaz_page.specs.Free.{free_link}
use Rattle.gaz_page.specs.Pages.{PagesView, damage}
use Rattle.gaz_page.specs.Chains.{IsFreeChain}

-- what is so where a take meets damage
pub record NoneLeft (v : PagesView) (free : List ℕ) (page : ℕ) : Type 0 where
  pub none_free : free ≡ []
  pub named : page ≡ 0
  pub last : v.fresh ≡ 4294967295

pub take_damage : (v : PagesView) (free : List ℕ) (page : ℕ) → IsFreeChain v v.free free → damage v ≡ Some page → NoneLeft v free page
unfolding damage
take_damage v [] page chain is =
    let test = eq-eqb v.free 0 chain in
    let used : some_if (v.fresh == 4294967295) 0 ≡ Some page =
    sym (ap (λ (b : Bool). if b then some_if (v.fresh == 4294967295) 0 else some_if (is_none (free_link v.free (v.page v.free))) v.free) test) ∙ is in
    let both = cond_some (v.fresh == 4294967295) 0 page used in
    record { none_free = refl; named = sym both.1; last = eqb-true v.fresh 4294967295 both.0 }
take_damage v (n ∷ rest) page chain is =
    let test = ne_eqb v.free 0 (λ zero_. omega (arith, zero_, chain.0, chain.1.0)) in
    let link : free_link v.free (v.page v.free) ≡ Some chain.2.0 = (λ i. free_link (chain.0 i) (v.page (chain.0 i))) ∙ chain.2.1 in
    let found : is_none (free_link v.free (v.page v.free)) ≡ false = ap (λ (o : Option ℕ). is_none o) link in
    let none_ : None ≡ Some page =
    sym (ap (λ (b : Bool). some_if b v.free) found) ∙ sym (ap (λ (b : Bool). if b then some_if (v.fresh == 4294967295) 0 else some_if (is_none (free_link v.free (v.page v.free))) v.free) test) ∙ is in
    absurd cc
