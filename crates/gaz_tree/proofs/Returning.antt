-- Pages that are written and given back: what becomes of the pages of a tree and the free ones together.
use Rattle.std.proofs.Common.{◌≡◌, ◌≢◌, ◌⊎◌, ℕ, List, sym, ◌∙◌, arith, subst, inl, inr}
use Rattle.std.proofs.lemmas.Bool.{cases_eq}
use Rattle.gaz_page.specs.Pages.{PagesView, SamePages, Gives, with_page}
use Rattle.gaz_leaf.specs.declared.kind.Kind.{Kind}
use Rattle.gaz_leaf.specs.Node.{IsForm}
use Rattle.gaz_tree.specs.Put.{IsTaken, HasChain, Trades}
use Rattle.gaz_tree.specs.Remove.{Returns}
use Rattle.gaz_tree.proofs.Chains.{chain_given}
use Rattle.gaz_tree.proofs.Trading.{in_chain, trade_written, trade_same}

-- a trade that takes nothing
of_trade : (A B : ℕ → Type 0) (a b : PagesView) → Trades A B a b → b.fresh ≡ a.fresh → ((n : ℕ) → B n → A n) → Returns A B a b
of_trade A B a b t fresh less = record {
  used = λ n which. elim (t.used n which) [ inl x ↦ x | inr late ↦ absurd (omega (arith, late.0, late.1, fresh)) ];
  all = λ n which. t.all n (inl which);
  stays = λ n out. t.stays n (λ x. out (less n x));
}

pub return_same : (S : ℕ → Type 0) (a b : PagesView) → SamePages a b → Returns S S a b
return_same S a b same = of_trade S S a b (trade_same S a b same) same.fresh (λ n x. x)

pub return_written : (S : ℕ → Type 0) (a b : PagesView) (kind : Kind) (page : ℕ) (bytes : List ℕ) → HasChain a → IsForm kind page (a.page page) → S page → b.page ≡ with_page page bytes a.page → b.free ≡ a.free → b.fresh ≡ a.fresh → Returns S S a b
return_written S a b kind page bytes c form s pages free fresh = of_trade S S a b (trade_written S a b kind page bytes c form s pages free fresh) fresh (λ n x. x)

pub return_given : (S : ℕ → Type 0) (a b : PagesView) (kind : Kind) (page : ℕ) → HasChain a → IsForm kind page (a.page page) → IsTaken a.fresh page → S page → Gives page a b → Returns S (λ n. S n × (n ≢ page)) a b
unfolding chain_given
return_given S a b kind page c form lies s g =
    let after = chain_given a b kind page c form lies g in
    record {
      used = λ n which. elim which [
        | inl both ↦ inl both.0
        | inr f ↦ elim (in_chain b n after f) [ inl is ↦ inl (subst S (sym is) s) | inr i ↦ inr (record { chain = c; among = i }) ]
      ];
      all = λ n which. elim which [
        | inl x ↦ elim (cases_eq n page) [ inl is ↦ inr (record { chain = after; among = inl is }) | inr differs ↦ inl (x, differs) ]
        | inr f ↦ inr (record { chain = after; among = inr (in_chain a n c f) })
      ];
      stays = λ n out. g.others n (λ is. out (subst S (sym is) s));
    }

pub return_on : (A B C : ℕ → Type 0) (a b d : PagesView) → Returns A B a b → Returns B C b d → ((n : ℕ) → B n → A n) → Returns A C a d
return_on A B C a b d one two less = record {
  used = λ n which. one.used n (two.used n which);
  all = λ n which. two.all n (one.all n which);
  stays = λ n out. two.stays n (λ x. out (less n x)) ∙ one.stays n out;
}

pub return_map : (A B C D : ℕ → Type 0) (a b : PagesView) → Returns A B a b → ((n : ℕ) → C n → A n) → ((n : ℕ) → A n → C n) → ((n : ℕ) → B n → D n) → ((n : ℕ) → D n → B n) → Returns C D a b
return_map A B C D a b t to from on back = record {
  used = λ n which. elim (t.used n (elim which [ inl d ↦ inl (back n d) | inr f ↦ inr f ])) [ inl x ↦ inl (from n x) | inr f ↦ inr f ];
  all = λ n which. elim (t.all n (elim which [ inl c ↦ inl (to n c) | inr f ↦ inr f ])) [ inl x ↦ inl (on n x) | inr f ↦ inr f ];
  stays = λ n out. t.stays n (λ x. out (from n x));
}

pub return_add : (P A B : ℕ → Type 0) (a b : PagesView) → Returns A B a b → Returns (λ n. P n ⊎ A n) (λ n. P n ⊎ B n) a b
return_add P A B a b t = record {
  used = λ n which. elim which [
    | inl either ↦ elim either [
      | inl p ↦ inl (inl p)
      | inr x ↦ elim (t.used n (inl x)) [ inl y ↦ inl (inr y) | inr f ↦ inr f ]
    ]
    | inr f ↦ elim (t.used n (inr f)) [ inl y ↦ inl (inr y) | inr g ↦ inr g ]
  ];
  all = λ n which. elim which [
    | inl either ↦ elim either [
      | inl p ↦ inl (inl p)
      | inr y ↦ elim (t.all n (inl y)) [ inl x ↦ inl (inr x) | inr f ↦ inr f ]
    ]
    | inr f ↦ elim (t.all n (inr f)) [ inl x ↦ inl (inr x) | inr g ↦ inr g ]
  ];
  stays = λ n out. t.stays n (λ y. out (inr y));
}
