-- Pages that are taken and written: what becomes of the pages of a tree and the free ones together.
use Rattle.std.proofs.Common.{◌≡◌, ◌≢◌, ◌≤◌, ◌<◌, ◌+◌, ◌⊎◌, ℕ, List, [], ◌∷◌, Some, sym, ◌∙◌, ap, arith, subst, inl, inr}
use Rattle.std.specs.Prelude.{Bool, ◌==◌, if◌then◌else◌, Result, Ok, Err}
use Rattle.std.proofs.lemmas.Bool.{eq-eqb, cases_lt}
use Rattle.gaz_page.specs.Free.{free_link}
use Rattle.gaz_page.specs.declared.pages.PageFault.{PageFault}
use Rattle.gaz_page.specs.declared.pages.PageFault.TheVariants.{Failed, Damaged, Memory}
use Rattle.gaz_num.specs.Numbers.{some_if}
use Rattle.std.specs.Option.{is_none}
use Rattle.gaz_page.specs.Pages.{PagesView, SamePages, Takes, with_page, damage}
use Rattle.gaz_page.proofs.PageMaps.{with_other}
use Rattle.gaz_leaf.specs.declared.kind.Kind.{Kind}
use Rattle.gaz_leaf.specs.Node.{IsForm}
use Rattle.gaz_page.specs.Chains.{Among, IsFreeChain}
use Rattle.gaz_page.proofs.FreeChains.{chain_one}
use Rattle.gaz_tree.specs.Put.{HasChain, IsFree, Trades, TakesFew, IsSpent, IsTakeDamage}
use Rattle.gaz_tree.proofs.Changed.{form_not_free, takes_change}
use Rattle.gaz_tree.proofs.Chains.{In, chain_kept, on_chain, taken, rest_taken, left_one}

pub in_chain : (v : PagesView) (n : ℕ) (c : HasChain v) → IsFree v n → In n c.frees
in_chain v n c f = subst (λ (l : List ℕ). Among l n) (chain_one v v.free f.chain.frees c.frees f.chain.chain c.chain) f.among

-- ---- writes over pages of S

pub trade_write : (S : ℕ → Type 0) (a b : PagesView) (c : HasChain a) → ((n : ℕ) → In n c.frees → b.page n ≡ a.page n) → b.free ≡ a.free → b.fresh ≡ a.fresh
    → ((n : ℕ) → (S n → ⊥) → b.page n ≡ a.page n) → Trades S S a b
trade_write S a b c same free fresh stays =
    let after : HasChain b = record { frees = c.frees; chain = chain_kept a b c.frees free (omega arith) same c.chain } in
    record {
      used = λ n which. elim which [ inl s ↦ inl (inl s) | inr f ↦ inl (inr (record { chain = c; among = in_chain b n after f })) ];
      all = λ n which. elim which [
        | inl either ↦ elim either [ inl s ↦ inl s | inr f ↦ inr (record { chain = after; among = in_chain a n c f }) ]
        | inr late ↦ absurd (omega (arith, late.0, late.1, fresh))
      ];
      stays = stays;
    }

pub chain_same : (old mid : PagesView) → SamePages old mid → HasChain old → HasChain mid
chain_same old mid same c = record { frees = c.frees; chain = chain_kept old mid c.frees same.free (omega (arith, same.fresh)) (λ n i. (λ j. same.pages j n)) c.chain }

-- pages that are the same, and then calls that took some
pub few_over : (most : ℕ) (old mid new : PagesView) → SamePages old mid → TakesFew most mid new → TakesFew most old new
unfolding chain_same
few_over most old mid new same few before after = let e = same.fresh in let x = few (chain_same old mid same before) after in omega arith

pub few_same : (most : ℕ) (old new : PagesView) → SamePages old new → TakesFew most old new
unfolding chain_same
few_same most old new same before after = let e = same.fresh in let x = left_one new (chain_same old new same before) after in omega arith

pub spent_over : (most : ℕ) (old mid : PagesView) (n : ℕ) → SamePages old mid → IsSpent mid most n → IsSpent old most n
unfolding chain_same
spent_over most old mid n same s = record { none = s.none; few = λ before. (let e = same.fresh in let x = s.few (chain_same old mid same before) in omega arith) }

damage_over : (old mid : PagesView) → SamePages old mid → damage mid ≡ damage old
unfolding damage
damage_over old mid same i =
    if same.free i == 0 then some_if (same.fresh i == 4294967295) 0 else some_if (is_none (free_link (same.free i) (same.pages i (same.free i)))) (same.free i)

pub take_damage_over : {T : Type 0} (old mid : PagesView) (result : Result T PageFault) → SamePages old mid → IsTakeDamage mid result → IsTakeDamage old result
take_damage_over old mid (Ok given) same d = tt
take_damage_over old mid (Err Failed) same d = tt
take_damage_over old mid (Err Memory) same d = tt
take_damage_over old mid (Err (Damaged n)) same d = sym (damage_over old mid same) ∙ d

pub trade_same : (S : ℕ → Type 0) (a b : PagesView) → SamePages a b → Trades S S a b
unfolding chain_same
trade_same S a b same =
    let back : SamePages b a = record { pages = sym same.pages; free = sym same.free; fresh = sym same.fresh } in
    record {
      used = λ n which. elim which [ inl s ↦ inl (inl s) | inr f ↦ inl (inr (record { chain = chain_same b a back f.chain; among = f.among })) ];
      all = λ n which. elim which [
        | inl either ↦ elim either [ inl s ↦ inl s | inr f ↦ inr (record { chain = chain_same a b same f.chain; among = f.among }) ]
        | inr late ↦ absurd (let e = same.fresh in omega (arith, late.0, late.1))
      ];
      stays = λ n out. (λ j. same.pages j n);
    }

-- ---- a page is taken

took_fresh : (S : ℕ → Type 0) (a b : PagesView) (number : ℕ) (first : a.free ≡ 0) → 0 < a.fresh → Takes a b number → Trades S (λ n. S n ⊎ (n ≡ number)) a b
took_fresh S a b number first some t =
    let test = eq-eqb a.free 0 first in
    let is : number ≡ a.fresh = t.first ∙ ap (λ (x : Bool). if x then a.fresh else a.free) test in
    let fresh : b.fresh ≡ a.fresh + 1 = t.fresh ∙ ap (λ (x : Bool). if x then a.fresh + 1 else a.fresh) test in
    let free : Some b.free ≡ Some 0 = t.free ∙ ap (λ (x : Bool). if x then Some 0 else free_link a.free (a.page a.free)) test in
    let none_ : b.free ≡ 0 = cc in
    let before : HasChain a = record { frees = []; chain = first } in
    let after : HasChain b = record { frees = []; chain = none_ } in
    record {
      used = λ n which. elim which [
        | inl either ↦ elim either [ inl s ↦ inl (inl s) | inr same ↦ inr (omega (arith, same, is), omega (arith, same, is, fresh)) ]
        | inr f ↦ absurd (in_chain b n after f)
      ];
      all = λ n which. elim which [
        | inl either ↦ elim either [ inl s ↦ inl (inl s) | inr f ↦ absurd (in_chain a n before f) ]
        | inr late ↦ inl (inr (omega (arith, late.0, late.1, is, fresh)))
      ];
      stays = λ n out. t.others n (λ same. out (inr same));
    }

took_free : (S : ℕ → Type 0) (a b : PagesView) (number m : ℕ) (ms : List ℕ) → IsFreeChain a a.free (m ∷ ms) → Takes a b number → Trades S (λ n. S n ⊎ (n ≡ number)) a b
took_free S a b number m ms c t =
    let r = rest_taken a b number m ms c t in
    let is = r.is in
    let fresh = r.fresh in
    let before : HasChain a = record { frees = m ∷ ms; chain = c } in
    let after : HasChain b = record { frees = ms; chain = r.chain } in
    record {
      used = λ n which. elim which [
        | inl either ↦ elim either [ inl s ↦ inl (inl s) | inr same ↦ inl (inr (record { chain = before; among = inl (same ∙ is) })) ]
        | inr f ↦ inl (inr (record { chain = before; among = inr (in_chain b n after f) }))
      ];
      all = λ n which. elim which [
        | inl either ↦ elim either [
          | inl s ↦ inl (inl s)
          | inr f ↦ elim (in_chain a n before f) [ inl same ↦ inl (inr (same ∙ sym is)) | inr later ↦ inr (record { chain = after; among = later }) ]
        ]
        | inr late ↦ absurd (omega (arith, late.0, late.1, fresh))
      ];
      stays = λ n out. t.others n (λ same. out (inr same));
    }

took : (S : ℕ → Type 0) (a b : PagesView) (number : ℕ) (frees : List ℕ) → IsFreeChain a a.free frees → 0 < a.fresh → Takes a b number → Trades S (λ n. S n ⊎ (n ≡ number)) a b
took S a b number [] c some t = took_fresh S a b number c some t
took S a b number (m ∷ ms) c some t = took_free S a b number m ms c t

pub trade_take : (S : ℕ → Type 0) (a b : PagesView) (number : ℕ) → HasChain a → 0 < a.fresh → Takes a b number → Trades S (λ n. S n ⊎ (n ≡ number)) a b
trade_take S a b number c some t = took S a b number c.frees c.chain some t

-- ---- trades together

pub trade_on : (A B C : ℕ → Type 0) (a b d : PagesView) → Trades A B a b → Trades B C b d → ((n : ℕ) → B n → C n) → a.fresh ≤ b.fresh → b.fresh ≤ d.fresh → Trades A C a d
trade_on A B C a b d one two more up on = record {
  used = λ n which. elim (two.used n which) [
    | inl earlier ↦ elim (one.used n earlier) [ inl before ↦ inl before | inr late ↦ inr (late.0, omega (arith, late.1, on)) ]
    | inr late ↦ inr (omega (arith, late.0, up), late.1)
  ];
  all = λ n which. elim which [
    | inl before ↦ two.all n (inl (one.all n (inl before)))
    | inr late ↦ elim (cases_lt n b.fresh) [
      | inl low ↦ two.all n (inl (one.all n (inr (late.0, low))))
      | inr past ↦ two.all n (inr (past, late.1))
    ]
  ];
  stays = λ n out. two.stays n out ∙ one.stays n (λ is. out (more n is));
}

pub trade_map : (A B C D : ℕ → Type 0) (a b : PagesView) → Trades A B a b → ((n : ℕ) → C n → A n) → ((n : ℕ) → A n → C n) → ((n : ℕ) → B n → D n) → ((n : ℕ) → D n → B n) → Trades C D a b
trade_map A B C D a b t to from on back = record {
  used = λ n which. elim (t.used n (elim which [ inl d ↦ inl (back n d) | inr f ↦ inr f ])) [
    | inl either ↦ elim either [ inl x ↦ inl (inl (from n x)) | inr f ↦ inl (inr f) ]
    | inr late ↦ inr late
  ];
  all = λ n which. elim (t.all n (elim which [ inl either ↦ elim either [ inl c ↦ inl (inl (to n c)) | inr f ↦ inl (inr f) ] | inr late ↦ inr late ])) [
    | inl x ↦ inl (on n x)
    | inr f ↦ inr f
  ];
  stays = λ n out. t.stays n (λ x. out (on n x));
}

-- pages beside those that are traded
pub trade_add : (P A B : ℕ → Type 0) (a b : PagesView) → Trades A B a b → Trades (λ n. P n ⊎ A n) (λ n. P n ⊎ B n) a b
trade_add P A B a b t = record {
  used = λ n which. elim which [
    | inl either ↦ elim either [
      | inl p ↦ inl (inl (inl p))
      | inr x ↦ elim (t.used n (inl x)) [ inl earlier ↦ elim earlier [ inl y ↦ inl (inl (inr y)) | inr f ↦ inl (inr f) ] | inr late ↦ inr late ]
    ]
    | inr f ↦ elim (t.used n (inr f)) [ inl earlier ↦ elim earlier [ inl y ↦ inl (inl (inr y)) | inr g ↦ inl (inr g) ] | inr late ↦ inr late ]
  ];
  all = λ n which. elim which [
    | inl either ↦ elim either [
      | inl both ↦ elim both [
        | inl p ↦ inl (inl p)
        | inr y ↦ elim (t.all n (inl (inl y))) [ inl x ↦ inl (inr x) | inr f ↦ inr f ]
      ]
      | inr g ↦ elim (t.all n (inl (inr g))) [ inl x ↦ inl (inr x) | inr f ↦ inr f ]
    ]
    | inr late ↦ elim (t.all n (inr late)) [ inl x ↦ inl (inr x) | inr f ↦ inr f ]
  ];
  stays = λ n out. t.stays n (λ x. out (inr x));
}

-- ---- a page of the tree is written, or spread over itself and one that is taken, or one is taken and written

off_chain : (v : PagesView) (kind : Kind) (page : ℕ) (c : HasChain v) → IsForm kind page (v.page page) → (n : ℕ) → In n c.frees → n ≢ page
off_chain v kind page c form n i is = form_not_free kind n (v.page n) (subst (λ (k : ℕ). IsForm kind k (v.page k)) (sym is) form) (on_chain v v.free n c.frees c.chain i)

pub trade_written : (S : ℕ → Type 0) (a b : PagesView) (kind : Kind) (page : ℕ) (bytes : List ℕ) → HasChain a → IsForm kind page (a.page page) → S page → b.page ≡ with_page page bytes a.page → b.free ≡ a.free → b.fresh ≡ a.fresh → Trades S S a b
trade_written S a b kind page bytes c form s pages free fresh =
    trade_write S a b c (λ n i. (λ j. pages j n) ∙ with_other page n bytes a.page (off_chain a kind page c form n i)) free fresh
    (λ n out. (λ j. pages j n) ∙ with_other page n bytes a.page (λ is. out (subst S (sym is) s)))

pub trade_spread : (S : ℕ → Type 0) (a mid b : PagesView) (kind : Kind) (page number : ℕ) (left right : List ℕ) → HasChain a → 0 < a.fresh → IsForm kind page (a.page page) → page ≢ number → S page → Takes a mid number
    → b.page ≡ with_page number right (with_page page left mid.page) → b.free ≡ mid.free → b.fresh ≡ mid.fresh → Trades S (λ n. S n ⊎ (n ≡ number)) a b
trade_spread S a mid b kind page number left right c some form differ s takes pages free fresh =
    let T = λ (n : ℕ). S n ⊎ (n ≡ number) in
    let was = taken a mid number c some takes in
    let form_mid = subst (IsForm kind page) (sym (takes.others page differ)) form in
    trade_on S T T a mid b (trade_take S a mid number c some takes)
    (trade_write T mid b was.chain
    (λ n i. (λ j. pages j n) ∙ with_other number n right (with_page page left mid.page) (was.off n i) ∙ with_other page n left mid.page (off_chain mid kind page was.chain form_mid n i))
    free fresh
    (λ n out. (λ j. pages j n) ∙ with_other number n right (with_page page left mid.page) (λ is. out (inr is)) ∙ with_other page n left mid.page (λ is. out (inl (subst S (sym is) s)))))
    (λ n x. x) (takes_change S a mid number takes).grows (omega arith)

pub trade_taken : (S : ℕ → Type 0) (a mid b : PagesView) (number : ℕ) (bytes : List ℕ) → HasChain a → 0 < a.fresh → Takes a mid number → b.page ≡ with_page number bytes mid.page → b.free ≡ mid.free → b.fresh ≡ mid.fresh → Trades S (λ n. S n ⊎ (n ≡ number)) a b
trade_taken S a mid b number bytes c some takes pages free fresh =
    let T = λ (n : ℕ). S n ⊎ (n ≡ number) in
    let was = taken a mid number c some takes in
    trade_on S T T a mid b (trade_take S a mid number c some takes)
    (trade_write T mid b was.chain (λ n i. (λ j. pages j n) ∙ with_other number n bytes mid.page (was.off n i)) free fresh
    (λ n out. (λ j. pages j n) ∙ with_other number n bytes mid.page (λ is. out (inr is))))
    (λ n x. x) (takes_change S a mid number takes).grows (omega arith)
