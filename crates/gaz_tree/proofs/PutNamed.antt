-- The page that damage at a put names.
use Rattle.std.proofs.Common.{◌≡◌, ◌≤◌, ◌+◌, ◌-◌, ℕ, suc, List, refl, sym, ◌∙◌, arith, subst, inl, inr}
use Rattle.std.specs.Prelude.{Result, Ok, Err}
use Rattle.gaz_page.specs.declared.pages.PageFault.{PageFault}
use Rattle.gaz_page.specs.declared.pages.PageFault.TheVariants.{Failed, Damaged, Memory}
use Rattle.gaz_page.specs.Pages.{PagesView, SamePages}
use Rattle.gaz_leaf.specs.declared.kind.Kind.{Kind}
use Rattle.gaz_leaf.specs.declared.kind.Kind.TheVariants.{Inner}
use Rattle.gaz_leaf.specs.Node.{IsForm, count_of}
use Rattle.gaz_tree.specs.declared.grown.Grown.{Grown}
use Rattle.gaz_tree.specs.declared.tree.Tree.{Tree}
use Rattle.gaz_tree.specs.Tree.{children_of, SomeEntry}
use Rattle.gaz_tree.specs.Calls.{IsMisfitSince, NamesSince}
use Rattle.gaz_page.specs.Chains.{TakesAlong}
use Rattle.gaz_page.proofs.Takes.{along_same, take_meets, meets_more, meets_same}
use Rattle.gaz_tree.specs.Put.{IsTakeDamage, AddNames, PutNames}
use Rattle.gaz_tree.specs.Stands.{PutNamesOf}
use Rattle.gaz_tree.proofs.Trading.{take_damage_over}
use Rattle.gaz_tree.proofs.Named.{since_below}

pub add_taken : (kind : Kind) (page n : ℕ) (old mid new : PagesView) (result : Result Grown PageFault) → SamePages old mid → IsTakeDamage mid result → AddNames kind page n old new result
add_taken kind page n old mid new (Ok x) same d = tt
add_taken kind page n old mid new (Err Failed) same d = tt
add_taken kind page n old mid new (Err Memory) same d = tt
add_taken kind page n old mid new (Err (Damaged m)) same d =
    let damaged : Result Grown PageFault = Err (Damaged m) in
    inl (take_damage_over old mid damaged same d)

pub put_since : {T : Type 0} (old new : PagesView) (from page : ℕ) (result : Result T PageFault) → NamesSince old.page new.page from page result → PutNames old new from page result
put_since old new from page (Ok x) names = tt
put_since old new from page (Err Failed) names = tt
put_since old new from page (Err Memory) names = tt
put_since old new from page (Err (Damaged n)) names = inr names

-- one more entry in a leaf
pub put_leaf_taken : (old mid new : PagesView) (page : ℕ) (result : Result Grown PageFault) → SamePages old mid → IsTakeDamage mid result → PutNames old new 0 page result
put_leaf_taken old mid new page (Ok x) same damaged = tt
put_leaf_taken old mid new page (Err Failed) same damaged = tt
put_leaf_taken old mid new page (Err Memory) same damaged = tt
put_leaf_taken old mid new page (Err (Damaged m)) same damaged = inl (take_meets 0 old mid m (along_same old mid same) damaged)

-- below a child
pub put_up : {T : Type 0} (old mid new : PagesView) (level below page child : ℕ) (result : Result T PageFault) → level ≡ suc below → SamePages old mid
    → SomeEntry (λ e. e.value ≡ child) (children_of old.page page) → PutNames mid new below child result → PutNames old new level page result
put_up old mid new level below page child (Ok x) next same some names = tt
put_up old mid new level below page child (Err Failed) next same some names = tt
put_up old mid new level below page child (Err Memory) next same some names = tt
put_up old mid new level below page child (Err (Damaged n)) next same some (inl fault) =
    inl (meets_more (suc below) (suc level) old n (omega arith) (meets_same (suc below) old mid n same fault))
put_up {T} old mid new level below page child (Err (Damaged n)) next same some (inr names) =
    let damaged : Result T PageFault = Err (Damaged n) in
    inr (since_below old.page mid.page new.page level below page child damaged next same.pages some names)

-- one more entry in an inner page
pub put_split : (old mid then_ new : PagesView) (level below page n : ℕ) (result : Result Grown PageFault) → level ≡ suc below → SamePages old mid → TakesAlong (below + 1) mid then_
    → n ≤ count_of (old.page page) → AddNames Inner page n then_ new result → PutNames old new level page result
put_split old mid then_ new level below page n (Ok x) next same along le names = tt
put_split old mid then_ new level below page n (Err Failed) next same along le names = tt
put_split old mid then_ new level below page n (Err Memory) next same along le names = tt
put_split old mid then_ new level below page n (Err (Damaged m)) next same along le (inl met) =
    inl (meets_more (suc (below + 1)) (suc level) old m (omega arith) (meets_same (suc (below + 1)) old mid m same (take_meets (below + 1) mid then_ m along met)))
put_split old mid then_ new level below page n (Err (Damaged m)) next same along le (inr names) =
    let misfit : IsMisfitSince old.page new.page (suc below) page m = record {
      level = suc below;
      leads = λ left. inl (refl, names.0);
      unfit = λ stays fit.
          let here : new.page page ≡ old.page page = subst (λ (k : ℕ). new.page k ≡ old.page k) names.0 stays in
          let back : then_.page page ≡ old.page page = (λ j. sym names.1 j page) ∙ here in
          names.2 (subst (IsForm Inner page) (sym back) (subst (λ (k : ℕ). IsForm Inner k (old.page k)) names.0 fit.form)) (subst (λ (l : List ℕ). n ≤ count_of l) (sym back) le);
    } in
    inr (subst (λ (l : ℕ). IsMisfitSince old.page new.page l page m) (sym next) misfit)

-- ---- the whole tree

pub whole_names : (A B : Type 0) (old new : PagesView) (tree : Tree) (fault : PageFault) → 1 ≤ tree.height → PutNames {T = A} old new (tree.height - 1) tree.top (Err fault) → PutNamesOf {T = B} old new tree (Err fault)
whole_names A B old new tree Failed some names = tt
whole_names A B old new tree Memory some names = tt
whole_names A B old new tree (Damaged n) some (inl fault) = inr (inl (meets_more (suc (tree.height - 1)) (tree.height + 1) old n (omega arith) fault))
whole_names A B old new tree (Damaged n) some (inr names) = inr (inr names)

pub root_names : (A B : Type 0) (old mid new : PagesView) (tree : Tree) (fault : PageFault) → 1 ≤ tree.height → TakesAlong (tree.height - 1 + 1) old mid → IsTakeDamage {T = A} mid (Err fault) → PutNamesOf {T = B} old new tree (Err fault)
root_names A B old mid new tree Failed some along d = tt
root_names A B old mid new tree Memory some along d = tt
root_names A B old mid new tree (Damaged n) some along d =
    inr (inl (meets_more (suc (tree.height - 1 + 1)) (tree.height + 1) old n (omega arith) (take_meets (tree.height - 1 + 1) old mid n along d)))
