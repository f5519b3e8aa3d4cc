-- The pages that are gone through, whatever they are.
use Rattle.std.proofs.Common.{◌≡◌, ℕ, zero, suc, List, [], ◌∷◌, Option, Ok, Err, sym, subst, inl, inr}
use Rattle.std.specs.Prelude.{Result, IfOk, IsTrue}
use Rattle.gaz_page.specs.declared.pages.PageFault.{PageFault}
use Rattle.gaz_page.specs.Pages.{PagesView}
use Rattle.gaz_leaf.specs.declared.kind.Kind.TheVariants.{Leaf, Inner}
use Rattle.gaz_leaf.specs.Node.{Pair, IsPage}
use Rattle.gaz_tree.specs.Tree.{children_of, leaf_of, SomeEntry}
use Rattle.gaz_tree.specs.Calls.{LeadsDown, StandsIn}

some_down : (pages : ℕ → List ℕ) (P : ℕ → Type 0) (below child : ℕ) (es : List Pair) → SomeEntry (λ e. e.value ≡ child) es → LeadsDown pages P below child → SomeEntry (λ e. LeadsDown pages P below e.value) es
some_down pages P below child [] s down = absurd s
some_down pages P below child (e ∷ es) (inl is) down = inl (subst (λ (k : ℕ). LeadsDown pages P below k) (sym is) down)
some_down pages P below child (e ∷ es) (inr s) down = inr (some_down pages P below child es s down)

some_map : (P Q : Pair → Type 0) (es : List Pair) → ((e : Pair) → P e → Q e) → SomeEntry P es → SomeEntry Q es
some_map P Q [] f s = absurd s
some_map P Q (e ∷ es) f (inl p) = inl (f e p)
some_map P Q (e ∷ es) f (inr s) = inr (some_map P Q es f s)

-- more that is told of the leaf
pub down_map : (pages : ℕ → List ℕ) (P Q : ℕ → Type 0) (level page : ℕ) → ((n : ℕ) → P n → Q n) → LeadsDown pages P level page → LeadsDown pages Q level page
down_map pages P Q zero page f down = (down.0, f page down.1)
down_map pages P Q (suc below) page f down =
    (down.0, some_map (λ e. LeadsDown pages P below e.value) (λ e. LeadsDown pages Q below e.value) (children_of pages page) (λ e. down_map pages P Q below e.value f) down.1)

-- a page leads down where its child does
pub down_below : (pages : ℕ → List ℕ) (P : ℕ → Type 0) (level below page child : ℕ) → level ≡ suc below → IsPage Inner page (pages page) → SomeEntry (λ e. e.value ≡ child) (children_of pages page)
    → LeadsDown pages P below child → LeadsDown pages P level page
down_below pages P level below page child next own some down =
    subst (λ (l : ℕ). LeadsDown pages P l page) (sym next) (own, some_down pages P below child (children_of pages page) some down)

-- the same after reads, of what is told of a leaf by the pages
pub down_step : (Q : (ℕ → List ℕ) → ℕ → Type 0) (old mid : ℕ → List ℕ) (level below page child : ℕ) → level ≡ suc below → mid ≡ old → IsPage Inner page (old page)
    → SomeEntry (λ e. e.value ≡ child) (children_of old page) → LeadsDown mid (Q mid) below child → LeadsDown old (Q old) level page
down_step Q old mid level below page child next same own some down =
    down_below old (Q old) level below page child next own some (subst (λ (m : ℕ → List ℕ). LeadsDown m (Q m) below child) same down)

-- of a leaf
pub down_none : (pages : ℕ → List ℕ) (page : ℕ) → IsPage Leaf page (pages page) → (level : ℕ) → level ≡ 0 → LeadsDown pages (λ leaf. Unit) level page
down_none pages page own level is = subst (λ (l : ℕ). LeadsDown pages (λ leaf. Unit) l page) (sym is) (own, tt)

-- a value that was found in a leaf, and below a child
pub found_leaf : (v : PagesView) (key level page : ℕ) (result : Result (Option ℕ) PageFault) → level ≡ 0 → IfOk result (λ found. IsTrue v.is_told → IsPage Leaf page (v.page page))
    → IfOk result (λ found. IsTrue v.is_told → StandsIn (leaf_of v.page page) key found)
    → IfOk result (λ found. IsTrue v.is_told → LeadsDown v.page (λ leaf. StandsIn (leaf_of v.page leaf) key found) level page)
found_leaf v key level page (Err fault) is own there = tt
found_leaf v key level page (Ok found) is own there = λ told. subst (λ (l : ℕ). LeadsDown v.page (λ leaf. StandsIn (leaf_of v.page leaf) key found) l page) (sym is) (own told, there told)

pub found_down : (old mid : PagesView) (key level below page child : ℕ) (result : Result (Option ℕ) PageFault) → level ≡ suc below → (IsTrue old.is_told → mid.page ≡ old.page) → mid.is_told ≡ old.is_told
    → (IsTrue old.is_told → IsPage Inner page (old.page page)) → (IsTrue old.is_told → SomeEntry (λ e. e.value ≡ child) (children_of old.page page))
    → IfOk result (λ found. IsTrue mid.is_told → LeadsDown mid.page (λ leaf. StandsIn (leaf_of mid.page leaf) key found) below child)
    → IfOk result (λ found. IsTrue old.is_told → LeadsDown old.page (λ leaf. StandsIn (leaf_of old.page leaf) key found) level page)
found_down old mid key level below page child (Err fault) next same telling own some down = tt
found_down old mid key level below page child (Ok found) next same telling own some down = λ told.
    down_step (λ m leaf. StandsIn (leaf_of m leaf) key found) old.page mid.page level below page child next (same told) (own told) (some told) (down (subst IsTrue (sym telling) told))
