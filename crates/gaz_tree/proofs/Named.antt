-- The page that damage names.
use Rattle.std.proofs.Common.{◌≡◌, ◌≤◌, ◌<◌, ℕ, zero, suc, List, [], ◌∷◌, refl, sym, ◌∙◌, arith, subst, inl, inr}
use Rattle.std.specs.Prelude.{Result, Ok, Err, IfErr, Bool, IsTrue}
use Rattle.gaz_page.specs.Pages.{PagesView, HasReads, NotDamaged}
use Rattle.gaz_leaf.specs.declared.kind.Kind.{Kind}
use Rattle.gaz_page.specs.declared.pages.PageFault.{PageFault}
use Rattle.gaz_page.specs.declared.pages.PageFault.TheVariants.{Failed, Damaged, Memory}
use Rattle.gaz_leaf.specs.declared.kind.Kind.TheVariants.{Leaf, Inner}
use Rattle.gaz_leaf.specs.Node.{Pair, IsForm, pairs_in, count_of}
use Rattle.gaz_tree.specs.Tree.{kind_at, least, children_of, IsFilled, HasTwo, SomeEntry}
use Rattle.gaz_tree.specs.Calls.{LeadsTo, LeadsAt, IsFit, IsMisfit, Names, NamesOf, Unfit, IsMisfitSince, NamesSince, NamesSinceOf}
use Rattle.gaz_tree.specs.Remove.{NamesChild, NamesPageOrChild}

pub damaged_same : (a b : ℕ) → Damaged a ≡ Damaged b → a ≡ b
damaged_same a b is = cc

-- what was answered isn't a failure of the pages
abbrev pub NotFailed : PageFault → Type 0
NotFailed Failed = ⊥
NotFailed _ = Unit {0}

-- reads that didn't fail leave the pages as they are
pub read_same : {T : Type 0} (most : ℕ) (old new : PagesView) (fault : PageFault) → HasReads {T = T} most old new (Err fault) → IsTrue old.is_told → NotFailed fault → new.page ≡ old.page
read_same most old new Failed reads told fine = absurd fine
read_same most old new Memory reads told fine = (reads.same (λ failed. failed) told).pages
read_same most old new (Damaged n) reads told fine = (reads.same (λ failed. failed) told).pages

-- a page of a leaf that was read
pub names_leaf : {T : Type 0} (pages : ℕ → List ℕ) (page : ℕ) (bytes : List ℕ) (result : Result T PageFault) → bytes ≡ pages page
    → IfErr result (λ fault. fault ≡ Damaged page) → IfErr result (λ fault. IsForm Leaf page bytes → ⊥) → Names pages 0 page result
names_leaf pages page bytes (Ok given) is d u = tt
names_leaf pages page bytes (Err Failed) is d u = tt
names_leaf pages page bytes (Err Memory) is d u = tt
names_leaf pages page bytes (Err (Damaged n)) is d u =
    let same = damaged_same n page d in
    record { level = 0; leads = (refl, same); unfit = λ fit. u (subst (IsForm Leaf page) (sym is) (subst (λ (m : ℕ). IsForm Leaf m (pages m)) same fit.form)) }

-- an inner page that was read
pub names_inner : {T : Type 0} (pages : ℕ → List ℕ) (below page : ℕ) (bytes : List ℕ) (result : Result T PageFault) → bytes ≡ pages page
    → IfErr result (λ fault. fault ≡ Damaged page) → IfErr result (λ fault. IsForm Inner page bytes → 2 ≤ count_of bytes → ⊥) → Names pages (suc below) page result
names_inner pages below page bytes (Ok given) is d u = tt
names_inner pages below page bytes (Err Failed) is d u = tt
names_inner pages below page bytes (Err Memory) is d u = tt
names_inner pages below page bytes (Err (Damaged n)) is d u =
    let same = damaged_same n page d in
    record {
      level = suc below;
      leads = inl (refl, same);
      unfit = λ fit. u (subst (IsForm Inner page) (sym is) (subst (λ (m : ℕ). IsForm Inner m (pages m)) same fit.form))
          (subst (λ (l : List ℕ). 2 ≤ count_of l) (sym is) (subst (λ (m : ℕ). 2 ≤ count_of (pages m)) same (fit.two refl)));
    }

pub two_of_filled : (pages : ℕ → List ℕ) (level n : ℕ) → IsFilled (kind_at level) (pages n) → HasTwo pages level n
two_of_filled pages zero n f = tt
two_of_filled pages (suc level) n f = let le = f.filled in omega arith

-- what is in form below a page is so below its child
pub fit_below : (pages : ℕ → List ℕ) (below level n : ℕ) → IsFit pages (suc below) level n → IsFit pages below level n
fit_below pages below level n fit = record {
  form = fit.form;
  two = λ is. two_of_filled pages level n (fit.filled (omega arith));
  filled = λ lt. fit.filled (omega arith);
}

pub some_leads : (pages : ℕ → List ℕ) (below child level n : ℕ) (es : List Pair) → SomeEntry (λ e. e.value ≡ child) es → LeadsAt pages below child level n
    → SomeEntry (λ e. LeadsAt pages below e.value level n) es
some_leads pages below child level n [] s leads = absurd s
some_leads pages below child level n (e ∷ es) (inl is) leads = inl (subst (λ (k : ℕ). LeadsAt pages below k level n) (sym is) leads)
some_leads pages below child level n (e ∷ es) (inr s) leads = inr (some_leads pages below child level n es s leads)

pub misfit_below : (pages : ℕ → List ℕ) (below page child n : ℕ) → SomeEntry (λ e. e.value ≡ child) (children_of pages page) → IsMisfit pages below child n → IsMisfit pages (suc below) page n
misfit_below pages below page child n some m = record {
  level = m.level;
  leads = inr (some_leads pages below child m.level n (children_of pages page) some m.leads);
  unfit = λ fit. m.unfit (fit_below pages below m.level n fit);
}

-- the same of what is named
pub names_below : {T : Type 0} (old new : ℕ → List ℕ) (level below page child : ℕ) (result : Result T PageFault) → level ≡ suc below → new ≡ old
    → SomeEntry (λ e. e.value ≡ child) (children_of old page) → Names new below child result → Names old level page result
names_below old new level below page child (Ok given) next same some names = tt
names_below old new level below page child (Err Failed) next same some names = tt
names_below old new level below page child (Err Memory) next same some names = tt
names_below old new level below page child (Err (Damaged n)) next same some names =
    subst (λ (l : ℕ). IsMisfit old l page n) (sym next)
    (misfit_below old below page child n some (subst (λ (m : ℕ → List ℕ). IsMisfit m below child n) same names))

-- a failure of one call is that of the next
pub names_failed : (A B : Type 0) (pages : ℕ → List ℕ) (from page : ℕ) (fault : PageFault) → Names {T = A} pages from page (Err fault) → Names {T = B} pages from page (Err fault)
names_failed A B pages from page Failed names = tt
names_failed A B pages from page Memory names = tt
names_failed A B pages from page (Damaged n) names = names

-- of a whole tree
pub names_whole : {T : Type 0} (pages : ℕ → List ℕ) (height level top : ℕ) (result : Result T PageFault) → height ≡ suc level → Names pages level top result → NamesOf pages height top result
names_whole pages height level top result tall names = subst (λ (h : ℕ). NamesOf pages h top result) (sym tall) names

-- ---- calls that write

pub since_of : {T : Type 0} (old new : ℕ → List ℕ) (from page : ℕ) (result : Result T PageFault) → Names old from page result → NamesSince old new from page result
since_of old new from page (Ok given) m = tt
since_of old new from page (Err Failed) m = tt
since_of old new from page (Err Memory) m = tt
since_of old new from page (Err (Damaged n)) m = record { level = m.level; leads = λ left. m.leads; unfit = λ same fit. m.unfit fit }

pub since_failed : (A B : Type 0) (old new : ℕ → List ℕ) (from page : ℕ) (fault : PageFault) → NamesSince {T = A} old new from page (Err fault) → NamesSince {T = B} old new from page (Err fault)
since_failed A B old new from page Failed names = tt
since_failed A B old new from page Memory names = tt
since_failed A B old new from page (Damaged n) names = names

below_since : (old new : ℕ → List ℕ) (below page child n : ℕ) → SomeEntry (λ e. e.value ≡ child) (children_of old page) → IsMisfitSince old new below child n → IsMisfitSince old new (suc below) page n
below_since old new below page child n some m = record {
  level = m.level;
  leads = λ left. inr (some_leads old below child m.level n (children_of old page) some
      (m.leads (λ l p lt leads. left l p lt (inr (some_leads old below child l p (children_of old page) some leads)))));
  unfit = λ same fit. m.unfit same (fit_below old below m.level n fit);
}

pub since_below : {T : Type 0} (old mid new : ℕ → List ℕ) (level below page child : ℕ) (result : Result T PageFault) → level ≡ suc below → mid ≡ old
    → SomeEntry (λ e. e.value ≡ child) (children_of old page) → NamesSince mid new below child result → NamesSince old new level page result
since_below old mid new level below page child (Ok given) next same some names = tt
since_below old mid new level below page child (Err Failed) next same some names = tt
since_below old mid new level below page child (Err Memory) next same some names = tt
since_below old mid new level below page child (Err (Damaged n)) next same some names =
    subst (λ (l : ℕ). IsMisfitSince old new l page n) (sym next)
    (below_since old new below page child n some (subst (λ (m : ℕ → List ℕ). IsMisfitSince m new below child n) same names))

pub since_whole : {T : Type 0} (old new : ℕ → List ℕ) (height level top : ℕ) (result : Result T PageFault) → height ≡ suc level → NamesSince old new level top result → NamesSinceOf old new height top result
since_whole old new height level top result tall names = subst (λ (h : ℕ). NamesSinceOf old new h top result) (sym tall) names

pub leads_itself : (pages : ℕ → List ℕ) (level n : ℕ) → LeadsAt pages level n level n
leads_itself pages zero n = (refl, refl)
leads_itself pages (suc level) n = inl (refl, refl)

-- ---- a page that was copied

pub since_leaf : (T : Type 0) (old new : ℕ → List ℕ) (page : ℕ) (told : Bool) (fault : PageFault) → IsTrue told → Unfit Leaf page (old page) told fault → NamesSince {T = T} old new 0 page (Err fault)
since_leaf T old new page told Failed is u = tt
since_leaf T old new page told Memory is u = tt
since_leaf T old new page told (Damaged n) is u = record { level = 0; leads = λ left. (refl, u.0); unfit = λ same fit. u.1 is (subst (λ (m : ℕ). IsForm Leaf m (old m)) u.0 fit.form) }

-- the topmost page was an inner one, and isn't in form any more
pub since_top : (T : Type 0) (old mid new : ℕ → List ℕ) (height level top : ℕ) (told : Bool) (fault : PageFault) → height ≡ suc (suc level) → (NotFailed fault → new ≡ mid) → IsTrue told → Unfit Inner top (mid top) told fault
    → NamesSinceOf {T = T} old new height top (Err fault)
since_top T old mid new height level top told Failed tall same is u = since_whole {T = T} old new height (suc level) top (Err Failed) tall tt
since_top T old mid new height level top told Memory tall same is u = since_whole {T = T} old new height (suc level) top (Err Memory) tall tt
since_top T old mid new height level top told (Damaged n) tall read is u =
    let same = read tt in
    let m : IsMisfitSince old new (suc level) top n = record {
      level = suc level;
      leads = λ left. inl (refl, u.0);
      unfit = λ stays fit. u.1 is (subst (IsForm Inner top) (sym (subst (λ (k : ℕ). new k ≡ old k) u.0 stays) ∙ (λ j. same j top)) (subst (λ (k : ℕ). IsForm Inner k (old k)) u.0 fit.form));
    } in
    since_whole {T = T} old new height (suc level) top (Err (Damaged n)) tall m

-- ---- two children that are mended

pub child_unfit : (T : Type 0) (kind : Kind) (es : List Pair) (child : ℕ) (old mid new : ℕ → List ℕ) (told : Bool) (fault : PageFault) → IsTrue told → mid ≡ old → (NotFailed fault → new ≡ old)
    → SomeEntry (λ e. e.value ≡ child) es → Unfit kind child (mid child) told fault → NamesChild {T = T} kind es old new (Err fault)
child_unfit T kind es child old mid new told Failed is same read some u = tt
child_unfit T kind es child old mid new told Memory is same read some u = tt
child_unfit T kind es child old mid new told (Damaged n) is same read some u = (
  read tt,
  subst (λ (k : ℕ). SomeEntry (λ e. e.value ≡ k) es) (sym u.0) some,
  λ form full. u.1 is (subst (λ (m : ℕ → List ℕ). IsForm kind child (m child)) (sym same) (subst (λ (k : ℕ). IsForm kind k (old k)) u.0 form)),
)

pub child_fine : {T : Type 0} (kind : Kind) (es : List Pair) (old new : ℕ → List ℕ) (result : Result T PageFault) → IfErr result NotDamaged → NamesChild kind es old new result
child_fine kind es old new (Ok x) fine = tt
child_fine kind es old new (Err Failed) fine = tt
child_fine kind es old new (Err Memory) fine = tt
child_fine kind es old new (Err (Damaged n)) fine = absurd fine

pub page_unfit : (T : Type 0) (kind : Kind) (page place : ℕ) (old new : ℕ → List ℕ) (told : Bool) (fault : PageFault) → IsTrue told → (NotFailed fault → new ≡ old)
    → Unfit Inner page (old page) told fault → NamesPageOrChild {T = T} kind page place old new (Err fault)
page_unfit T kind page place old new told Failed is read u = tt
page_unfit T kind page place old new told Memory is read u = tt
page_unfit T kind page place old new told (Damaged n) is read u = inl (u.0, read tt, λ form two lt. u.1 is form)

pub page_or_child : {T : Type 0} (kind : Kind) (page place : ℕ) (es : List Pair) (old mid new : ℕ → List ℕ) (result : Result T PageFault) → mid ≡ old → es ≡ children_of old page
    → NamesChild kind es mid new result → NamesPageOrChild kind page place old new result
page_or_child kind page place es old mid new (Ok x) same is names = tt
page_or_child kind page place es old mid new (Err Failed) same is names = tt
page_or_child kind page place es old mid new (Err Memory) same is names = tt
page_or_child kind page place es old mid new (Err (Damaged n)) same is names = inr (
  names.0 ∙ same,
  subst (λ (l : List Pair). SomeEntry (λ e. e.value ≡ n) l) is names.1,
  λ form full. names.2 (subst (λ (m : ℕ → List ℕ). IsForm kind n (m n)) (sym same) form) (subst (λ (m : ℕ → List ℕ). 1 ≤ count_of (m n)) (sym same) full),
)

some_itself : (pages : ℕ → List ℕ) (level n : ℕ) (es : List Pair) → SomeEntry (λ e. e.value ≡ n) es → SomeEntry (λ e. LeadsAt pages level e.value level n) es
some_itself pages level n es some = some_leads pages level n level n es some (leads_itself pages level n)

pub least_some : (level : ℕ) → 1 ≤ least (kind_at level)
least_some zero = omega arith
least_some (suc level) = omega arith

-- what a mending names is no page in form of its level
pub mend_since : {T : Type 0} (old mid new : ℕ → List ℕ) (level below page place : ℕ) (kind : Kind) (result : Result T PageFault) → level ≡ suc below → kind ≡ kind_at below → place < count_of (old page)
    → NamesPageOrChild kind page place mid new result → NamesSince old new level page result
mend_since old mid new level below page place kind (Ok x) next is lt names = tt
mend_since old mid new level below page place kind (Err Failed) next is lt names = tt
mend_since old mid new level below page place kind (Err Memory) next is lt names = tt
mend_since old mid new level below page place kind (Err (Damaged n)) next is lt (inl names) =
    let m : IsMisfitSince old new (suc below) page n = record {
      level = suc below;
      leads = λ left. inl (refl, names.0);
      unfit = λ stays fit.
          let here : new page ≡ old page = subst (λ (k : ℕ). new k ≡ old k) names.0 stays in
          let back : mid page ≡ old page = (λ j. sym names.1 j page) ∙ here in
          let form = subst (λ (k : ℕ). IsForm Inner k (old k)) names.0 fit.form in
          let two = subst (λ (k : ℕ). 2 ≤ count_of (old k)) names.0 (fit.two refl) in
          names.2 (subst (IsForm Inner page) (sym back) form) (subst (λ (l : List ℕ). 2 ≤ count_of l) (sym back) two) (subst (λ (l : List ℕ). place < count_of l) (sym back) lt);
    } in
    subst (λ (l : ℕ). IsMisfitSince old new l page n) (sym next) m
mend_since old mid new level below page place kind (Err (Damaged n)) next is lt (inr names) =
    let m : IsMisfitSince old new (suc below) page n = record {
      level = below;
      leads = λ left.
          let here : new page ≡ old page = left (suc below) page (omega arith) (inl (refl, refl)) in
          let back : mid page ≡ old page = (λ j. sym names.0 j page) ∙ here in
          inr (some_itself old below n (children_of old page) (subst (λ (l : List ℕ). SomeEntry (λ e. e.value ≡ n) (pairs_in Inner l)) back names.1));
      unfit = λ stays fit.
          let back : mid n ≡ old n = (λ j. sym names.0 j n) ∙ stays in
          let full = (fit.filled (omega arith)).filled in
          let some = least_some below in
          names.2 (subst (IsForm kind n) (sym back) (subst (λ (k : Kind). IsForm k n (old n)) (sym is) fit.form)) (subst (λ (l : List ℕ). 1 ≤ count_of l) (sym back) (omega arith));
    } in
    subst (λ (l : ℕ). IsMisfitSince old new l page n) (sym next) m

-- ---- pages that stand

pub since_fine : (T : Type 0) (old new : ℕ → List ℕ) (height level top : ℕ) (fault : PageFault) → height ≡ suc level → NotDamaged fault → NamesSinceOf {T = T} old new height top (Err fault)
since_fine T old new height level top Failed tall fine = since_whole {T = T} old new height level top (Err Failed) tall tt
since_fine T old new height level top Memory tall fine = since_whole {T = T} old new height level top (Err Memory) tall tt
since_fine T old new height level top (Damaged n) tall fine = absurd fine

-- a page in form that was copied is no damage
pub copy_fine : (kind : Kind) (page : ℕ) (bytes : List ℕ) (told : Bool) (fault : PageFault) → IsTrue told → IsForm kind page bytes → Unfit kind page bytes told fault → NotDamaged fault
copy_fine kind page bytes told Failed is form u = tt
copy_fine kind page bytes told Memory is form u = tt
copy_fine kind page bytes told (Damaged n) is form u = absurd (u.1 is form)

pub way_fine : (es : List Pair) (key : ℕ) (fault : PageFault) → LeadsTo es key (Err fault) → NotDamaged fault
way_fine es key Failed leads = tt
way_fine es key Memory leads = tt
way_fine es key (Damaged n) leads = absurd leads
