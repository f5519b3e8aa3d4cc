-- What the calls of a tree do to its pages, and what they answer.
use Rattle.std.specs.Prelude.{◌≡◌, ◌<◌, ◌≤◌, ◌⊎◌, ℕ, zero, suc, Bool, IsTrue, List, ◌∷◌, ◌++◌, length, Option, Some, None, Result, Ok, Err}
use Rattle.gaz_page.specs.declared.pages.PageFault.{PageFault}
use Rattle.gaz_page.specs.declared.pages.PageFault.TheVariants.{Failed, Damaged}
use Rattle.gaz_leaf.specs.declared.kind.Kind.{Kind}
use Rattle.gaz_leaf.specs.declared.kind.Kind.TheVariants.{Leaf, Inner}
use Rattle.gaz_leaf.specs.Node.{Pair, IsForm, IsPage}
use Rattle.gaz_tree.specs.declared.way.Way.{Way}
use Rattle.gaz_tree.specs.Tree.{from_low, next_key, children_of, kind_at, IsFilled, HasTwo, SomeEntry}

-- The answer is this, but where a call failed.
abbrev pub IsGot : {T : Type 0} → T → Result T PageFault → Type 0
IsGot expected (Ok given) = given ≡ expected
IsGot expected (Err Failed) = Unit {0}
IsGot expected (Err _) = ⊥

-- The child at place i of a fan has the key within its bounds.
pub record IsWay (high key : ℕ) (fan : List Pair) (i child : ℕ) : Type 0 where
  pub xs : List Pair
  pub at : ℕ
  pub ys : List Pair
  pub is : fan ≡ xs ++ record { key = at; value = child } ∷ ys
  pub place : length xs ≡ i
  pub start : at ≤ key
  pub end : key < next_key high ys

-- The way to a key from a page with these children, but where a call failed.
abbrev pub LeadsTo : List Pair → ℕ → Result Way PageFault → Type 0
LeadsTo es key (Ok way) = (low high : ℕ) → low ≤ key → key < high → IsWay high key (from_low low es) way.place way.child
LeadsTo es key (Err Failed) = Unit {0}
LeadsTo es key (Err _) = ⊥

-- ---- the pages that are gone through, whatever they are

-- The pages lead down from this one of a level by children to a leaf of which P holds. Each of them has its kind and its own number.
abbrev pub LeadsDown : (ℕ → List ℕ) → (ℕ → Type 0) → ℕ → ℕ → Type 0
LeadsDown pages P zero page = IsPage Leaf page (pages page) × P page
LeadsDown pages P (suc below) page = IsPage Inner page (pages page) × SomeEntry (λ e. LeadsDown pages P below e.value) (children_of pages page)

-- A value that is answered stands among the pairs with its key.
abbrev pub StandsIn : List Pair → ℕ → Option ℕ → Type 0
StandsIn pairs key None = Unit {0}
StandsIn pairs key (Some value) = SomeEntry (λ p. (p.key ≡ key) × (p.value ≡ value)) pairs

-- ---- the page that damage names

-- Damage names this page, which isn't one of the kind in form with its number.
abbrev pub Unfit : Kind → ℕ → List ℕ → Bool → PageFault → Type 0
Unfit kind page bytes told (Damaged n) = (n ≡ page) × (IsTrue told → IsForm kind page bytes → ⊥)
Unfit kind page bytes told _ = Unit {0}

-- page n lies at this level below a page of level `from`, as the children lead
abbrev pub LeadsAt : (ℕ → List ℕ) → ℕ → ℕ → ℕ → ℕ → Type 0
LeadsAt pages zero page level n = (level ≡ 0) × (n ≡ page)
LeadsAt pages (suc from) page level n = ((level ≡ suc from) × (n ≡ page)) ⊎ SomeEntry (λ e. LeadsAt pages from e.value level n) (children_of pages page)

-- The page is in form as one of its level: of its kind, with its own number, and with enough entries, of which the topmost needs fewer.
pub record IsFit (pages : ℕ → List ℕ) (top_level level n : ℕ) : Type 0 where
  pub form : IsForm (kind_at level) n (pages n)
  pub two : level ≡ top_level → HasTwo pages level n
  pub filled : level < top_level → IsFilled (kind_at level) (pages n)

-- The pages lead from a page of level `from` to this one, which isn't in form as one of its level.
pub record IsMisfit (pages : ℕ → List ℕ) (from page n : ℕ) : Type 0 where
  pub level : ℕ
  pub leads : LeadsAt pages from page level n
  pub unfit : IsFit pages from level n → ⊥

-- Where damage is answered, it names such a page.
abbrev pub Names : {T : Type 0} → (ℕ → List ℕ) → ℕ → ℕ → Result T PageFault → Type 0
Names pages from page (Err (Damaged n)) = IsMisfit pages from page n
Names pages from page _ = Unit {0}

-- the same of a whole tree; one without levels is damage of its topmost page
abbrev pub NamesOf : {T : Type 0} → (ℕ → List ℕ) → ℕ → ℕ → Result T PageFault → Type 0
NamesOf pages zero top (Err (Damaged n)) = n ≡ top
NamesOf pages zero top _ = Unit {0}
NamesOf pages (suc level) top result = Names pages level top result

-- Of a page above a level, to which the pages led, the call has written none.
abbrev pub LeftAbove : (ℕ → List ℕ) → (ℕ → List ℕ) → ℕ → ℕ → ℕ → Type 0
LeftAbove old new from page level = (l p : ℕ) → level < l → LeadsAt old from page l p → new p ≡ old p

-- The page wasn't in form as one of its level before the call, unless the call itself has written it. The pages led to it there, unless the
-- call has written a page above.
pub record IsMisfitSince (old new : ℕ → List ℕ) (from page n : ℕ) : Type 0 where
  pub level : ℕ
  pub leads : LeftAbove old new from page level → LeadsAt old from page level n
  pub unfit : new n ≡ old n → IsFit old from level n → ⊥

-- Where a call that writes answers damage, it names such a page.
abbrev pub NamesSince : {T : Type 0} → (ℕ → List ℕ) → (ℕ → List ℕ) → ℕ → ℕ → Result T PageFault → Type 0
NamesSince old new from page (Err (Damaged n)) = IsMisfitSince old new from page n
NamesSince old new from page _ = Unit {0}

-- the same of a whole tree
abbrev pub NamesSinceOf : {T : Type 0} → (ℕ → List ℕ) → (ℕ → List ℕ) → ℕ → ℕ → Result T PageFault → Type 0
NamesSinceOf old new zero top (Err (Damaged n)) = n ≡ top
NamesSinceOf old new zero top _ = Unit {0}
NamesSinceOf old new (suc level) top result = NamesSince old new level top result
