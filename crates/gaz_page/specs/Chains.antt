-- Pages in use, and the chain of free ones: of this a tree and records over the same pages both speak.
use Rattle.std.specs.Prelude.{◌≡◌, ◌≢◌, ◌≤◌, ◌<◌, ◌+◌, ◌⊎◌, ℕ, List, [], ◌∷◌, length, Some, None}
use Rattle.gaz_page.specs.Free.{free_link}
use Rattle.gaz_page.specs.Pages.{PagesView}

-- it holds of each number of the list
abbrev pub Each : (ℕ → Type 0) → List ℕ → Type 0
Each P [] = Unit
Each P (n ∷ rest) = P n × Each P rest

-- the number stands in the list
abbrev pub Among : List ℕ → ℕ → Type 0
Among [] n = ⊥
Among (first ∷ rest) n = (n ≡ first) ⊎ Among rest n

-- the used range: the page was taken once
abbrev pub InUse : PagesView → ℕ → Type 0
InUse v n = (1 ≤ n) × (n < v.fresh)

-- the page was newly taken
abbrev pub IsTakenSince : PagesView → PagesView → ℕ → Type 0
IsTakenSince old new n = (old.fresh ≤ n) × (n < new.fresh)

-- the free pages from one on: they go by links to 0, through free pages in form that were taken once
abbrev pub IsFreeChain : PagesView → ℕ → List ℕ → Type 0
IsFreeChain v first [] = first ≡ 0
IsFreeChain v first (n ∷ rest) = (first ≡ n) × InUse v n × ((next : ℕ) × (free_link n (v.page n) ≡ Some next) × IsFreeChain v next rest)

-- The page isn't a free one in form.
abbrev pub IsNoFree : PagesView → ℕ → Type 0
IsNoFree v n = free_link n (v.page n) ≡ None

-- the free chain comes by its links from the first free page to this one, through these pages, the last one first
abbrev pub ComesTo : PagesView → List ℕ → ℕ → Type 0
ComesTo v [] page = page ≡ v.free
ComesTo v (n ∷ earlier) page = ComesTo v earlier n × (n ≢ 0) × (free_link n (v.page n) ≡ Some page)

-- At most so many pages were taken, whatever the free chain is: as it leads, and at its end those that were never taken.
pub record TakesAlong (most : ℕ) (old new : PagesView) : Type 0 where
  -- the free pages that were taken, the last one first
  pub passed : List ℕ
  pub comes : ComesTo old passed new.free
  pub grows : old.fresh ≤ new.fresh
  pub ended : new.free ≢ 0 → new.fresh ≡ old.fresh
  pub few : length passed + new.fresh ≤ old.fresh + most
  -- A page that changed is no free one in form, and was none but where it was taken.
  pub changed : (n : ℕ) → (new.page n ≡ old.page n) ⊎ (IsNoFree new n × (IsNoFree old n ⊎ (Among passed n ⊎ IsTakenSince old new n)))

-- One of at most so many takes meets damage at this page, whatever the free chain is: the chain comes to its end there and the pages that were never
-- taken are used up, or to a page that isn't a free one in form, or to one that it came through before.
pub record TakeMeets (most : ℕ) (v : PagesView) (page : ℕ) : Type 0 where
  -- the free pages that were taken before, the last one first, and how many behind them that never were
  pub passed : List ℕ
  pub newly : ℕ
  pub few : length passed + newly < most
  pub comes : ComesTo v passed page
  pub broken : ((page ≡ 0) × (v.fresh + newly ≡ 4294967295)) ⊎ ((page ≢ 0) × (IsNoFree v page ⊎ Among passed page))
