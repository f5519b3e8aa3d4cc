-- What was offered of the rows that were seen.
use Rattle.std.specs.Prelude.{◌≡◌, ℕ, Bool, true, ◌||◌, List, take, Contains}
use Rattle.gaz_pick.specs.Order.{Pair, holds, in_order}
use Rattle.gaz_pick.specs.Match.{pair_of}
use Rattle.gaz_pick.specs.Asked.{Asked}
use Rattle.gaz_plain.specs.Gazetteer.{Gazetteer}
use Rattle.gaz_plain.specs.Search.{matches, matching_pairs}

-- The first of some pairs of rows that match are held, and those of all that were seen are among these.
pub record HasOffered (gaz : Gazetteer) (asked : Asked) (keep : ℕ) (seen : List ℕ → Bool) (held : List Pair) : Type 0 where
  pub offered : List Pair
  pub first : held ≡ take keep (in_order offered)
  pub sound : (pair : Pair) → holds offered pair ≡ true → holds (matching_pairs gaz asked) pair ≡ true
  pub all : (row : List ℕ) → Contains gaz.rows row → matches gaz asked row ≡ true → seen row ≡ true → holds offered (pair_of row) ≡ true

-- More rows were seen.
abbrev pub SeesMore : Gazetteer → Asked → ℕ → (List ℕ → Bool) → List Pair → List Pair → Type 0
SeesMore gaz asked keep more old new = (seen : List ℕ → Bool) → HasOffered gaz asked keep seen old → HasOffered gaz asked keep (λ row. seen row || more row) new
