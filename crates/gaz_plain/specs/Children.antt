-- Which rows may be children, and what was offered of them.
use Rattle.std.specs.Prelude.{◌≡◌, ℕ, Bool, true, ◌&&◌, ◌||◌, not, List, take, Contains}
use Rattle.std.specs.Str.{bytes_eq}
use Rattle.std.specs.List.{list_any}
use Rattle.gaz_num.specs.Pieces.{column}
use Rattle.gaz_row.specs.Row.{id_of}
use Rattle.gaz_tables.specs.declared.link.LinkClass.TheVariants.{Adm, Plain}
use Rattle.gaz_parent.specs.Parent.{is_link, names}
use Rattle.gaz_parent.specs.Chain.{is_child}
use Rattle.gaz_pick.specs.Order.{Pair, holds, in_order}
use Rattle.gaz_pick.specs.Match.{pair_of}
use Rattle.gaz_plain.specs.Gazetteer.{Gazetteer}
use Rattle.gaz_plain.specs.Kin.{lists_of, child_pairs}

-- a link that may be followed leads from the row to the place
abbrev pub is_linked_to : Gazetteer → ℕ → List ℕ → Bool
is_linked_to gaz id row = list_any (is_link Adm (id_of row) id) gaz.links || list_any (is_link Plain (id_of row) id) gaz.links

-- the row has this country
abbrev pub is_of_country : List ℕ → List ℕ → Bool
is_of_country country row = bytes_eq country (column 9 row)

-- one of these lines of countries, with another code than this, names the place for the row's country
abbrev pub is_named_in : List (List ℕ) → ℕ → List ℕ → List ℕ → Bool
is_named_in countries id own row = list_any (λ line. names (column 9 row) id line && not (bytes_eq (column 1 line) own)) countries

-- The first of some pairs of children are held, and those of all that were seen are among these.
pub record HasOffered (gaz : Gazetteer) (id keep : ℕ) (seen : List ℕ → Bool) (held : List Pair) : Type 0 where
  pub offered : List Pair
  pub first : held ≡ take keep (in_order offered)
  pub sound : (pair : Pair) → holds offered pair ≡ true → holds (child_pairs gaz id) pair ≡ true
  pub all : (row : List ℕ) → Contains gaz.rows row → is_child (lists_of gaz) id row ≡ true → seen row ≡ true → holds offered (pair_of row) ≡ true

-- More rows were seen.
abbrev pub SeesMore : Gazetteer → ℕ → ℕ → (List ℕ → Bool) → List Pair → List Pair → Type 0
SeesMore gaz id keep more old new = (seen : List ℕ → Bool) → HasOffered gaz id keep seen old → HasOffered gaz id keep (λ row. seen row || more row) new
