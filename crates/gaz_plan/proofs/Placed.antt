-- Rows at their places, and that the lines of a gazetteer are accepted.
use Rattle.std.proofs.Common.{◌≡◌, ◌<◌, ◌^◌, ℕ, true, List, [], ◌∷◌, sym, ◌∙◌, ap, subst, Some, None, Result, Ok, Err, MatchResult}
use Rattle.std.specs.Prelude.{Contains, is_err}
use Rattle.gaz_num.specs.Check.{reason_against}
use Rattle.gaz_num.specs.Numbers.{id_in}
use Rattle.gaz_num.specs.Pieces.{column}
use Rattle.gaz_num.specs.declared.words.Kind.{Kind}
use Rattle.gaz_num.specs.declared.words.Kind.TheVariants.{Row, Alt}
use Rattle.gaz_num.specs.declared.words.Reason.{Reason}
use Rattle.gaz_num.specs.declared.words.Table.TheVariants.{Rows, Alternates}
use Rattle.gaz_plain.specs.Gazetteer.{Gazetteer, IsGazetteer, lines_in, line_with}
use Rattle.gaz_plain.proofs.PlacedNames.{found_is}
use Rattle.gaz_page.specs.declared.tree_root.Root.{Root}
use Rattle.gaz_page.specs.Pages.{PagesView}
use Rattle.gaz_tree.specs.Pairs.{lookup}
use Rattle.gaz_keys.specs.Parts.{has_place, tag_of}
use Rattle.gaz_keys.specs.Lines.{id_at, key_at}
use Rattle.gaz_keys.proofs.Fit.{id_small}
use Rattle.gaz_keys.proofs.Tags.{tag_at, tags_differ}
use Rattle.gaz_rows.specs.Found.{IsPlaceOf, IsLineOf}
use Rattle.gaz_rows.specs.Stands.{tag_in}
use Rattle.gaz_rows.specs.Store.{IsStore}
use Rattle.gaz_rows.proofs.PairsPlaces.{pair_there}
use Rattle.gaz_rows.proofs.RoomPairs.{bytes_of, bytes_fit, number_back, tag_back, key_below}
use Rattle.gaz_kin.proofs.Indexed.{is_line, within}
use Rattle.gaz_plan.specs.Searched.{IsRowOf}
use Rattle.gaz_plan.proofs.Numbers.{place_first}

-- what is accepted isn't refused
pub passed : (kind : Kind) (line : List ℕ) (checked : Result ℕ Reason) → reason_against kind line ≡ None
    → MatchResult checked (λ id. (reason_against kind line ≡ None) × (id_in (column 1 line) ≡ Some id)) (λ reason. reason_against kind line ≡ Some reason) → is_err checked ≡ true → ⊥
passed kind line (Ok id) accepted checks err = cc
passed kind line (Err reason) accepted checks err = none_some (sym accepted ∙ checks)
  where
    none_some : None ≡ Some reason → ⊥
    none_some none = cc

-- an alternate name that is found was accepted
pub alternate_accepted : (gaz : Gazetteer) → IsGazetteer gaz → (id : ℕ) (line : List ℕ) → line_with Alternates (id ∷ []) gaz ≡ Some line → reason_against Alt line ≡ None
alternate_accepted gaz is id line at = (found_is (id ∷ []) line gaz.alternates (is.tables Alternates).each at).accepted

module _ (gaz : Gazetteer) (v : PagesView) (root : Root) (stands : IsStore gaz v root) where
  -- a row was accepted
  pub row_accepted : (line : List ℕ) → Contains gaz.rows line → reason_against Row line ≡ None
  row_accepted line there = (is_line gaz v root stands Rows line there).accepted

  module _ (n place : ℕ) (found : lookup n stands.pairs ≡ Some place) (tag : tag_in n ≡ 1) where
    below : n < 2 ^ 256
    below = key_below 0 (2 ^ 256) stands.pairs (record { key = n; value = place }) (within gaz v root stands) (pair_there n place stands.pairs found)

    -- the place of a row's key
    pub is_place : IsPlaceOf v root (bytes_of n) place
    is_place = record {
      is_key = bytes_fit n;
      placed = ap has_place (tag_back n below ∙ tag);
      pairs = stands.pairs;
      top = stands.tree;
      at = subst (λ k. lookup k stands.pairs ≡ Some place) (sym (number_back n below)) found;
    }

    -- the line there is the row
    pub row_of : (line : List ℕ) → IsLineOf gaz (bytes_of n) line → IsRowOf gaz n line
    row_of line of =
        let table = tags_differ of.table Rows (sym (tag_at of.table of.slot line) ∙ ap tag_of of.is ∙ tag_back n below ∙ tag) in
        record {
          there = subst (λ t. Contains (lines_in gaz t) line) table of.there;
          id = place_first (bytes_of n) (id_at 1 line) (id_small 1 line) (sym of.is ∙ ap (λ t. key_at t of.slot line) table);
        }
