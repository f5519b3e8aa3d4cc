-- The country that the table of countries names, and the row with an id.
use Rattle.std.proofs.Common.{◌≡◌, ℕ, false, List, [], ◌∷◌, refl, sym, ap, ap₂, ◌∙◌, Option, Some, None, arith, ◌≤◌, length, take}
use Rattle.std.specs.Prelude.{All, unwrap_or, option_map, option_and_then, ◌==◌}
use Rattle.std.specs.List.{find, list_any}
use Rattle.gaz_num.specs.declared.words.Kind.TheVariants.{Row}
use Rattle.gaz_num.specs.declared.words.Table.TheVariants.{Rows, Countries}
use Rattle.std.specs.Ordering.{is_eq}
use Rattle.std.proofs.lemmas.List.{length-take}
use Rattle.gaz_num.specs.Check.{reason_against}
use Rattle.gaz_num.specs.Pieces.{column}
use Rattle.gaz_plain.proofs.KeyOrder.{All-rest}
use Rattle.gaz_row.specs.Row.{id_of}
use Rattle.gaz_parent.specs.Parent.{is_this, may_be, least_other, names, parent_of}
use Rattle.gaz_parent.specs.Chain.{parent_at, row_with, chain_in, upwards}
use Rattle.gaz_pick.proofs.OrderLemmas.{by_test}
use Rattle.gaz_plain.specs.Gazetteer.{Gazetteer, IsGazetteer, IsLine, key_of, key_cmp, line_at, line_with}
use Rattle.gaz_plain.specs.Kin.{lists_of, chain_of}
use Rattle.gaz_plain.proofs.Foremost.{least_first, find_same, row_at, found_id, place_named, named, other_with, none_with, not_itself, another_with}

-- a line that is found is one of all
pub found_line_is : (key row : List ℕ) (rows : List (List ℕ)) → All (IsLine Row) rows → line_at Rows key rows ≡ Some row → IsLine Row row
found_line_is key row [] are found = cc
found_line_is key row (r ∷ rs) are found =
    by_test (is_eq (key_cmp (key_of Rows r) key))
    (λ here. let is : r ≡ row = ap (λ (o : Option (List ℕ)). unwrap_or o []) (same_some r row (rw here at found)) in rw (← is) (are 0 r (omega arith)))
    (λ other. found_line_is key row rs (All-rest (IsLine Row) r rs are) (rw other at found))
  where
    same_some : (a b : List ℕ) → Some a ≡ Some b → Some a ≡ Some b
    same_some a b same = same

module _ (gaz : Gazetteer) (is : IsGazetteer gaz) where
  -- the row with an id is found by it
  pub with_id : (id : ℕ) → row_with (lists_of gaz) id ≡ line_with Rows (id ∷ []) gaz
  with_id id = row_at id gaz.rows (is.tables Rows).each

  -- and has it
  pub has_id : (id : ℕ) (found : Option (List ℕ)) → line_with Rows (id ∷ []) gaz ≡ found → option_map id_of found ≡ option_map (λ row. id) found
  has_id id None at = refl
  has_id id (Some row) at = ap Some (found_id id gaz.rows row (with_id id ∙ at))

  -- the parent of the row with an id
  pub parent_with : (id : ℕ) (found : Option (List ℕ)) → line_with Rows (id ∷ []) gaz ≡ found → option_and_then (parent_of (lists_of gaz)) found ≡ parent_at (lists_of gaz) id
  parent_with id found at = ap (option_and_then (parent_of (lists_of gaz))) (sym at ∙ sym (with_id id))

  -- a row that is found was accepted
  pub row_accepted : (id : ℕ) (row : List ℕ) → line_with Rows (id ∷ []) gaz ≡ Some row → reason_against Row row ≡ None
  row_accepted id row at = (found_line_is (id ∷ []) row gaz.rows (is.tables Rows).each at).accepted

  -- where a chain begins
  pub begins : (id : ℕ) (found : Option (List ℕ)) → line_with Rows (id ∷ []) gaz ≡ found → chain_of gaz id ≡ upwards 64 (lists_of gaz) [] (option_map (λ row. id) found)
  unfolding chain_in
  begins id found at = ap (λ next. upwards 64 (lists_of gaz) [] next) (ap (option_map id_of) (with_id id ∙ at) ∙ has_id id found at)

  -- no row, no chain
  pub not_live : (id count : ℕ) (out : List ℕ) → count ≤ length out → take count out ≡ chain_of gaz id → line_with Rows (id ∷ []) gaz ≡ None → count ≡ 0
  not_live id count out within written none = omega (arith, within, length-take count out, ap length (written ∙ begins id None none))

  module _ (row : List ℕ) where
    abbrev named_above : Option ℕ
    named_above = least_other (lists_of gaz) (id_of row) (λ other. list_any (names (column 9 row) (id_of other)) gaz.countries)

    named_by : (place : Option ℕ) → place_named (line_with Countries (column 9 row) gaz) ≡ place → named_above ≡ option_map id_of (find (other_with (id_of row) place) gaz.rows)
    named_by place at =
        least_first (may_be (id_of row) (λ other. list_any (names (column 9 row) (id_of other)) gaz.countries)) gaz.rows (is.tables Rows).each (is.tables Rows).rising
        ∙ ap (option_map id_of) (find_same
        (may_be (id_of row) (λ other. list_any (names (column 9 row) (id_of other)) gaz.countries))
        (other_with (id_of row) place)
        (λ other.
        let same : list_any (names (column 9 row) (id_of other)) gaz.countries ≡ is_this (id_of other) place = named (column 9 row) (id_of other) gaz.countries (is.tables Countries).each (is.tables Countries).rising ∙ ap (is_this (id_of other)) at in
        rw same refl)
        gaz.rows)

    -- what the line that was found by the row's country names
    pub place_is : (code : List ℕ) (g : Gazetteer) (found : Option (List ℕ)) (place : Option ℕ) → code ≡ column 9 row → g ≡ gaz → found ≡ line_with Countries code g → place_named found ≡ place → place_named (line_with Countries (column 9 row) gaz) ≡ place
    place_is code g found place same_code same_gaz at ends = ap place_named (ap₂ (λ key lists. line_with Countries key lists) (sym same_code) (sym same_gaz) ∙ sym at) ∙ ends

    -- no place is named
    pub nothing_named : place_named (line_with Countries (column 9 row) gaz) ≡ None → None ≡ named_above
    nothing_named at = sym (named_by None at ∙ ap (option_map id_of) (none_with (id_of row) gaz.rows))

    -- the row itself is
    pub itself_named : place_named (line_with Countries (column 9 row) gaz) ≡ Some (id_of row) → None ≡ named_above
    itself_named at = sym (named_by (Some (id_of row)) at ∙ ap (option_map id_of) (not_itself (id_of row) gaz.rows))

    -- another place is, whose row is this
    pub another_named : (place : ℕ) → place_named (line_with Countries (column 9 row) gaz) ≡ Some place → (place == id_of row) ≡ false → (found : Option (List ℕ)) → line_with Rows (place ∷ []) gaz ≡ found → option_map (λ row. place) found ≡ named_above
    another_named place at differs found is_found =
        sym (named_by (Some place) at
        ∙ ap (option_map id_of) (another_with (id_of row) place differs gaz.rows ∙ with_id place ∙ is_found)
        ∙ has_id place found is_found)
