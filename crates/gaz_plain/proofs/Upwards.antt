-- Each id of a chain has its row, and each pair of children.
use Rattle.std.proofs.Common.{◌≡◌, ℕ, zero, suc, true, true≢false, List, [], ◌∷◌, map, refl, sym, ap, ap₂, subst, ◌∙◌, Option, Some, None, eq-eqb}
use Rattle.std.specs.Prelude.{reverse, unwrap_or, option_map, option_and_then, Contains, ◌==◌, ◌||◌}
use Rattle.std.specs.List.{list_any}
use Rattle.std.proofs.lemmas.Bool.{or_right}
use Rattle.std.proofs.lemmas.Bool.Decides.{Decides-eqb}
use Rattle.gaz_num.specs.declared.words.Table.TheVariants.{Rows}
use Rattle.gaz_row.specs.Row.{id_of}
use Rattle.gaz_parent.specs.Parent.{parent_of}
use Rattle.gaz_parent.specs.Chain.{row_with, parent_at, upwards, is_child}
use Rattle.gaz_parent.proofs.Others.{parents_others}
use Rattle.gaz_pick.specs.Match.{pair_of}
use Rattle.gaz_pick.proofs.OrderLemmas.{by_test}
use Rattle.gaz_plain.specs.Gazetteer.{Gazetteer, IsGazetteer, line_with}
use Rattle.gaz_plain.specs.Kin.{lists_of, chain_of, rows_with, hierarchy_of, children_pairs, children_of}
use Rattle.gaz_plain.proofs.Selected.{cut_has_rows}
use Rattle.gaz_plain.proofs.Climbed.{turned}
use Rattle.gaz_plain.proofs.Sought.{all_found}
use Rattle.gaz_plain.proofs.Named.{has_id, begins}

module _ (gaz : Gazetteer) (is : IsGazetteer gaz) where
  -- There is a row with this id.
  record IsLive (id : ℕ) : Type 0 where
    row : List ℕ
    found : line_with Rows (id ∷ []) gaz ≡ Some row
    has : id_of row ≡ id

  abbrev AreLive : List ℕ → Type 0
  AreLive ids = (id : ℕ) → list_any (λ n. n == id) ids ≡ true → IsLive id

  -- a row is found by its id
  lives : (id : ℕ) (row : List ℕ) → Contains gaz.rows row → id_of row ≡ id → IsLive id
  lives id row at has = record {
    row = row;
    found = ap (λ n. line_with Rows (n ∷ []) gaz) (sym has) ∙ all_found gaz.rows row (is.tables Rows) at;
    has = has;
  }

  -- so a parent has its row
  parent_lives : (found : Option (List ℕ)) (n : ℕ) → option_and_then (parent_of (lists_of gaz)) found ≡ Some n → IsLive n
  parent_lives None n at = cc
  parent_lives (Some row) n at = let other = parents_others (lists_of gaz) row n at in lives n other.0.0 other.0.1 other.0.2

  upwards_live : (most : ℕ) (before : List ℕ) (next : Option ℕ) → ((n : ℕ) → next ≡ Some n → IsLive n) → AreLive (upwards most (lists_of gaz) before next)
  upwards_live zero before next live id there = absurd (true≢false (sym there))
  upwards_live (suc most) before None live id there = absurd (true≢false (sym there))
  upwards_live (suc most) before (Some n) live id there =
      by_test (list_any (λ m. m == n) before)
      (λ met. let nothing : list_any (λ m. m == id) [] ≡ true = rw met at there in absurd (true≢false (sym nothing)))
      (λ new.
      let more = upwards_live most (n ∷ before) (parent_at (lists_of gaz) n) (λ m at. parent_lives (row_with (lists_of gaz) n) m at) id in
      let either : (n == id || list_any (λ m. m == id) (upwards most (lists_of gaz) (n ∷ before) (parent_at (lists_of gaz) n))) ≡ true = rw new at there in
      by_test (n == id)
      (λ same. subst IsLive ((Decides-eqb n id).0 same) (live n refl))
      (λ other. more (rw other at either)))

  first_live : (id : ℕ) (found : Option (List ℕ)) → line_with Rows (id ∷ []) gaz ≡ found → (n : ℕ) → option_map (λ row. id) found ≡ Some n → IsLive n
  first_live id None at n same = cc
  first_live id (Some row) at n same =
      let own : id_of row ≡ id = ap (λ (o : Option ℕ). unwrap_or o 0) (has_id gaz is id (Some row) at) in
      subst IsLive (ap (λ (o : Option ℕ). unwrap_or o 0) same) (record { row = row; found = at; has = own })

  chain_live : (id : ℕ) → AreLive (chain_of gaz id)
  chain_live id = subst AreLive (sym (begins gaz is id (line_with Rows (id ∷ []) gaz) refl)) (upwards_live 64 [] (option_map (λ row. id) (line_with Rows (id ∷ []) gaz)) (first_live id (line_with Rows (id ∷ []) gaz) refl))

  rows_of_ids : (ids : List ℕ) → AreLive ids → map id_of (rows_with gaz ids) ≡ ids
  rows_of_ids [] live = refl
  rows_of_ids (id ∷ ids) live =
      let first = live id (ap (λ b. b || list_any (λ n. n == id) ids) (eq-eqb id id refl)) in
      rw first.found (ap₂ ◌∷◌ first.has (rows_of_ids ids (λ n there. live n (or_right (id == n) (list_any (λ m. m == n) ids) there))))

  pub hierarchies_have_rows : (id : ℕ) → map id_of (hierarchy_of gaz id) ≡ reverse (chain_of gaz id)
  hierarchies_have_rows id = rows_of_ids (reverse (chain_of gaz id)) (λ n there. chain_live id n (sym (turned (λ m. m == n) (chain_of gaz id)) ∙ there))

  pub children_have_rows : (id max : ℕ) → map pair_of (children_of gaz id max) ≡ children_pairs gaz id max
  children_have_rows id max = cut_has_rows gaz (is_child (lists_of gaz) id) 0 max is
