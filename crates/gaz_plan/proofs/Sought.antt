-- The rows that match are among those for which the keys of a range stand.
use Rattle.std.proofs.Common.{◌≡◌, ◌≤◌, ◌-◌, ◌^◌, ℕ, Bool, true, false, List, [], ◌∷◌, length, refl, sym, ◌∙◌, ap, arith, subst, Some, eq-eqb}
use Rattle.std.specs.Prelude.{Contains, ◌==◌, nat_lt}
use Rattle.std.proofs.lemmas.Bool.{and_from}
use Rattle.gaz_num.specs.Numbers.{id_in}
use Rattle.gaz_num.specs.Pieces.{column}
use Rattle.gaz_num.specs.declared.words.Table.TheVariants.{Rows, Alternates}
use Rattle.gaz_alt.proofs.AcceptedLemmas.{accepted}
use Rattle.gaz_row.specs.Row.{id_of}
use Rattle.gaz_pick.specs.Asked.{Asked}
use Rattle.gaz_plain.specs.Gazetteer.{Gazetteer, key_of as line_key_of, line_at, line_with}
use Rattle.gaz_plain.proofs.Selected.{keyed, found_by_key}
use Rattle.gaz_page.specs.declared.tree_root.Root.{Root}
use Rattle.gaz_page.specs.Pages.{PagesView}
use Rattle.gaz_leaf.specs.Node.{Pair, key_of}
use Rattle.gaz_scan.specs.Ranges.{between}
use Rattle.gaz_keys.specs.Keys.{IsKey, place_key}
use Rattle.gaz_keys.specs.Parts.{tag_of}
use Rattle.gaz_keys.specs.Lines.{id_at, more_keys}
use Rattle.gaz_keys.proofs.Fit.{id_small}
use Rattle.gaz_rows.specs.Stands.{tag_in}
use Rattle.gaz_rows.specs.Store.{IsStore}
use Rattle.gaz_rows.proofs.Members.{head_is_in}
use Rattle.gaz_rows.proofs.PairsPlaces.{tag_key}
use Rattle.gaz_rows.proofs.Room.{tree_not_full}
use Rattle.gaz_kin.proofs.Indexed.{is_line, each_in, found_in, pair_in}
use Rattle.gaz_plan.specs.Ways.{number_at, fits_itself, stands_for, is_among}
use Rattle.gaz_plan.specs.declared.walk.Way.TheVariants.{Row}
use Rattle.gaz_plan.specs.Searched.{AreOf}
use Rattle.gaz_plan.proofs.Bools.{has_any}
use Rattle.gaz_plan.proofs.Numbers.{place_number, row_id}

-- ---- the pairs of a range

between_few : (low high : ℕ) (ps : List Pair) → length (between low high ps) ≤ length ps
between_few low high [] = omega arith
between_few low high (p ∷ ps) = by (nat_lt p.key low) (nat_lt high p.key) refl refl (between_few low high ps)
  where
    by : (less more : Bool) → nat_lt p.key low ≡ less → nat_lt high p.key ≡ more → length (between low high ps) ≤ length ps → length (between low high (p ∷ ps)) ≤ length (p ∷ ps)
    by true more e f le = rw e (omega (arith, le))
    by false true e f le = rw (e, f) (omega (arith, le))
    by false false e f le = rw (e, f) (omega (arith, le))

pub tag_between : (a b c tag : ℕ) → a ≤ b → b ≤ c → tag_in a ≡ tag → tag_in c ≡ tag → tag_in b ≡ tag
tag_between a b c tag from to low high = omega (arith, from, to, low, high)

module _ (gaz : Gazetteer) (v : PagesView) (root : Root) (stands : IsStore gaz v root) where
  -- the pairs between two keys of one tag
  pub are_between : (tag : ℕ) (low high : List ℕ) → IsKey low → IsKey high → tag_of low ≡ tag → tag_of high ≡ tag → AreOf tag stands.pairs (between (key_of low) (key_of high) stands.pairs)
  are_between tag low high low_fits high_fits low_tag high_tag =
      let few = between_few (key_of low) (key_of high) stands.pairs in
      let all = tree_not_full [] gaz v root stands in
      record {
        found = found_in gaz v root stands (key_of low) (key_of high);
        tagged = λ p has.
            let inside = each_in gaz v root stands (key_of low) (key_of high) p has in
            tag_between (key_of low) p.key (key_of high) tag inside.from inside.to (tag_key low low_fits ∙ low_tag) (tag_key high high_fits ∙ high_tag);
        few = omega (arith, few, all);
      }

  -- ---- all rows, and all alternate names

  abbrev pub all_rows : List Pair
  all_rows = between (key_of (place_key 0)) (key_of (place_key (2 ^ 32 - 1))) stands.pairs

  pub row_among : (asked : Asked) (row : List ℕ) → Contains gaz.rows row → fits_itself asked row ≡ true → is_among asked Row all_rows row ≡ true
  row_among asked row there fits =
      let id = id_at 1 row in
      let small = id_small 1 row in
      let number = place_number id small in
      let low = place_number 0 (omega arith) in
      let high = place_number (2 ^ 32 - 1) (omega arith) in
      let pair = pair_in gaz v root stands (key_of (place_key 0)) (key_of (place_key (2 ^ 32 - 1))) Rows row (place_key id) there (head_is_in (place_key id) (more_keys Rows row))
      (omega (arith, number, low)) (omega (arith, number, high, small)) in
      let is : number_at 1 (key_of (place_key id)) ≡ id_of row = row_id id small in
      has_any (λ p. stands_for asked Row p.key row) all_rows (record { key = key_of (place_key id); value = pair.0 }) pair.1
      (and_from (number_at 1 (key_of (place_key id)) == id_of row) (fits_itself asked row) (eq-eqb (number_at 1 (key_of (place_key id))) (id_of row) is) fits)

  -- an alternate name is found by its id
  pub alternate_found : (line : List ℕ) → Contains gaz.alternates line → line_with Alternates (id_at 1 line ∷ []) gaz ≡ Some line
  alternate_found line at =
      let table = stands.is_gazetteer.tables Alternates in
      let key : line_key_of Alternates line ≡ id_at 1 line ∷ [] = keyed (id_in (column 1 line)) (accepted line (is_line gaz v root stands Alternates line at).accepted).id in
      ap (λ k. line_at Alternates k gaz.alternates) (sym key)
      ∙ subst (λ l. line_at Alternates (line_key_of Alternates l) gaz.alternates ≡ Some l) at.2 (found_by_key Alternates gaz.alternates at.0 line table.rising at.1)
