-- The pairs of a range are no more than the rows for whose keys they are there.
use Rattle.std.proofs.Common.{◌≡◌, ◌<◌, ◌≤◌, ◌+◌, ◌-◌, ◌*◌, ◌^◌, ℕ, true, List, length, map, filter, refl, sym, ◌∙◌, ap, subst, arith}
use Rattle.std.specs.Prelude.{Contains, ◌==◌, ℤ, ◌≤ℤ◌, int_le}
use Rattle.std.proofs.lemmas.Bool.{and_from, eq-eqb}
use Rattle.std.proofs.lemmas.Bool.Decides.{nat_tests}
use Rattle.std.proofs.lemmas.Int.{ints}
use Rattle.std.proofs.lemmas.List.{length-map}
use Rattle.gaz_num.specs.Pieces.{column}
use Rattle.gaz_num.specs.declared.words.Table.{Table}
use Rattle.gaz_box.specs.Edges.{IsWithin, in_range}
use Rattle.gaz_pick.specs.Match.{longitude_of}
use Rattle.gaz_plain.specs.Gazetteer.{Gazetteer, lines_in}
use Rattle.gaz_page.specs.declared.tree_root.Root.{Root}
use Rattle.gaz_page.specs.Pages.{PagesView}
use Rattle.gaz_leaf.specs.Node.{Pair, key_of}
use Rattle.gaz_scan.specs.Ranges.{between}
use Rattle.gaz_keys.specs.Keys.{IsKey, place_key, box_key}
use Rattle.gaz_keys.specs.Parts.{tag_of}
use Rattle.gaz_keys.specs.Lines.{id_at, band_at, east_at, lying_key}
use Rattle.gaz_keys.proofs.Fit.{id_small}
use Rattle.gaz_keys.proofs.KeysFit.{keys_fit, place_key_fits}
use Rattle.gaz_rows.specs.Index.{line_keys}
use Rattle.gaz_rows.specs.Stands.{tag_in}
use Rattle.gaz_rows.specs.Store.{IsStore}
use Rattle.gaz_rows.proofs.Counting.{few_pairs, map_contains}
use Rattle.gaz_rows.proofs.Fit.{keyed}
use Rattle.gaz_rows.proofs.PairsPlaces.{tag_key}
use Rattle.gaz_rows.proofs.ReindexedLines.{filter_has}
use Rattle.gaz_kin.proofs.Indexed.{is_line, each_in, range_within}
use Rattle.gaz_plan.specs.Boxes.{from_antimeridian, is_in_span}
use Rattle.gaz_plan.proofs.Boxed.{longitude_within, latitude_within, band_small, east_small, box_number, box_tag}
use Rattle.gaz_plan.proofs.Sought.{all_rows, tag_between}
use Rattle.gaz_plan.proofs.Tagged.{tagged_row, tagged_lying}

module _ (gaz : Gazetteer) (v : PagesView) (root : Root) (stands : IsStore gaz v root) where
  -- A pair is there for a key of a line, with this tag.
  pub record IsTagged (tag low high : ℕ) (p : Pair) : Type 0 where
    pub table : Table
    pub line : List ℕ
    pub key : List ℕ
    pub there : Contains (lines_in gaz table) line
    pub among : Contains (line_keys stands.slots table line) key
    pub is : key_of key ≡ p.key
    pub fits : IsKey key
    pub has : tag_of key ≡ tag
    pub from : low ≤ key_of key
    pub to : key_of key ≤ high

  -- each pair of a range between two keys with one tag
  pub each_tagged : (tag : ℕ) (low high : List ℕ) → IsKey low → IsKey high → tag_of low ≡ tag → tag_of high ≡ tag
      → (p : Pair) → Contains (between (key_of low) (key_of high) stands.pairs) p → IsTagged tag (key_of low) (key_of high) p
  each_tagged tag low high low_fits high_fits low_tag high_tag p has =
      let inside = each_in gaz v root stands (key_of low) (key_of high) p has in
      let of = inside.of in
      let is = of.is in
      let from = inside.from in
      let to = inside.to in
      let fits = keys_fit of.table (stands.slots (column 1 of.line)) of.line of.key (keyed of.table of.line (is_line gaz v root stands of.table of.line of.there)) of.among in
      record {
        table = of.table;
        line = of.line;
        key = of.key;
        there = of.there;
        among = of.among;
        is = is;
        fits = fits;
        has = sym (tag_key of.key fits) ∙ ap tag_in is ∙ tag_between (key_of low) p.key (key_of high) tag from to (tag_key low low_fits ∙ low_tag) (tag_key high high_fits ∙ high_tag);
        from = omega (arith, is, from);
        to = omega (arith, is, to);
      }

  -- ---- all rows

  place_tag : (id : ℕ) → tag_of (place_key id) ≡ 1
  unfolding place_key
  place_tag id = refl

  pub rows_few : length (all_rows gaz v root stands) ≤ length gaz.rows
  rows_few =
      let low = place_key 0 in
      let high = place_key (2 ^ 32 - 1) in
      let own : List ℕ → ℕ = λ row. key_of (place_key (id_at 1 row)) in
      let few = few_pairs 0 (2 ^ 256) (all_rows gaz v root stands) (map own gaz.rows) (range_within gaz v root stands (key_of low) (key_of high))
      (λ p has.
      let t = each_tagged 1 low high (place_key_fits 0) (place_key_fits (2 ^ 32 - 1)) (place_tag 0) (place_tag (2 ^ 32 - 1)) p has in
      let row = tagged_row stands.slots t.table t.line t.key t.among t.has in
      subst (Contains (map own gaz.rows)) (ap key_of (sym row.is) ∙ t.is)
      (map_contains own gaz.rows t.line (subst (λ table. Contains (lines_in gaz table) t.line) row.is_row t.there))) in
      omega (arith, few, length-map gaz.rows own)

  -- ---- rows of a band and a range

  east_back : (a b : ℤ) → IsWithin 180 a → IsWithin 180 b → from_antimeridian a ≤ from_antimeridian b → a ≤ℤ b
  east_back a b a_in b_in le = let a_low = a_in.low in let b_low = b_in.low in omega (arith, ints, a_low, b_low, le)

  up_to : (a b : ℤ) → a ≤ℤ b → int_le a b ≡ true
  up_to a b le = grind (arith, ints, nat_tests, le)

  module _ (band : ℕ) (range : ℤ × ℤ) (band_fits : band < 2 ^ 16) (west_in : IsWithin 180 range.0) (east_in : IsWithin 180 range.1) where
    abbrev low_key : List ℕ
    low_key = box_key band (from_antimeridian range.0) 0

    abbrev high_key : List ℕ
    high_key = box_key band (from_antimeridian range.1) (2 ^ 32 - 1)

    -- a row whose key lies between these lies there
    lies_there : (row : List ℕ) → key_of low_key ≤ key_of (lying_key row) → key_of (lying_key row) ≤ key_of high_key → is_in_span band range row ≡ true
    lies_there row from to =
        let id = id_at 1 row in
        let small = id_small 1 row in
        let band_is : band_at row < 2 ^ 16 = band_small _ (latitude_within row) in
        let east_is : east_at row < 2 ^ 64 = east_small (longitude_of row) (longitude_within row) in
        let number = box_number (band_at row) (east_at row) id band_is east_is small in
        let west_fits = east_small range.0 west_in in
        let east_fits = east_small range.1 east_in in
        let low = box_number band (from_antimeridian range.0) 0 band_fits west_fits (omega arith) in
        let high = box_number band (from_antimeridian range.1) (2 ^ 32 - 1) band_fits east_fits (omega arith) in
        let parts = between_parts band (from_antimeridian range.0) (from_antimeridian range.1) (band_at row) (east_at row) id west_fits east_fits east_is small (omega (arith, from, low, number)) (omega (arith, to, high, number)) in
        and_from (band_at row == band) (in_range range (longitude_of row)) (eq-eqb (band_at row) band parts.0)
        (and_from (int_le range.0 (longitude_of row)) (int_le (longitude_of row) range.1)
        (up_to range.0 (longitude_of row) (east_back range.0 (longitude_of row) west_in (longitude_within row) parts.1.0))
        (up_to (longitude_of row) range.1 (east_back (longitude_of row) range.1 (longitude_within row) east_in parts.1.1)))
      where
        between_parts : (band west east own at id : ℕ) → west < 2 ^ 64 → east < 2 ^ 64 → at < 2 ^ 64 → id < 2 ^ 32
            → 8 * 2 ^ 248 + band * 2 ^ 232 + west * 2 ^ 168 + 0 * 2 ^ 136 ≤ 8 * 2 ^ 248 + own * 2 ^ 232 + at * 2 ^ 168 + id * 2 ^ 136
            → 8 * 2 ^ 248 + own * 2 ^ 232 + at * 2 ^ 168 + id * 2 ^ 136 ≤ 8 * 2 ^ 248 + band * 2 ^ 232 + east * 2 ^ 168 + (2 ^ 32 - 1) * 2 ^ 136
            → (own ≡ band) × ((west ≤ at) × (at ≤ east))
        between_parts band west east own at id west_fits east_fits at_fits small from to =
            let same : own ≡ band = omega (arith, west_fits, east_fits, at_fits, small, from, to) in
            (same, (omega (arith, same, small, from), omega (arith, same, small, to)))

    pub span_few : IsKey low_key → IsKey high_key → length (between (key_of low_key) (key_of high_key) stands.pairs) ≤ length (filter (is_in_span band range) gaz.rows)
    span_few low_fits high_fits =
        let inside = filter (is_in_span band range) gaz.rows in
        let own : List ℕ → ℕ = λ row. key_of (lying_key row) in
        let few = few_pairs 0 (2 ^ 256) (between (key_of low_key) (key_of high_key) stands.pairs) (map own inside) (range_within gaz v root stands (key_of low_key) (key_of high_key))
        (λ p has.
        let t = each_tagged 8 low_key high_key low_fits high_fits (box_tag band (from_antimeridian range.0) 0) (box_tag band (from_antimeridian range.1) (2 ^ 32 - 1)) p has in
        let row = tagged_lying stands.slots t.table t.line t.key t.among t.has in
        let from = t.from in
        let to = t.to in
        let same = ap key_of row.is in
        subst (Contains (map own inside)) (sym same ∙ t.is)
        (map_contains own inside t.line (filter_has (is_in_span band range) gaz.rows t.line (subst (λ table. Contains (lines_in gaz table) t.line) row.is_row t.there) (lies_there t.line (omega (arith, from, same)) (omega (arith, to, same)))))) in
        omega (arith, few, length-map inside own)
