-- The divisions of a path and the country rows of a country, as the range of their keys has them.
use Rattle.std.proofs.Common.{◌≡◌, ◌<◌, ◌≤◌, ◌+◌, ◌-◌, ◌^◌, ℕ, zero, suc, Bool, true, false, List, [], ◌∷◌, ◌++◌, length, take, drop, map, filter, flat_map, refl, sym, ◌∙◌, ap, ap₂, arith, subst, inl, inr, Option, Some, None, length-append}
use Rattle.std.specs.Prelude.{Contains, slice_index, find, codes}
use Rattle.std.proofs.Math.Seq.{take-append_seam}
use Rattle.std.proofs.lemmas.Bool.{and_from, eq-eqb}
use Rattle.std.specs.Int.{w32, to_be_bytes}
use Rattle.std.specs.List.{list_all}
use Rattle.std.specs.Str.{bytes_eq}
use Rattle.std.proofs.lemmas.Slice.Eq.{bytes_eq-Decides}
use Rattle.std.proofs.lemmas.List.{length-map}
use Rattle.gaz_num.proofs.CalendarLemmas.{and_left, and_right}
use Rattle.gaz_num.specs.Pieces.{column}
use Rattle.gaz_num.specs.declared.words.Table.{Table}
use Rattle.gaz_num.specs.declared.words.Table.TheVariants.{Rows, Alternates, Links, Countries, Codes}
use Rattle.gaz_name.specs.Name.{first_bytes}
use Rattle.gaz_row.specs.Row.{id_of}
use Rattle.gaz_parent.specs.Parent.{is_administrative, is_political, is_country_row, code_level, level_of, is_this, path_columns, is_division_of, least, least_other}
use Rattle.gaz_pick.proofs.OrderLemmas.{by_test}
use Rattle.gaz_plain.specs.Gazetteer.{Gazetteer, lines_in}
use Rattle.gaz_plain.specs.Kin.{lists_of}
use Rattle.gaz_plain.specs.Ordered.{IdsRise}
use Rattle.gaz_plain.proofs.Sought.{level_is, found_in}
use Rattle.gaz_plain.proofs.Foremost.{row_at, found_id}
use Rattle.gaz_page.specs.declared.tree_root.Root.{Root}
use Rattle.gaz_page.specs.Pages.{PagesView}
use Rattle.gaz_leaf.specs.Node.{Pair, key_of}
use Rattle.gaz_keys.specs.Keys.{IsKey, text_key, box_key, path_key, reverse_key, division_key}
use Rattle.gaz_keys.specs.Parts.{tag_of, four_at}
use Rattle.gaz_keys.specs.Lines.{id_at, path_to, division_level, division_keys, more_keys, named_key, ascii_key, lying_key, divided_key, row_keys}
use Rattle.gaz_keys.proofs.Fit.{AreBytes, byte_fits, append_fits, number_fits, first_size, id_small}
use Rattle.gaz_keys.proofs.KeysFit.{keys_fit}
use Rattle.gaz_keys.proofs.Tags.{contained, contained_none, tag_for, tag_at, one_of, in_more_keys}
use Rattle.gaz_rows.specs.Index.{Slots, line_keys}
use Rattle.gaz_rows.specs.Store.{IsStore}
use Rattle.gaz_rows.proofs.Counting.{map_contains, few_pairs}
use Rattle.gaz_rows.proofs.Finding.{kept_in}
use Rattle.gaz_rows.proofs.Fit.{keyed}
use Rattle.gaz_rows.proofs.Members.{head_is_in, tail_is_in}
use Rattle.gaz_rows.proofs.Numbers.{same_key}
use Rattle.gaz_kin.specs.declared.ids.Part.TheVariants.{Last}
use Rattle.gaz_kin.specs.Ids.{id_in_key, ids_in}
use Rattle.gaz_kin.specs.Above.{is_above, fits_at, may_be_above}
use Rattle.gaz_kin.specs.Kept.{least_of_all}
use Rattle.gaz_kin.specs.Reads.{is_alike, alike_at}
use Rattle.gaz_kin.proofs.Numbers.{end_added, end_read, end_rest}
use Rattle.gaz_kin.proofs.Indexed.{is_line, each_in, pair_in, range, range_within}
use Rattle.gaz_kin.proofs.Seeking.{first_is_least, as_pairs, has_among, ids_rise}

-- ---- which lines have keys with the tag of divisions

-- The line is a row, and has the key as a division or a country row.
pub record IsDivisionKey (table : Table) (line key : List ℕ) : Type 0 where
  pub is_row : table ≡ Rows
  pub level : ℕ
  pub leveled : division_level line ≡ Some level
  pub is : key ≡ division_key level (first_bytes 26 (path_to level line)) (id_at 1 line)

no_place_tag : (table : Table) → tag_for table ≡ 9 → ⊥
no_place_tag Rows is = omega (arith, is)
no_place_tag Alternates is = omega (arith, is)
no_place_tag Links is = omega (arith, is)
no_place_tag Countries is = omega (arith, is)
no_place_tag Codes is = omega (arith, is)

abbrev IsIfTagged : Table → List ℕ → List ℕ → Type 0
IsIfTagged table line key = tag_of key ≡ 9 → IsDivisionKey table line key

none_tagged : (table : Table) (line key : List ℕ) → Contains [] key → IsIfTagged table line key
none_tagged table line key has = absurd (contained_none key has)

of_division : (line : List ℕ) (level : Option ℕ) (key : List ℕ) → division_level line ≡ level → Contains (division_keys line level) key → IsIfTagged Rows line key
of_division line None key at has = none_tagged Rows line key has
of_division line (Some level) key at has = one_of (IsIfTagged Rows line) _ [] key (λ tag. record { is_row = refl; level = level; leveled = at; is = refl }) (none_tagged Rows line) has

of_more : (table : Table) (line key : List ℕ) → Contains (more_keys table line) key → IsIfTagged table line key
unfolding text_key box_key path_key reverse_key
of_more Rows line key has = in_more_keys (IsIfTagged Rows line) line key (λ tag. absurd (omega (arith, tag))) (λ tag. absurd (omega (arith, tag))) (λ tag. absurd (omega (arith, tag))) (λ tag. absurd (omega (arith, tag))) (λ other. of_division line (division_level line) other refl) has
of_more Alternates line key has = one_of (IsIfTagged Alternates line) _ [] key (λ tag. absurd (omega (arith, tag))) (none_tagged Alternates line) has
of_more Links line key has = one_of (IsIfTagged Links line) _ [] key (λ tag. absurd (omega (arith, tag))) (none_tagged Links line) has
of_more Countries line key has = none_tagged Countries line key has
of_more Codes line key has = none_tagged Codes line key has

pub tagged_division : (slots : Slots) (table : Table) (line key : List ℕ) → Contains (line_keys slots table line) key → tag_of key ≡ 9 → IsDivisionKey table line key
tagged_division slots table line key has tag = elim (contained _ (more_keys table line) key has) [
  | inl same ↦ absurd (no_place_tag table (sym (tag_at table (slots (column 1 line)) line) ∙ ap tag_of same ∙ tag))
  | inr more ↦ of_more table line key more tag
]

-- ---- rows with one path

-- a code of a division is no code of a country
no_country : (code : List ℕ) (n : ℕ) → code_level code ≡ Some n → is_political code ≡ false
no_country code n is =
    by_test (bytes_eq code (codes "ADM1")) (λ one. ap is_political ((bytes_eq-Decides code (codes "ADM1")).0 one)) (λ a.
    by_test (bytes_eq code (codes "ADM2")) (λ two. ap is_political ((bytes_eq-Decides code (codes "ADM2")).0 two)) (λ b.
    by_test (bytes_eq code (codes "ADM3")) (λ three. ap is_political ((bytes_eq-Decides code (codes "ADM3")).0 three)) (λ c.
    by_test (bytes_eq code (codes "ADM4")) (λ four. ap is_political ((bytes_eq-Decides code (codes "ADM4")).0 four)) (λ d.
    absurd (none_some (rw (a, b, c, d) at is))))))
  where
    none_some : None ≡ Some n → ⊥
    none_some none = cc

division_leveled : (other : List ℕ) (n : ℕ) → level_of other ≡ Some n → division_level other ≡ Some n
division_leveled other n is = by_test (is_administrative other)
    (λ yes. let code : code_level (column 8 other) ≡ Some n = rw yes at is in let none = no_country (column 8 other) n code in rw (yes, none) (rw yes at is))
    (λ isnt. absurd (none_some (rw isnt at is)))
  where
    none_some : None ≡ Some n → ⊥
    none_some none = cc

same_texts : (row other : List ℕ) (columns : List ℕ) → list_all (λ n. bytes_eq (column n other) (column n row)) columns ≡ true → flat_map (λ n. column n other ++ 0 ∷ []) columns ≡ flat_map (λ n. column n row ++ 0 ∷ []) columns
same_texts row other [] all = refl
same_texts row other (n ∷ ns) all =
    let here : column n other ≡ column n row = (bytes_eq-Decides (column n other) (column n row)).0 (and_left (bytes_eq (column n other) (column n row)) _ all) in
    ap₂ (λ text rest. (text ++ 0 ∷ []) ++ rest) here (same_texts row other ns (and_right (bytes_eq (column n other) (column n row)) _ all))

-- A row that is above another one is a division of that level with its path up to it.
pub record IsPathed (level : ℕ) (row other : List ℕ) : Type 0 where
  pub leveled : division_level other ≡ Some level
  pub path : path_to level other ≡ path_to level row

pub pathed : (level : ℕ) (row other : List ℕ) → is_above level row other ≡ true → IsPathed level row other
pathed zero row other is =
    let country : is_country_row other ≡ true = and_left (is_country_row other) _ is in
    let same : column 9 other ≡ column 9 row = (bytes_eq-Decides (column 9 other) (column 9 row)).0 (and_right (is_country_row other) _ is) in
    record { leveled = rw country refl; path = ap (λ text. (text ++ 0 ∷ []) ++ []) same }
pathed (suc level) row other is = record {
  leveled = division_leveled other (suc level) (level_is (suc level) (level_of other) (and_left (is_this (suc level) (level_of other)) _ is));
  path = same_texts row other (path_columns (suc level)) (and_right (is_this (suc level) (level_of other)) _ is);
}

pub above_is : (level : ℕ) (row : List ℕ) → 1 ≤ level → is_above level row ≡ is_division_of level row
above_is zero row low = absurd (omega (arith, low))
above_is (suc level) row low = refl

-- its key as such is among its keys
division_among : (slots : Slots) (line : List ℕ) (level : ℕ) → division_level line ≡ Some level → Contains (line_keys slots Rows line) (division_key level (first_bytes 26 (path_to level line)) (id_at 1 line))
division_among slots line level is =
    let own = division_key level (first_bytes 26 (path_to level line)) (id_at 1 line) in
    tail_is_in _ (more_keys Rows line) own
    (tail_is_in (named_key line) (ascii_key line ∷ row_keys line) own (tail_is_in (ascii_key line) (row_keys line) own (tail_is_in (lying_key line) (division_keys line (division_level line) ++ divided_key line ∷ []) own
    (rw is (head_is_in own (divided_key line ∷ []))))))

module _ (gaz : Gazetteer) (v : PagesView) (root : Root) (stands : IsStore gaz v root) (level : ℕ) (low_level : level ≤ 4) (row first : List ℕ) (fits : AreBytes first) (first_is : first ≡ first_bytes 26 (path_to level row)) where
  abbrev pub key : ℕ → List ℕ
  key id = division_key level first id

  -- the pairs of the divisions of this level with the first bytes of the row's path
  abbrev pub divided_range : List Pair
  divided_range = range gaz v root stands (key_of (key 0)) (key_of (key (2 ^ 32 - 1)))

  size : length first ≡ 26
  size = ap length first_is ∙ first_size 26 (path_to level row)

  front_size : length (9 ∷ level ∷ first) ≡ 28
  front_size = omega (arith, size)

  numbered : (id : ℕ) → id < 2 ^ 32 → key_of (key id) ≡ key_of (key 0) + id
  unfolding division_key
  numbered id small = end_added (9 ∷ level ∷ first) front_size id small

  is_key : (id : ℕ) → IsKey (key id)
  unfolding division_key
  is_key id = record {
    size = omega (arith, size, length-append first (to_be_bytes w32 id));
    bytes = byte_fits 9 (level ∷ first ++ to_be_bytes w32 id) (omega arith) (byte_fits level (first ++ to_be_bytes w32 id) (omega (arith, low_level)) (append_fits first (to_be_bytes w32 id) fits (number_fits 4 id)));
  }

  tagged : (id : ℕ) → tag_of (key id) ≡ 9
  unfolding division_key
  tagged id = refl

  id_read : (level : ℕ) (first : List ℕ) (id : ℕ) → length first ≡ 26 → id < 2 ^ 32 → four_at 28 (division_key level first id) ≡ id
  unfolding division_key
  id_read level first id long small = end_read (9 ∷ level ∷ first) (omega (arith, long)) id small

  level_read : (level : ℕ) (first : List ℕ) (id : ℕ) → slice_index (division_key level first id) 1 ≡ level
  unfolding division_key
  level_read level first id = refl

  first_read : (level : ℕ) (first : List ℕ) (id : ℕ) → length first ≡ 26 → take 26 (drop 2 (division_key level first id)) ≡ first
  unfolding division_key
  first_read level first id long = ap (λ n. take n (first ++ to_be_bytes w32 id)) (sym long) ∙ take-append_seam first (to_be_bytes w32 id)

  -- A pair is there for such a row, and has its id.
  pub record IsDivided (p : Pair) : Type 0 where
    pub line : List ℕ
    pub there : Contains gaz.rows line
    pub alike : is_alike level row line ≡ true
    pub at : p.key ≡ key_of (key (id_at 1 line))
    pub id : id_in_key Last p.key ≡ id_at 1 line

  id_there : (id : ℕ) → id < 2 ^ 32 → id_in_key Last (key_of (key id)) ≡ id
  unfolding division_key
  id_there id small = end_rest (9 ∷ level ∷ first) front_size id small

  are_alike : (other : List ℕ) (own : ℕ) → division_level other ≡ Some own → own ≡ level → first_bytes 26 (path_to own other) ≡ first_bytes 26 (path_to level row) → is_alike level row other ≡ true
  are_alike other own leveled same texts =
      and_from (is_this level (division_level other)) (bytes_eq (first_bytes 26 (path_to level other)) (first_bytes 26 (path_to level row)))
      (ap (is_this level) leveled ∙ eq-eqb own level same)
      ((bytes_eq-Decides (first_bytes 26 (path_to level other)) (first_bytes 26 (path_to level row))).1 (ap (λ l. first_bytes 26 (path_to l other)) (sym same) ∙ texts))

  pub each_divided : (p : Pair) → Contains divided_range p → IsDivided p
  each_divided p has =
      let inside = each_in gaz v root stands (key_of (key 0)) (key_of (key (2 ^ 32 - 1))) p has in
      let of = inside.of in
      let from = inside.from in
      let to = inside.to in
      let last = numbered (2 ^ 32 - 1) (omega arith) in
      let id = p.key - key_of (key 0) in
      let small : id < 2 ^ 32 = omega (arith, from, to, last) in
      let own = numbered id small in
      let number : key_of of.key ≡ key_of (key id) = of.is ∙ omega (arith, own, from) in
      let of_fits = keys_fit of.table (stands.slots (column 1 of.line)) of.line of.key (keyed of.table of.line (is_line gaz v root stands of.table of.line of.there)) of.among in
      let same : of.key ≡ key id = same_key of.key (key id) of_fits (is_key id) number in
      let division = tagged_division stands.slots of.table of.line of.key of.among (ap tag_of same ∙ tagged id) in
      let id_is : id ≡ id_at 1 of.line =
      sym (id_read level first id size small) ∙ ap (four_at 28) (sym same ∙ division.is) ∙ id_read division.level (first_bytes 26 (path_to division.level of.line)) (id_at 1 of.line) (first_size 26 (path_to division.level of.line)) (id_small 1 of.line) in
      let at : p.key ≡ key_of (key (id_at 1 of.line)) = sym of.is ∙ number ∙ ap (λ n. key_of (key n)) id_is in
      let own_first = first_bytes 26 (path_to division.level of.line) in
      let level_is : division.level ≡ level = sym (level_read division.level own_first (id_at 1 of.line)) ∙ ap (λ k. slice_index k 1) (sym division.is ∙ same) ∙ level_read level first id in
      let first_of : own_first ≡ first = sym (first_read division.level own_first (id_at 1 of.line) (first_size 26 (path_to division.level of.line))) ∙ ap (λ k. take 26 (drop 2 k)) (sym division.is ∙ same) ∙ first_read level first id size in
      record {
        line = of.line;
        there = subst (λ table. Contains (lines_in gaz table) of.line) division.is_row of.there;
        alike = are_alike of.line division.level division.leveled level_is (first_of ∙ first_is);
        at = at;
        id = ap (id_in_key Last) at ∙ id_there (id_at 1 of.line) (id_small 1 of.line);
      }

  -- Each row that is above has a pair.
  pub division_in : (other : List ℕ) → Contains gaz.rows other → is_above level row other ≡ true → Contains (ids_in Last divided_range) (id_of other)
  division_in other there is =
      let p = pathed level row other is in
      let id = id_of other in
      let small : id < 2 ^ 32 = id_small 1 other in
      let own : division_key level (first_bytes 26 (path_to level other)) id ≡ key id = ap (λ text. division_key level (first_bytes 26 text) id) p.path ∙ ap (λ text. division_key level text id) (sym first_is) in
      let here = numbered id small in
      let last = numbered (2 ^ 32 - 1) (omega arith) in
      let pair = pair_in gaz v root stands (key_of (key 0)) (key_of (key (2 ^ 32 - 1))) Rows other (key id) there (subst (Contains (line_keys stands.slots Rows other)) own (division_among stands.slots other level p.leveled))
      (omega (arith, here)) (omega (arith, here, last, small)) in
      subst (Contains (ids_in Last divided_range)) (id_there id small) (map_contains (λ q. id_in_key Last q.key) divided_range (record { key = key_of (key id); value = pair.0 }) pair.1)

  -- There are no more than rows with such a key.
  pub divided_few : length divided_range ≤ alike_at gaz row level
  divided_few =
      let few = few_pairs 0 (2 ^ 256) divided_range (map (λ line. key_of (key (id_at 1 line))) (filter (is_alike level row) gaz.rows)) (range_within gaz v root stands (key_of (key 0)) (key_of (key (2 ^ 32 - 1))))
      (λ p has.
      let is = each_divided p has in
      subst (Contains (map (λ line. key_of (key (id_at 1 line))) (filter (is_alike level row) gaz.rows))) (sym is.at)
      (map_contains (λ line. key_of (key (id_at 1 line))) (filter (is_alike level row) gaz.rows) is.line (kept_in (is_alike level row) gaz.rows is.line is.there is.alike)))
      in
      omega (arith, few, length-map (filter (is_alike level row) gaz.rows) (λ line. key_of (key (id_at 1 line))))

  -- There are no more than rows.
  pub divided_within : length divided_range ≤ root.counts.rows
  divided_within =
      let few = few_pairs 0 (2 ^ 256) divided_range (map (λ line. key_of (key (id_at 1 line))) gaz.rows) (range_within gaz v root stands (key_of (key 0)) (key_of (key (2 ^ 32 - 1))))
      (λ p has.
      let is = each_divided p has in
      subst (Contains (map (λ line. key_of (key (id_at 1 line))) gaz.rows)) (sym is.at) (map_contains (λ line. key_of (key (id_at 1 line))) gaz.rows is.line is.there))
      in
      let counts = ap (λ c. c.rows) stands.counts in
      omega (arith, few, counts, length-map gaz.rows (λ line. key_of (key (id_at 1 line))))

  -- The ids rise.
  ids_rising : IdsRise (as_pairs (ids_in Last divided_range))
  ids_rising = ids_rise Last (key_of (key 0)) 1 (omega arith) 0 (2 ^ 256) divided_range (range_within gaz v root stands (key_of (key 0)) (key_of (key (2 ^ 32 - 1))))
      (λ p has. let is = each_divided p has in let at = is.at in let own = is.id in let here = numbered (id_at 1 is.line) (id_small 1 is.line) in omega (arith, at, own, here))

  -- The first of them whose row passes a test is the least, where each row that passes is above.
  first_that_passes : (may : List ℕ → Bool) → ((other : List ℕ) → may other ≡ true → is_above level row other ≡ true) → find (fits_at gaz may) (ids_in Last divided_range) ≡ least (map id_of (filter may gaz.rows))
  first_that_passes may above = first_is_least may gaz.rows (stands.is_gazetteer.tables Rows) (ids_in Last divided_range) (record {
    rising = ids_rising;
    all = λ id other at passes.
        let is_id : id_of other ≡ id = found_id id gaz.rows other (row_at id gaz.rows (stands.is_gazetteer.tables Rows).each ∙ at) in
        has_among (ids_in Last divided_range) id (subst (Contains (ids_in Last divided_range)) is_id (division_in other (found_in (id ∷ []) other gaz.rows at) (above other passes)));
  })

  -- The first id of the range whose row is above and is another one is the least.
  pub least_above_is : find (fits_at gaz (may_be_above level row)) (ids_in Last divided_range) ≡ least_other (lists_of gaz) (id_of row) (is_above level row)
  least_above_is = first_that_passes (may_be_above level row) (λ other passes. and_left (is_above level row other) _ passes)

  -- The first whose row is above, were it the row itself, is the least of all.
  pub least_of_all_is : find (fits_at gaz (is_above level row)) (ids_in Last divided_range) ≡ least_of_all (lists_of gaz) (is_above level row)
  least_of_all_is = first_that_passes (is_above level row) (λ other passes. passes)
