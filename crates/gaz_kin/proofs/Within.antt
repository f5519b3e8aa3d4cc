-- The candidates for children, as the ranges of their keys have them.
use Rattle.std.proofs.Common.{◌≡◌, ◌<◌, ◌≤◌, ◌+◌, ◌-◌, ◌*◌, ◌^◌, ℕ, suc, Bool, true, List, [], ◌∷◌, ◌++◌, length, take, drop, map, filter, flat_map, replicate, refl, sym, ◌∙◌, ap, ap₂, arith, subst, inl, inr, length-append}
use Rattle.std.specs.Prelude.{Contains, ◌==◌, ◌||◌}
use Rattle.std.specs.Int.{w32, to_be_bytes}
use Rattle.std.specs.List.{list_any}
use Rattle.std.proofs.lemmas.Slice.Eq.{bytes_eq-Decides}
use Rattle.std.proofs.lemmas.List.{length-map, length-take, length-replicate, take-append-drop, take-append-le}
use Rattle.std.proofs.Math.Seq.{take-append_seam}
use Rattle.gaz_kin.proofs.Squeezed.{begins_as}
use Rattle.std.proofs.lemmas.List.Elements.{All-take, All-replicate}
use Rattle.gaz_num.specs.Pieces.{column}
use Rattle.gaz_num.specs.Check.{class_in}
use Rattle.gaz_num.specs.declared.words.Table.TheVariants.{Rows, Links}
use Rattle.gaz_name.specs.Name.{first_bytes}
use Rattle.gaz_row.specs.Row.{id_of}
use Rattle.gaz_tables.specs.declared.link.LinkClass.{LinkClass}
use Rattle.gaz_tables.specs.declared.link.LinkClass.TheVariants.{Adm, Plain}
use Rattle.gaz_tables.specs.Keys.{class_number}
use Rattle.gaz_parent.specs.Parent.{is_link, path_columns}
use Rattle.gaz_pick.proofs.OrderLemmas.{by_test}
use Rattle.gaz_plain.specs.Gazetteer.{Gazetteer, lines_in}
use Rattle.gaz_plain.specs.Children.{is_linked_to}
use Rattle.gaz_page.specs.declared.tree_root.Root.{Root}
use Rattle.gaz_page.specs.Pages.{PagesView}
use Rattle.gaz_leaf.specs.Node.{Pair, key_of}
use Rattle.gaz_keys.specs.Front.{IsFront}
use Rattle.gaz_keys.specs.Keys.{IsKey, reverse_key, path_key}
use Rattle.gaz_keys.specs.Parts.{tag_of}
use Rattle.gaz_keys.specs.Lines.{id_at, path_to, more_keys, division_level, division_keys, divided_key, named_key, ascii_key, lying_key, row_keys}
use Rattle.gaz_keys.proofs.Fit.{AreBytes, byte_fits, append_fits, number_fits, zeros_fit, none_fit, first_size, id_small, line_fits, column_fits}
use Rattle.gaz_keys.proofs.KeysFit.{keys_fit}
use Rattle.gaz_keys.proofs.Tags.{contained, contained_none}
use Rattle.gaz_rows.specs.Index.{Slots, line_keys}
use Rattle.gaz_rows.specs.Stands.{tag_in}
use Rattle.gaz_rows.specs.Store.{IsStore}
use Rattle.gaz_rows.proofs.Counting.{map_contains, few_pairs}
use Rattle.gaz_rows.proofs.Fit.{keyed}
use Rattle.gaz_rows.proofs.Members.{head_is_in, tail_is_in}
use Rattle.gaz_rows.proofs.PairsPlaces.{tag_key}
use Rattle.gaz_kin.specs.declared.ids.Part.TheVariants.{Other as other_end, Last}
use Rattle.gaz_kin.specs.Ids.{id_in_key, ids_in}
use Rattle.gaz_kin.specs.Below.{is_one_of, has_beginning}
use Rattle.gaz_kin.proofs.Numbers.{reverse_number, end_rest}
use Rattle.gaz_kin.proofs.Bytes.{AtMost, key_most, most_append, four_least, four_most, first_least, first_most}
use Rattle.gaz_kin.proofs.Indexed.{is_line, each_in, pair_in, range, range_within}
use Rattle.std.proofs.lemmas.Bool.{cases_lt, or_left, or_right}
use Rattle.gaz_rows.proofs.Finding.{kept_in}
use Rattle.gaz_kin.specs.Reads.{leads_to, links_down, begins_alike, rows_alike}
use Rattle.gaz_kin.proofs.Linked.{any_has, is_of, of_is, type_small}
use Rattle.gaz_kin.proofs.Tagged.{tagged_reverse, tagged_path}

-- an id that is there is one of all
pub one_among : (ids : List ℕ) (id : ℕ) → Contains ids id → is_one_of ids id ≡ true
one_among [] id has = absurd (contained_none id has)
one_among (n ∷ ids) id has = elim (contained n ids id has) [
  | inl same ↦ let test : (n == id) ≡ true = grind (arith, same) in rw test refl
  | inr later ↦ let rest = one_among ids id later in by_test (n == id) (λ is. rw is refl) (λ isnt. rw isnt rest)
]

either : (a b : Bool) (P : Type 0) → (a || b) ≡ true → (a ≡ true → P) → (b ≡ true → P) → P
either a b P some one two = by_test a one (λ isnt. two (rw isnt at some))

-- keys by paths compare as their texts do
path_least : (first own : List ℕ) (id : ℕ) → AtMost first own → AtMost (path_key first 0) (path_key own id)
unfolding path_key
path_least first own id le = (omega arith, most_append first own (to_be_bytes w32 0) (to_be_bytes w32 id) le (four_least id))

path_most : (own last : List ℕ) (id : ℕ) → AtMost own last → AtMost (path_key own id) (path_key last (2 ^ 32 - 1))
unfolding path_key
path_most own last id le = (omega arith, most_append own last (to_be_bytes w32 id) (to_be_bytes w32 (2 ^ 32 - 1)) le (four_most id))

path_ends : (own : List ℕ) (id : ℕ) → length own ≡ 27 → id < 2 ^ 32 → id_in_key Last (key_of (path_key own id)) ≡ id
unfolding path_key
path_ends own id long small = end_rest (10 ∷ own) (omega (arith, long)) id small

module _ (gaz : Gazetteer) (v : PagesView) (root : Root) (stands : IsStore gaz v root) where
  -- ---- rows from which a link leads to a place

  module _ (id : ℕ) (id_fits : id < 2 ^ 32) where
    abbrev pub linked_below : List Pair
    linked_below = range gaz v root stands (key_of (reverse_key id 0 0)) (key_of (reverse_key id 1 (2 ^ 32 - 1)))

    low_number : key_of (reverse_key id 0 0) ≡ 4 * 2 ^ 248 + id * 2 ^ 216 + 0 * 2 ^ 208 + 0 * 2 ^ 176
    low_number = reverse_number id 0 0 id_fits (omega arith) (omega arith)

    high_number : key_of (reverse_key id 1 (2 ^ 32 - 1)) ≡ 4 * 2 ^ 248 + id * 2 ^ 216 + 1 * 2 ^ 208 + (2 ^ 32 - 1) * 2 ^ 176
    high_number = reverse_number id 1 (2 ^ 32 - 1) id_fits (omega arith) (omega arith)

    link_below : (class : LinkClass) → class_number class ≤ 1 → (row : List ℕ) → list_any (is_link class (id_of row) id) gaz.links ≡ true → Contains (ids_in other_end linked_below) (id_of row)
    link_below class low row some =
        let one = any_has (is_link class (id_of row) id) gaz.links some in
        let line = one.0 in
        let of = of_is class (id_of row) id line one.2 in
        let child = id_of row in
        let small : child < 2 ^ 32 = id_small 1 row in
        let k = class_number class in
        let own : reverse_key (id_at 1 line) (class_in (column 3 line)) (id_at 2 line) ≡ reverse_key id k child = ap (λ c. reverse_key (id_at 1 line) (class_in (column 3 line)) c) of.child_is ∙ ap₂ (λ p n. reverse_key p n child) of.parent_is of.class_is in
        let number = reverse_number id k child id_fits (omega (arith, low)) small in
        let from = low_number in
        let to = high_number in
        let pair = pair_in gaz v root stands (key_of (reverse_key id 0 0)) (key_of (reverse_key id 1 (2 ^ 32 - 1))) Links line (reverse_key id k child) one.1
        (tail_is_in _ (more_keys Links line) (reverse_key id k child) (subst (λ key. Contains (key ∷ []) (reverse_key id k child)) (sym own) (head_is_in (reverse_key id k child) [])))
        (omega (arith, number, from, low)) (omega (arith, number, to, low, small)) in
        subst (Contains (ids_in other_end linked_below)) (omega (arith, number, small, low)) (map_contains (λ q. id_in_key other_end q.key) linked_below (record { key = key_of (reverse_key id k child); value = pair.0 }) pair.1)

    -- Each of these rows has its id there.
    pub linked_among : (row : List ℕ) → is_linked_to gaz id row ≡ true → is_one_of (ids_in other_end linked_below) (id_of row) ≡ true
    linked_among row is =
        one_among (ids_in other_end linked_below) (id_of row)
        (either (list_any (is_link Adm (id_of row) id) gaz.links) (list_any (is_link Plain (id_of row) id) gaz.links) (Contains (ids_in other_end linked_below) (id_of row)) is
        (link_below Adm (omega arith) row) (link_below Plain (omega arith) row))

    -- They are no more than links.
    pub linked_below_within : length linked_below ≤ root.counts.links
    linked_below_within =
        let few = few_pairs 0 (2 ^ 256) linked_below (map (λ line. key_of (reverse_key (id_at 1 line) (class_in (column 3 line)) (id_at 2 line))) gaz.links)
        (range_within gaz v root stands (key_of (reverse_key id 0 0)) (key_of (reverse_key id 1 (2 ^ 32 - 1)))) one in
        let counts = ap (λ c. c.links) stands.counts in
        omega (arith, few, counts, length-map gaz.links (λ line. key_of (reverse_key (id_at 1 line) (class_in (column 3 line)) (id_at 2 line))))
      where
        one : (p : Pair) → Contains linked_below p → Contains (map (λ line. key_of (reverse_key (id_at 1 line) (class_in (column 3 line)) (id_at 2 line))) gaz.links) p.key
        one p has =
            let inside = each_in gaz v root stands (key_of (reverse_key id 0 0)) (key_of (reverse_key id 1 (2 ^ 32 - 1))) p has in
            let of = inside.of in
            let from = inside.from in
            let to = inside.to in
            let low = low_number in
            let high = high_number in
            let fits = keys_fit of.table (stands.slots (column 1 of.line)) of.line of.key (keyed of.table of.line (is_line gaz v root stands of.table of.line of.there)) of.among in
            let tag : tag_of of.key ≡ 4 = sym (tag_key of.key fits) ∙ ap tag_in of.is ∙ omega (arith, from, to, low, high, id_fits) in
            let reverse = tagged_reverse stands.slots of.table of.line of.key of.among tag in
            subst (Contains (map (λ line. key_of (reverse_key (id_at 1 line) (class_in (column 3 line)) (id_at 2 line))) gaz.links)) (ap key_of (sym reverse.is) ∙ of.is)
            (map_contains (λ line. key_of (reverse_key (id_at 1 line) (class_in (column 3 line)) (id_at 2 line))) gaz.links of.line (subst (λ table. Contains (lines_in gaz table) of.line) reverse.is_link of.there))

    -- They are no more than links that may be followed to the place.
    pub linked_below_few : length linked_below ≤ links_down gaz id
    linked_below_few =
        let few = few_pairs 0 (2 ^ 256) linked_below (map (λ line. key_of (reverse_key (id_at 1 line) (class_in (column 3 line)) (id_at 2 line))) (filter (leads_to id) gaz.links))
        (range_within gaz v root stands (key_of (reverse_key id 0 0)) (key_of (reverse_key id 1 (2 ^ 32 - 1)))) one in
        omega (arith, few, length-map (filter (leads_to id) gaz.links) (λ line. key_of (reverse_key (id_at 1 line) (class_in (column 3 line)) (id_at 2 line))))
      where
        led : (line : List ℕ) → Contains gaz.links line → key_of (reverse_key id 0 0) ≤ key_of (reverse_key (id_at 1 line) (class_in (column 3 line)) (id_at 2 line))
            → key_of (reverse_key (id_at 1 line) (class_in (column 3 line)) (id_at 2 line)) ≤ key_of (reverse_key id 1 (2 ^ 32 - 1)) → leads_to id line ≡ true
        led line there from to =
            let own = reverse_number (id_at 1 line) (class_in (column 3 line)) (id_at 2 line) (id_small 1 line) (type_small (column 3 line)) (id_small 2 line) in
            let low = low_number in
            let high = high_number in
            let p_small = id_small 1 line in
            let k_small = type_small (column 3 line) in
            let c_small = id_small 2 line in
            let parent : id_at 1 line ≡ id = omega (arith, own, from, to, low, high, p_small, k_small, c_small, id_fits) in
            let class_low : class_in (column 3 line) ≤ 1 = omega (arith, own, from, to, low, high, p_small, k_small, c_small, id_fits, parent) in
            elim (cases_lt (class_in (column 3 line)) 1) [
              | inl adm ↦ or_left (is_link Adm (id_at 2 line) id line) (is_link Plain (id_at 2 line) id line) (is_of Adm (id_at 2 line) id line (is_line gaz v root stands Links line there) (omega (arith, adm)) refl parent)
              | inr plain ↦ or_right (is_link Adm (id_at 2 line) id line) (is_link Plain (id_at 2 line) id line) (is_of Plain (id_at 2 line) id line (is_line gaz v root stands Links line there) (omega (arith, plain, class_low)) refl parent)
            ]

        one : (p : Pair) → Contains linked_below p → Contains (map (λ line. key_of (reverse_key (id_at 1 line) (class_in (column 3 line)) (id_at 2 line))) (filter (leads_to id) gaz.links)) p.key
        one p has =
            let inside = each_in gaz v root stands (key_of (reverse_key id 0 0)) (key_of (reverse_key id 1 (2 ^ 32 - 1))) p has in
            let of = inside.of in
            let from = inside.from in
            let to = inside.to in
            let low = low_number in
            let high = high_number in
            let fits = keys_fit of.table (stands.slots (column 1 of.line)) of.line of.key (keyed of.table of.line (is_line gaz v root stands of.table of.line of.there)) of.among in
            let tag : tag_of of.key ≡ 4 = sym (tag_key of.key fits) ∙ ap tag_in of.is ∙ omega (arith, from, to, low, high, id_fits) in
            let reverse = tagged_reverse stands.slots of.table of.line of.key of.among tag in
            let there = subst (λ table. Contains (lines_in gaz table) of.line) reverse.is_link of.there in
            let number = ap key_of (sym reverse.is) ∙ of.is in
            subst (Contains (map (λ line. key_of (reverse_key (id_at 1 line) (class_in (column 3 line)) (id_at 2 line))) (filter (leads_to id) gaz.links))) number
            (map_contains (λ line. key_of (reverse_key (id_at 1 line) (class_in (column 3 line)) (id_at 2 line))) (filter (leads_to id) gaz.links) of.line
            (kept_in (leads_to id) gaz.links of.line there (led of.line there (omega (arith, number, from)) (omega (arith, number, to)))))

  -- ---- rows whose paths begin with a text

  -- a path has bytes
  path_fits : (columns : List ℕ) (line : List ℕ) → AreBytes line → AreBytes (flat_map (λ n. column n line ++ 0 ∷ []) columns)
  path_fits [] line fits = none_fit
  path_fits (n ∷ columns) line fits =
      append_fits (column n line ++ 0 ∷ []) (flat_map (λ n. column n line ++ 0 ∷ []) columns) (append_fits (column n line) (0 ∷ []) (column_fits n line fits) (zeros_fit 1)) (path_fits columns line fits)

  -- the key by its path is among the keys of a row
  path_among : (slots : Slots) (line : List ℕ) → Contains (line_keys slots Rows line) (divided_key line)
  path_among slots line =
      let own = divided_key line in
      tail_is_in _ (more_keys Rows line) own (tail_is_in (named_key line) (ascii_key line ∷ row_keys line) own (tail_is_in (ascii_key line) (row_keys line) own (tail_is_in (lying_key line) (division_keys line (division_level line) ++ own ∷ []) own (behind (division_keys line (division_level line))))))
    where
      behind : (keys : List (List ℕ)) → Contains (keys ++ divided_key line ∷ []) (divided_key line)
      behind [] = head_is_in (divided_key line) []
      behind (key ∷ keys) = tail_is_in key (keys ++ divided_key line ∷ []) (divided_key line) (behind keys)

  module _ (first last : List ℕ) (len : ℕ) (len_low : len ≤ 27) (first_long : length first ≡ 27) (first_fits : AreBytes first) (last_is : last ≡ take len first ++ replicate (27 - len) 255) where
    abbrev pub beginning_range : List Pair
    beginning_range = range gaz v root stands (key_of (path_key first 0)) (key_of (path_key last (2 ^ 32 - 1)))

    path_is_key : (text : List ℕ) (id : ℕ) → length text ≡ 27 → AreBytes text → IsKey (path_key text id)
    unfolding path_key
    path_is_key text id long fits = record {
      size = omega (arith, long, length-append text (to_be_bytes w32 id));
      bytes = byte_fits 10 (text ++ to_be_bytes w32 id) (omega arith) (append_fits text (to_be_bytes w32 id) fits (number_fits 4 id));
    }

    path_tag : (text : List ℕ) (id : ℕ) → tag_of (path_key text id) ≡ 10
    unfolding path_key
    path_tag text id = refl

    last_long : length last ≡ 27
    last_long = ap length last_is ∙ omega (arith, len_low, first_long, length-append (take len first) (replicate (27 - len) 255), length-take len first, length-replicate {A = ℕ} (27 - len) 255)

    last_fits : AreBytes last
    last_fits = subst AreBytes (sym last_is) (append_fits (take len first) (replicate (27 - len) 255) (All-take (λ byte. byte < 256) len first first_fits) (All-replicate (λ byte. byte < 256) (27 - len) 255 (omega arith)))

    -- They are no more than rows.
    pub beginning_within : length beginning_range ≤ root.counts.rows
    beginning_within =
        let few = few_pairs 0 (2 ^ 256) beginning_range (map (λ line. key_of (divided_key line)) gaz.rows) (range_within gaz v root stands (key_of (path_key first 0)) (key_of (path_key last (2 ^ 32 - 1)))) one in
        let counts = ap (λ c. c.rows) stands.counts in
        omega (arith, few, counts, length-map gaz.rows (λ line. key_of (divided_key line)))
      where
        one : (p : Pair) → Contains beginning_range p → Contains (map (λ line. key_of (divided_key line)) gaz.rows) p.key
        one p has =
            let inside = each_in gaz v root stands (key_of (path_key first 0)) (key_of (path_key last (2 ^ 32 - 1))) p has in
            let of = inside.of in
            let from = inside.from in
            let to = inside.to in
            let low = tag_key (path_key first 0) (path_is_key first 0 first_long first_fits) ∙ path_tag first 0 in
            let high = tag_key (path_key last (2 ^ 32 - 1)) (path_is_key last (2 ^ 32 - 1) last_long last_fits) ∙ path_tag last (2 ^ 32 - 1) in
            let fits = keys_fit of.table (stands.slots (column 1 of.line)) of.line of.key (keyed of.table of.line (is_line gaz v root stands of.table of.line of.there)) of.among in
            let tag : tag_of of.key ≡ 10 = sym (tag_key of.key fits) ∙ ap tag_in of.is ∙ tag_between (key_of (path_key first 0)) p.key (key_of (path_key last (2 ^ 32 - 1))) from to low high in
            let path = tagged_path stands.slots of.table of.line of.key of.among tag in
            subst (Contains (map (λ line. key_of (divided_key line)) gaz.rows)) (ap key_of (sym path.is) ∙ of.is)
            (map_contains (λ line. key_of (divided_key line)) gaz.rows of.line (subst (λ table. Contains (lines_in gaz table) of.line) path.is_row of.there))
          where
            tag_between : (a b c : ℕ) → a ≤ b → b ≤ c → tag_in a ≡ 10 → tag_in c ≡ 10 → tag_in b ≡ 10
            tag_between a b c from to low high = omega (arith, from, to, low, high)

    front_of : (text : List ℕ) (id : ℕ) → length text ≡ 27 → take (suc len) (path_key text id) ≡ 10 ∷ take len text
    unfolding path_key
    front_of text id long = ap (λ rest. 10 ∷ rest) (take-append-le len text (to_be_bytes w32 id) (omega (arith, len_low, long)))

    last_front : take len last ≡ take len first
    last_front =
        let own : length (take len first) ≡ len = omega (arith, len_low, first_long, length-take len first) in
        ap (take len) last_is ∙ ap (λ n. take n (take len first ++ replicate (27 - len) 255)) (sym own) ∙ take-append_seam (take len first) (replicate (27 - len) 255)

    module _ (text : List ℕ) (front : IsFront 27 text first len) where
      text_front : take len first ≡ take 27 text
      text_front =
          let long : len ≡ length (take 27 text) = omega (arith, front.own, length-take 27 text) in
          ap (take len) front.are ∙ ap (λ n. take n (first_bytes 27 text)) long ∙ take-append_seam (take 27 text) (replicate (27 - length text) 0)

      alike : (row : List ℕ) → take len (first_bytes 27 (path_to 4 row)) ≡ take len first → begins_alike text row ≡ true
      alike row same =
          let long : length (take 27 text) ≡ len = omega (arith, front.own, length-take 27 text) in
          (bytes_eq-Decides (take (length (take 27 text)) (first_bytes 27 (path_to 4 row))) (take 27 text)).1
          (ap (λ n. take n (first_bytes 27 (path_to 4 row))) long ∙ same ∙ text_front)

      -- They are no more than rows whose paths begin so.
      pub beginning_few : length beginning_range ≤ rows_alike gaz text
      beginning_few =
          let few = few_pairs 0 (2 ^ 256) beginning_range (map (λ line. key_of (divided_key line)) (filter (begins_alike text) gaz.rows)) (range_within gaz v root stands (key_of (path_key first 0)) (key_of (path_key last (2 ^ 32 - 1)))) one in
          omega (arith, few, length-map (filter (begins_alike text) gaz.rows) (λ line. key_of (divided_key line)))
        where
          tag_between : (a b c : ℕ) → a ≤ b → b ≤ c → tag_in a ≡ 10 → tag_in c ≡ 10 → tag_in b ≡ 10
          tag_between a b c from to low high = omega (arith, from, to, low, high)

          one : (p : Pair) → Contains beginning_range p → Contains (map (λ line. key_of (divided_key line)) (filter (begins_alike text) gaz.rows)) p.key
          one p has =
              let inside = each_in gaz v root stands (key_of (path_key first 0)) (key_of (path_key last (2 ^ 32 - 1))) p has in
              let of = inside.of in
              let from = inside.from in
              let to = inside.to in
              let low_is = path_is_key first 0 first_long first_fits in
              let high_is = path_is_key last (2 ^ 32 - 1) last_long last_fits in
              let low = tag_key (path_key first 0) low_is ∙ path_tag first 0 in
              let high = tag_key (path_key last (2 ^ 32 - 1)) high_is ∙ path_tag last (2 ^ 32 - 1) in
              let fits = keys_fit of.table (stands.slots (column 1 of.line)) of.line of.key (keyed of.table of.line (is_line gaz v root stands of.table of.line of.there)) of.among in
              let tag : tag_of of.key ≡ 10 = sym (tag_key of.key fits) ∙ ap tag_in of.is ∙ tag_between (key_of (path_key first 0)) p.key (key_of (path_key last (2 ^ 32 - 1))) from to low high in
              let path = tagged_path stands.slots of.table of.line of.key of.among tag in
              let there = subst (λ table. Contains (lines_in gaz table) of.line) path.is_row of.there in
              let number = ap key_of (sym path.is) ∙ of.is in
              let number_is = of.is in
              let ends : take (suc len) (path_key first 0) ≡ take (suc len) (path_key last (2 ^ 32 - 1)) = front_of first 0 first_long ∙ ap (λ rest. 10 ∷ rest) (sym last_front) ∙ sym (front_of last (2 ^ 32 - 1) last_long) in
              let begins = begins_as (suc len) (path_key first 0) of.key (path_key last (2 ^ 32 - 1)) low_is fits high_is (omega (arith, number_is, from)) (omega (arith, number_is, to)) ends in
              let own = first_bytes 27 (path_to 4 of.line) in
              let same : take len own ≡ take len first = ap (drop 1) (sym (front_of own (id_at 1 of.line) (first_size 27 (path_to 4 of.line))) ∙ ap (take (suc len)) (sym path.is) ∙ begins ∙ front_of first 0 first_long) in
              subst (Contains (map (λ line. key_of (divided_key line)) (filter (begins_alike text) gaz.rows))) number
              (map_contains (λ line. key_of (divided_key line)) (filter (begins_alike text) gaz.rows) of.line (kept_in (begins_alike text) gaz.rows of.line there (alike of.line same)))

      -- Each row whose path begins with the text has its id there.
      pub beginning_among : (row : List ℕ) → Contains gaz.rows row → has_beginning text row ≡ true → is_one_of (ids_in Last beginning_range) (id_of row) ≡ true
      beginning_among row there is =
          let path = path_to 4 row in
          let rest = drop (length text) path in
          let begins : take (length text) path ≡ text = (bytes_eq-Decides (take (length text) path) text).0 is in
          let whole : path ≡ text ++ rest = sym (take-append-drop (length text) path) ∙ ap (λ t. t ++ rest) begins in
          let fits : AreBytes path = path_fits (path_columns 4) row (line_fits Rows row (keyed Rows row (is_line gaz v root stands Rows row there))) in
          let own = first_bytes 27 path in
          let least : AtMost first own = subst (λ f. AtMost f own) (sym front.are) (subst (λ p. AtMost (first_bytes 27 text) (first_bytes 27 p)) (sym whole) (first_least 27 text rest)) in
          let most : AtMost own last =
          subst (AtMost own) (ap (λ f. take len f ++ replicate (27 - len) 255) (sym front.are) ∙ sym last_is)
          (subst (λ p. AtMost (first_bytes 27 p) (take len (first_bytes 27 text) ++ replicate (27 - len) 255)) (sym whole) (first_most 27 len text rest front.own (subst AreBytes whole fits))) in
          let id = id_of row in
          let pair = pair_in gaz v root stands (key_of (path_key first 0)) (key_of (path_key last (2 ^ 32 - 1))) Rows row (divided_key row) there (path_among stands.slots row)
          (key_most (path_key first 0) (divided_key row) (path_least first own id least)) (key_most (divided_key row) (path_key last (2 ^ 32 - 1)) (path_most own last id most)) in
          one_among (ids_in Last beginning_range) id
          (subst (Contains (ids_in Last beginning_range)) (path_ends own id (first_size 27 path) (id_small 1 row)) (map_contains (λ q. id_in_key Last q.key) beginning_range (record { key = key_of (divided_key row); value = pair.0 }) pair.1))
