-- The pairs of the range of a name are no more than the names that begin so.
use Rattle.std.proofs.Common.{◌≡◌, ◌≤◌, ◌-◌, ◌^◌, min, ℕ, suc, Bool, true, false, true≢false, List, [], ◌∷◌, ◌++◌, length, take, drop, map, filter, replicate, refl, sym, ◌∙◌, ap, subst, arith, inl, inr, Option, Some, length-append}
use Rattle.std.specs.Prelude.{Contains, nat_eq, nat_le, ◌==◌, ◌⊎◌, ◌*◌, ◌+◌, slice_index}
use Rattle.std.proofs.lemmas.Bool.{leb-true, or_left, or_right}
use Rattle.gaz_pick.proofs.OrderLemmas.{by_test}
use Rattle.std.specs.List.{flat_map, starts_with}
use Rattle.std.proofs.lemmas.Bool.Decides.{Decides-eqb}
use Rattle.std.proofs.lemmas.List.{length-map, length-replicate, length-take, take_all, take-append-drop, take-append-le}
use Rattle.std.proofs.lemmas.List.Elements.{Contains-append_left, Contains-append_right}
use Rattle.std.proofs.lemmas.Slice.Eq.{starts_is}
use Rattle.std.proofs.Math.Seq.{take-append_seam}
use Rattle.gaz_num.specs.Pieces.{column}
use Rattle.gaz_name.specs.Name.{name_key_of, first_bytes}
use Rattle.gaz_box.specs.Edges.{Edges}
use Rattle.gaz_pick.specs.Asked.{Asked, NameAsked, absent, equals, starts}
use Rattle.gaz_plain.specs.Gazetteer.{Gazetteer, line_with, lines_in}
use Rattle.gaz_num.specs.declared.words.Table.TheVariants.{Alternates}
use Rattle.gaz_page.specs.declared.tree_root.Root.{Root}
use Rattle.gaz_page.specs.Pages.{PagesView}
use Rattle.gaz_leaf.specs.Node.{Pair, key_of}
use Rattle.gaz_keys.specs.Keys.{IsKey, four, text_key}
use Rattle.gaz_keys.specs.Lines.{alternate_text_key, ascii_key, id_at, name_at, named_key}
use Rattle.gaz_keys.specs.Parts.{four_at}
use Rattle.gaz_keys.proofs.Fit.{first_size, id_small}
use Rattle.gaz_rows.specs.Store.{IsStore}
use Rattle.gaz_rows.proofs.Counting.{few_pairs, flat_contains, map_contains, passed, some_rise}
use Rattle.gaz_rows.proofs.RoomPairs.{bytes_of}
use Rattle.gaz_rows.proofs.Members.{head_is_in, tail_is_in}
use Rattle.gaz_rows.proofs.ReindexedLines.{filter_has}
use Rattle.gaz_kin.proofs.Indexed.{range_within}
use Rattle.gaz_plan.specs.Candidates.{alternates_alike, begins_so, front_of, is_alike, most_by, named_candidates, names_alike, reads_for, rows_alike}
use Rattle.gaz_plan.specs.Gathered.{HavePlaces, alternates_among, by_alternate, candidates_of, is_alternate}
use Rattle.gaz_plan.specs.Searched.{place_named}
use Rattle.gaz_plan.specs.Ways.{number_at}
use Rattle.gaz_plan.specs.declared.gather.Candidate.{Candidate}
use Rattle.gaz_plan.specs.Wanted.{fits_other, greatest_front, least_front, wanted_of}
use Rattle.gaz_plan.proofs.Counted.{count_made}
use Rattle.gaz_plan.proofs.FewRows.{each_tagged}
use Rattle.gaz_plan.proofs.Gathering.{candidate_other, candidate_own, led_from, none_some, some_is}
use Rattle.gaz_plan.proofs.Naming.{alternate_read, named_keys, place_read, source_read, text_tag}
use Rattle.gaz_plan.proofs.Numbers.{key_bytes}
use Rattle.gaz_plan.proofs.Sought.{alternate_found}
use Rattle.gaz_kin.proofs.Squeezed.{begins_as}
use Rattle.gaz_plan.proofs.Tagged.{tagged_name}

-- ---- the least and the greatest key begin as the name does

front_short : (name : NameAsked) → length (front_of name) ≤ 22
front_short absent = omega arith
front_short (equals value) = omega (arith, first_size 22 (name_key_of value))
front_short (starts value) = omega (arith, length-take 22 (name_key_of value))

seam : (n : ℕ) (xs ys : List ℕ) → n ≡ length xs → take n (xs ++ ys) ≡ xs
seam n xs ys is = ap (λ k. take k (xs ++ ys)) is ∙ take-append_seam xs ys

low_front : (name : NameAsked) → take (length (front_of name)) (least_front (wanted_of name)) ≡ front_of name
low_front absent = refl
low_front (equals value) = take_all (length (first_bytes 22 (name_key_of value))) (first_bytes 22 (name_key_of value)) (omega arith)
low_front (starts value) = take-append_seam (take 22 (name_key_of value)) (replicate (22 - length (name_key_of value)) 0)

high_front : (name : NameAsked) → take (length (front_of name)) (greatest_front (wanted_of name)) ≡ front_of name
high_front absent = refl
high_front (equals value) = take_all (length (first_bytes 22 (name_key_of value))) (first_bytes 22 (name_key_of value)) (omega arith)
high_front (starts value) =
    let key = name_key_of value in
    let own : take (min (length key) 22) (first_bytes 22 key) ≡ take 22 key = seam (min (length key) 22) (take 22 key) (replicate (22 - length key) 0) (omega (arith, length-take 22 key)) in
    ap (λ front. take (length (take 22 key)) (front ++ replicate (22 - min (length key) 22) 255)) own ∙ take-append_seam (take 22 key) (replicate (22 - min (length key) 22) 255)

least_long : (name : NameAsked) → length (least_front (wanted_of name)) ≡ 22
least_long absent = refl
least_long (equals value) = first_size 22 (name_key_of value)
least_long (starts value) = first_size 22 (name_key_of value)

greatest_long : (name : NameAsked) → length (greatest_front (wanted_of name)) ≡ 22
greatest_long absent = refl
greatest_long (equals value) = first_size 22 (name_key_of value)
greatest_long (starts value) =
    let key = name_key_of value in
    omega (arith, first_size 22 key, length-take (min (length key) 22) (first_bytes 22 key), length-append (take (min (length key) 22) (first_bytes 22 key)) (replicate (22 - min (length key) 22) 255), length-replicate {A = ℕ} (22 - min (length key) 22) 255)

-- the first bytes of a key of a name are the tag and those of the name
text_front : (n : ℕ) (first : List ℕ) (source place alternate : ℕ) → n ≤ length first → take (suc n) (text_key first source place alternate) ≡ 7 ∷ take n first
unfolding text_key
text_front n first source place alternate le = ap (λ front. 7 ∷ front) (take-append-le n first (source ∷ four place ++ four alternate) le)

-- ---- the names for whose keys the pairs are there

module _ (gaz : Gazetteer) (v : PagesView) (root : Root) (stands : IsStore gaz v root) (asked : Asked) where
  abbrev name : NameAsked
  name = asked.name

  abbrev low : List ℕ
  low = text_key (least_front (wanted_of name)) 0 0 0

  abbrev high : List ℕ
  high = text_key (greatest_front (wanted_of name)) 255 (2 ^ 32 - 1) (2 ^ 32 - 1)

  -- a text, and the key by it
  abbrev Entry : Type 0
  Entry = List ℕ × List ℕ

  abbrev row_entries : List ℕ → List Entry
  row_entries row = (column 2 row, named_key row) ∷ (column 3 row, ascii_key row) ∷ []

  abbrev alternate_entry : List ℕ → Entry
  alternate_entry alternate = (column 4 alternate, alternate_text_key alternate)

  rows_texts : (rows : List (List ℕ)) → map (λ (e : Entry). e.0) (flat_map row_entries rows) ≡ flat_map (λ row. column 2 row ∷ column 3 row ∷ []) rows
  rows_texts [] = refl
  rows_texts (row ∷ rows) = ap (λ more. column 2 row ∷ column 3 row ∷ more) (rows_texts rows)

  alternates_texts : (lines : List (List ℕ)) → map (λ (e : Entry). e.0) (map alternate_entry lines) ≡ map (λ alternate. column 4 alternate) lines
  alternates_texts [] = refl
  alternates_texts (line ∷ lines) = ap (λ more. column 4 line ∷ more) (alternates_texts lines)

  abbrev alike : Entry → Bool
  alike e = begins_so name e.0

  abbrev numbers : List Entry → List ℕ
  numbers entries = map (λ (e : Entry). key_of e.1) (filter alike entries)

  numbers_long : (entries : List Entry) → length (numbers entries) ≡ length (filter (begins_so name) (map (λ (e : Entry). e.0) entries))
  numbers_long entries = length-map (filter alike entries) (λ (e : Entry). key_of e.1) ∙ count_made (λ (e : Entry). e.0) (begins_so name) entries

  module _ (low_fits : IsKey low) (high_fits : IsKey high) where
    -- a name whose key lies between these begins so
    begins : (text : List ℕ) (source place alternate : ℕ) → IsKey (text_key (first_bytes 22 (name_key_of text)) source place alternate)
        → key_of low ≤ key_of (text_key (first_bytes 22 (name_key_of text)) source place alternate) → key_of (text_key (first_bytes 22 (name_key_of text)) source place alternate) ≤ key_of high → begins_so name text ≡ true
    begins text source place alternate fits from to =
        let first = first_bytes 22 (name_key_of text) in
        let front = front_of name in
        let n = length front in
        let short = front_short name in
        let own = text_front n first source place alternate (omega (arith, short, first_size 22 (name_key_of text))) in
        let of_low = text_front n (least_front (wanted_of name)) 0 0 0 (omega (arith, short, least_long name)) in
        let of_high = text_front n (greatest_front (wanted_of name)) 255 (2 ^ 32 - 1) (2 ^ 32 - 1) (omega (arith, short, greatest_long name)) in
        let ends = of_low ∙ ap (λ f. 7 ∷ f) (low_front name ∙ sym (high_front name)) ∙ sym of_high in
        let same = begins_as (suc n) low (text_key first source place alternate) high low_fits fits high_fits from to ends in
        let is : take n first ≡ front = ap (drop 1) (sym own ∙ same ∙ of_low) ∙ low_front name in
        (starts_is Decides-eqb first front (starts_with nat_eq first front) refl).1 (drop n first) (sym (take-append-drop n first) ∙ ap (λ f. f ++ drop n first) is)

    -- the key of such a name is counted
    counted : (entries : List Entry) (e : Entry) (key : ℕ) → Contains entries e → alike e ≡ true → key_of e.1 ≡ key → Contains (numbers entries) key
    counted entries e key has is same = subst (Contains (numbers entries)) same (map_contains (λ (f : Entry). key_of f.1) (filter alike entries) e (filter_has alike entries e has is))

    -- A key is of one of the names of a row, and this name begins so.
    record IsOfRow (key : ℕ) : Type 0 where
      row : List ℕ
      there : Contains gaz.rows row
      entry : Entry
      own : Contains (row_entries row) entry
      begun : alike entry ≡ true
      among : is_alike name row ≡ true
      is : key_of entry.1 ≡ key
      from : (is_alternate key ≡ false) × (number_at 24 key ≡ id_at 1 row)

    -- It is of the text of an alternate name, which begins so.
    record IsOfAlternate (key : ℕ) : Type 0 where
      line : List ℕ
      there : Contains gaz.alternates line
      begun : begins_so name (column 4 line) ≡ true
      is : key_of (alternate_text_key line) ≡ key
      from : (is_alternate key ≡ true) × (number_at 28 key ≡ id_at 1 line)

    -- what is read of the key of a row's own name
    own_read : (row first : List ℕ) (source : ℕ) (key : ℕ) → length first ≡ 22 → IsKey (text_key first source (id_at 1 row) 0) → (source == 2) ≡ false → key_of (text_key first source (id_at 1 row) 0) ≡ key
        → (is_alternate key ≡ false) × (number_at 24 key ≡ id_at 1 row)
    own_read row first source key long fits not_two is =
        let back = ap bytes_of (sym is) ∙ key_bytes (text_key first source (id_at 1 row) 0) fits in (
          ap (λ k. slice_index k 23 == 2) back ∙ ap (λ s. s == 2) (source_read first source (id_at 1 row) 0 long) ∙ not_two,
          ap (four_at 24) back ∙ place_read first source (id_at 1 row) 0 long (id_small 1 row),
        )

    other_read : (line first : List ℕ) (place key : ℕ) → length first ≡ 22 → IsKey (text_key first 2 place (id_at 1 line)) → key_of (text_key first 2 place (id_at 1 line)) ≡ key → (is_alternate key ≡ true) × (number_at 28 key ≡ id_at 1 line)
    other_read line first place key long fits is =
        let back = ap bytes_of (sym is) ∙ key_bytes (text_key first 2 place (id_at 1 line)) fits in (
          ap (λ k. slice_index k 23 == 2) back ∙ ap (λ s. s == 2) (source_read first 2 place (id_at 1 line) long),
          ap (four_at 28) back ∙ alternate_read first 2 place (id_at 1 line) long (id_small 1 line),
        )

    each_named : (p : Pair) → Contains (named_keys gaz v root stands asked) p → IsOfRow p.key ⊎ IsOfAlternate p.key
    each_named p has =
        let t = each_tagged gaz v root stands 7 low high low_fits high_fits (text_tag (least_front (wanted_of name)) 0 0 0) (text_tag (greatest_front (wanted_of name)) 255 (2 ^ 32 - 1) (2 ^ 32 - 1)) p has in
        let line = t.line in
        let id = id_at 1 line in
        elim (tagged_name stands.slots t.table line t.key t.among t.has) [
          | inl row ↦
              let there = subst (λ table. Contains (lines_in gaz table) line) row.0 t.there in
              elim row.1 [
                | inl named ↦
                    let begun = begins (column 2 line) 0 id 0 (subst IsKey named t.fits) (subst (λ k. key_of low ≤ key_of k) named t.from) (subst (λ k. key_of k ≤ key_of high) named t.to) in
                    let same = ap key_of (sym named) ∙ t.is in
                    inl (record {
                      row = line;
                      there = there;
                      entry = (column 2 line, named_key line);
                      own = head_is_in (column 2 line, named_key line) ((column 3 line, ascii_key line) ∷ []);
                      begun = begun;
                      among = or_left (begins_so name (column 2 line)) (begins_so name (column 3 line)) begun;
                      is = same;
                      from = own_read line (name_at 2 line) 0 p.key (first_size 22 (name_key_of (column 2 line))) (subst IsKey named t.fits) refl same;
                    })
                | inr ascii ↦
                    let begun = begins (column 3 line) 1 id 0 (subst IsKey ascii t.fits) (subst (λ k. key_of low ≤ key_of k) ascii t.from) (subst (λ k. key_of k ≤ key_of high) ascii t.to) in
                    let same = ap key_of (sym ascii) ∙ t.is in
                    inl (record {
                      row = line;
                      there = there;
                      entry = (column 3 line, ascii_key line);
                      own = tail_is_in (column 2 line, named_key line) ((column 3 line, ascii_key line) ∷ []) (column 3 line, ascii_key line) (head_is_in (column 3 line, ascii_key line) []);
                      begun = begun;
                      among = or_right (begins_so name (column 2 line)) (begins_so name (column 3 line)) begun;
                      is = same;
                      from = own_read line (name_at 3 line) 1 p.key (first_size 22 (name_key_of (column 3 line))) (subst IsKey ascii t.fits) refl same;
                    })
              ]
          | inr other ↦
              let same = ap key_of (sym other.1) ∙ t.is in
              inr (record {
                line = line;
                there = subst (λ table. Contains (lines_in gaz table) line) other.0 t.there;
                begun = begins (column 4 line) 2 (id_at 2 line) id (subst IsKey other.1 t.fits) (subst (λ k. key_of low ≤ key_of k) other.1 t.from) (subst (λ k. key_of k ≤ key_of high) other.1 t.to);
                is = same;
                from = other_read line (name_at 4 line) (id_at 2 line) p.key (first_size 22 (name_key_of (column 4 line))) (subst IsKey other.1 t.fits) same;
              })
        ]

    abbrev of_rows : List ℕ
    of_rows = numbers (flat_map row_entries gaz.rows)

    abbrev of_alternates : List ℕ
    of_alternates = numbers (map alternate_entry gaz.alternates)

    row_counted : (key : ℕ) → IsOfRow key → Contains of_rows key
    row_counted key of = counted (flat_map row_entries gaz.rows) of.entry key (flat_contains row_entries gaz.rows of.row of.entry of.there of.own) of.begun of.is

    alternate_counted : (key : ℕ) → IsOfAlternate key → Contains of_alternates key
    alternate_counted key of =
        counted (map alternate_entry gaz.alternates) (alternate_entry of.line) key (map_contains alternate_entry gaz.alternates of.line of.there) of.begun of.is

    one : (p : Pair) → Contains (named_keys gaz v root stands asked) p → Contains (of_rows ++ of_alternates) p.key
    one p has = elim (each_named p has) [
      | inl of ↦ Contains-append_left of_rows of_alternates p.key (row_counted p.key of)
      | inr of ↦ Contains-append_right of_rows of_alternates p.key (alternate_counted p.key of)
    ]

    alternates_long : length of_alternates ≡ alternates_alike gaz name
    alternates_long = numbers_long (map alternate_entry gaz.alternates) ∙ ap (λ texts. length (filter (begins_so name) texts)) (alternates_texts gaz.alternates)

    pub names_few : length (named_keys gaz v root stands asked) ≤ names_alike gaz name
    names_few =
        let few = few_pairs 0 (2 ^ 256) (named_keys gaz v root stands asked) (of_rows ++ of_alternates) (range_within gaz v root stands (key_of low) (key_of high)) one in
        let rows = numbers_long (flat_map row_entries gaz.rows) ∙ ap (λ texts. length (filter (begins_so name) texts)) (rows_texts gaz.rows) in
        omega (arith, few, rows, alternates_long, length-append of_rows of_alternates)

    pub alternates_few : alternates_among (named_keys gaz v root stands asked) ≤ alternates_alike gaz name
    alternates_few =
        let keys = named_keys gaz v root stands asked in
        let others = filter (λ (p : Pair). is_alternate p.key) keys in
        let few = few_pairs 0 (2 ^ 256) others of_alternates (some_rise (λ (p : Pair). is_alternate p.key) 0 (2 ^ 256) keys (range_within gaz v root stands (key_of low) (key_of high)))
        (λ p has.
        let there = passed (λ (q : Pair). is_alternate q.key) keys p has in
        elim (each_named p there.0) [
          | inl of ↦ absurd (true≢false (sym there.1 ∙ of.from.0))
          | inr of ↦ alternate_counted p.key of
        ]) in
        omega (arith, few, alternates_long)

    -- ---- the places to which they lead

    -- of the rows, and of the alternate names
    abbrev pub alike_places : List ℕ
    alike_places = map (id_at 1) (filter (is_alike name) gaz.rows) ++ map (id_at 2) (filter (λ alternate. begins_so name (column 4 alternate)) gaz.alternates)

    pub places_long : length alike_places ≡ rows_alike gaz name + alternates_alike gaz name
    places_long =
        let rows = filter (is_alike name) gaz.rows in
        let alternates = filter (λ alternate. begins_so name (column 4 alternate)) gaz.alternates in
        let made = count_made (λ alternate. column 4 alternate) (begins_so name) gaz.alternates in
        omega (arith, made, length-append (map (id_at 1) rows) (map (id_at 2) alternates), length-map rows (id_at 1), length-map alternates (id_at 2))

    pub have_places : HavePlaces alike_places (candidates_of gaz asked (named_keys gaz v root stands asked))
    have_places c has =
        let from = led_from gaz asked (named_keys gaz v root stands asked) c has in
        let key = from.0.key in
        let rows = map (id_at 1) (filter (is_alike name) gaz.rows) in
        let alternates = map (id_at 2) (filter (λ alternate. begins_so name (column 4 alternate)) gaz.alternates) in
        elim (each_named from.0 from.1) [
          | inl of ↦
              let same = some_is (record { place = number_at 24 key; by_own = true }) c (sym (candidate_own gaz asked key of.from.0) ∙ from.2) in
              let place : id_at 1 of.row ≡ c.place = sym of.from.1 ∙ ap (λ (e : Candidate). e.place) same in
              Contains-append_left rows alternates c.place (subst (Contains rows) place (map_contains (id_at 1) (filter (is_alike name) gaz.rows) of.row (filter_has (is_alike name) gaz.rows of.row of.there of.among)))
          | inr of ↦
              let found = ap (λ n. line_with Alternates (n ∷ []) gaz) of.from.1 ∙ alternate_found gaz v root stands of.line of.there in
              let leads = ap (λ l. by_alternate (place_named (wanted_of name) asked.lang l)) (sym found) ∙ sym (candidate_other gaz asked key of.from.0) ∙ from.2 in
              let place = of_line of.line c leads in
              Contains-append_right rows alternates c.place
              (subst (Contains alternates) place (map_contains (id_at 2) (filter (λ alternate. begins_so name (column 4 alternate)) gaz.alternates) of.line (filter_has (λ alternate. begins_so name (column 4 alternate)) gaz.alternates of.line of.there of.begun)))
        ]
      where
        of_line : (line : List ℕ) (c : Candidate) → by_alternate (place_named (wanted_of name) asked.lang (Some line)) ≡ Some c → id_at 2 line ≡ c.place
        of_line line c leads =
            by_test (fits_other (wanted_of name) asked.lang line)
            (λ fits. ap (λ (e : Candidate). e.place) (some_is (record { place = id_at 2 line; by_own = false }) c (rw fits at leads)))
            (λ unfit. absurd (none_some c (rw unfit at leads)))

-- of two names of a row, each counted, the row is counted once
rows_twice : (name : NameAsked) (rows : List (List ℕ)) → length (filter (begins_so name) (flat_map (λ row. column 2 row ∷ column 3 row ∷ []) rows)) ≤ 2 * length (filter (is_alike name) rows)
rows_twice name [] = omega arith
rows_twice name (r ∷ rs) = by (begins_so name (column 2 r)) (begins_so name (column 3 r)) refl refl (rows_twice name rs)
  where
    by : (a b : Bool) → begins_so name (column 2 r) ≡ a → begins_so name (column 3 r) ≡ b → length (filter (begins_so name) (flat_map (λ row. column 2 row ∷ column 3 row ∷ []) rs)) ≤ 2 * length (filter (is_alike name) rs)
        → length (filter (begins_so name) (flat_map (λ row. column 2 row ∷ column 3 row ∷ []) (r ∷ rs))) ≤ 2 * length (filter (is_alike name) (r ∷ rs))
    by true true e f le = rw (e, f) (omega (arith, le))
    by true false e f le = rw (e, f) (omega (arith, le))
    by false true e f le = rw (e, f) (omega (arith, le))
    by false false e f le = rw (e, f) (omega (arith, le))

pub names_twice : (gaz : Gazetteer) (name : NameAsked) → names_alike gaz name ≤ 2 * rows_alike gaz name + alternates_alike gaz name
names_twice gaz name = omega (arith, rows_twice name gaz.rows)

-- the most that is read for a name, by whether all names are gathered together
pub most_gathered : (gaz : Gazetteer) (name : NameAsked) (read : ℕ) → (names_alike gaz name ≤ 512 → read ≤ reads_for (rows_alike gaz name + alternates_alike gaz name) 0) → read ≤ reads_for (names_alike gaz name) 0 → read ≤ reads_for (named_candidates gaz name) 0
most_gathered gaz name read together apart =
    by_test (nat_le (names_alike gaz name) 512)
    (λ few. rw few (together (leb-true (names_alike gaz name) 512 few)))
    (λ many. rw many apart)

-- where a name is asked for, the most that is read is by names
pub most_named : (gaz : Gazetteer) (name : NameAsked) → (name ≡ absent → ⊥) → (edges : Option Edges) → most_by gaz name edges ≡ reads_for (named_candidates gaz name) 0
most_named gaz absent named edges = absurd (named refl)
most_named gaz (equals value) named edges = refl
most_named gaz (starts value) named edges = refl
