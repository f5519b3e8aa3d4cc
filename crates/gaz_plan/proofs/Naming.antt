-- Rows of which a name fits are among those for which the keys of names stand that begin as these do.
use Rattle.std.proofs.Common.{◌≡◌, ◌<◌, ◌≤◌, ◌+◌, ◌-◌, ◌^◌, min, ℕ, true, false, true≢false, List, [], ◌∷◌, ◌++◌, length, take, drop, refl, sym, ◌∙◌, ap, subst, arith, eq-eqb, inl, inr, Option, Some, None}
use Rattle.std.specs.Prelude.{Contains, nat_eq, ◌==◌, ◌||◌, ◌⊎◌, slice_index, if◌then◌else◌}
use Rattle.std.specs.Int.{w32, from_be_bytes}
use Rattle.std.specs.List.{starts_with}
use Rattle.std.proofs.lemmas.Bool.{and_from}
use Rattle.std.proofs.lemmas.Bool.Decides.{Decides-eqb}
use Rattle.std.proofs.lemmas.Slice.Eq.{bytes_eq-Decides, starts_is}
use Rattle.std.proofs.lemmas.Nat.{from_be_bytes-to_be_bytes_4}
use Rattle.std.proofs.lemmas.List.{get_or-append-add}
use Rattle.std.proofs.Math.Seq.{drop-append-add}
use Rattle.gaz_num.proofs.CalendarLemmas.{and_left, and_right}
use Rattle.gaz_num.proofs.ColumnTextLemmas.{column_is_text}
use Rattle.gaz_num.specs.Pieces.{column}
use Rattle.gaz_num.specs.declared.words.Table.{Table}
use Rattle.gaz_num.specs.declared.words.Table.TheVariants.{Rows, Alternates}
use Rattle.gaz_name.specs.Name.{name_key_of, first_bytes}
use Rattle.gaz_row.specs.Row.{id_of}
use Rattle.gaz_pick.specs.Asked.{Asked, NameAsked, absent, equals, starts}
use Rattle.gaz_plain.specs.Gazetteer.{Gazetteer, lines_in, line_with}
use Rattle.gaz_plain.specs.Names.{is_of, counts_in}
use Rattle.gaz_plain.specs.Search.{matches}
use Rattle.gaz_page.specs.declared.tree_root.Root.{Root}
use Rattle.gaz_page.specs.Pages.{PagesView}
use Rattle.gaz_leaf.specs.Node.{Pair, key_of}
use Rattle.gaz_scan.specs.Ranges.{between}
use Rattle.gaz_keys.specs.Keys.{IsKey, four, text_key}
use Rattle.gaz_keys.specs.Parts.{four_at, tag_of}
use Rattle.gaz_keys.specs.Lines.{id_at, name_at, named_key, ascii_key, row_keys, more_keys}
use Rattle.gaz_keys.proofs.Fit.{AreBytes, first_size, first_fits, id_small, line_is_text}
use Rattle.gaz_keys.proofs.KeysFit.{more_fit}
use Rattle.gaz_keys.proofs.NameBytes.{name_fits}
use Rattle.gaz_rows.proofs.RoomPairs.{bytes_of}
use Rattle.gaz_rows.specs.Store.{IsStore}
use Rattle.gaz_rows.proofs.Fit.{keyed}
use Rattle.gaz_rows.proofs.Members.{head_is_in, tail_is_in}
use Rattle.gaz_kin.proofs.Bytes.{AtMost, key_most, most_append, zeros_most, bytes_most, four_least, four_most, first_least, first_most}
use Rattle.gaz_kin.proofs.Indexed.{is_line, pair_in}
use Rattle.gaz_plan.specs.Wanted.{wanted_of, is_nothing, fits, fits_own, fits_as, fits_other, least_front, greatest_front}
use Rattle.gaz_plan.specs.declared.wanted.Test.{Test}
use Rattle.gaz_plan.specs.declared.wanted.Test.TheVariants.{Nothing, Equals, Starts}
use Rattle.gaz_plan.specs.Ways.{number_at, fits_itself, is_named}
use Rattle.gaz_plan.specs.Gathered.{by_alternate, candidates_of, is_alternate, is_gathered}
use Rattle.gaz_plan.specs.Searched.{place_named}
use Rattle.gaz_plan.proofs.Bools.{either, any_has}
use Rattle.gaz_plan.proofs.Gathering.{candidate_other, candidate_own, gathered_from}
use Rattle.gaz_plan.proofs.Matching.{matches_by}
use Rattle.gaz_plan.proofs.Numbers.{key_bytes}
use Rattle.gaz_plan.proofs.Sought.{alternate_found}

-- ---- what is read of a name's key

module _ (first : List ℕ) (source place alternate : ℕ) (long : length first ≡ 22) where
  abbrev rest : List ℕ
  rest = source ∷ four place ++ four alternate

  front_long : length (7 ∷ first) ≡ 23
  front_long = omega (arith, long)

  behind : (n : ℕ) → drop (23 + n) (text_key first source place alternate) ≡ drop n rest
  unfolding text_key
  behind n = ap (λ k. drop (k + n) (7 ∷ first ++ rest)) (sym front_long) ∙ drop-append-add (7 ∷ first) rest n

  pub source_read : slice_index (text_key first source place alternate) 23 ≡ source
  unfolding text_key
  source_read = ap (λ k. slice_index (7 ∷ first ++ rest) (k + 0)) (sym front_long) ∙ get_or-append-add (7 ∷ first) rest 0 0

  pub place_read : place < 2 ^ 32 → four_at 24 (text_key first source place alternate) ≡ place
  place_read small = ap (λ xs. from_be_bytes w32 (take 4 xs)) (behind 1) ∙ from_be_bytes-to_be_bytes_4 place small

  pub alternate_read : alternate < 2 ^ 32 → four_at 28 (text_key first source place alternate) ≡ alternate
  alternate_read small = ap (λ xs. from_be_bytes w32 (take 4 xs)) (behind 5) ∙ from_be_bytes-to_be_bytes_4 alternate small

pub text_tag : (first : List ℕ) (source place alternate : ℕ) → tag_of (text_key first source place alternate) ≡ 7
unfolding text_key
text_tag first source place alternate = refl

-- keys of names compare as their texts do
text_least : (first own : List ℕ) (source place alternate : ℕ) → AtMost first own → key_of (text_key first 0 0 0) ≤ key_of (text_key own source place alternate)
unfolding text_key
text_least first own source place alternate le =
    key_most (text_key first 0 0 0) (text_key own source place alternate)
    (omega arith, most_append first own (0 ∷ four 0 ++ four 0) (source ∷ four place ++ four alternate) le (omega arith, most_append (four 0) (four place) (four 0) (four alternate) (four_least place) (four_least alternate)))

text_most : (own last : List ℕ) (source place alternate : ℕ) → source ≤ 255 → AtMost own last → key_of (text_key own source place alternate) ≤ key_of (text_key last 255 (2 ^ 32 - 1) (2 ^ 32 - 1))
unfolding text_key
text_most own last source place alternate small le =
    key_most (text_key own source place alternate) (text_key last 255 (2 ^ 32 - 1) (2 ^ 32 - 1))
    (omega arith, most_append own last (source ∷ four place ++ four alternate) (255 ∷ four (2 ^ 32 - 1) ++ four (2 ^ 32 - 1)) le (small, most_append (four place) (four (2 ^ 32 - 1)) (four alternate) (four (2 ^ 32 - 1)) (four_most place) (four_most alternate)))

-- ---- texts that fit

most_itself : (xs : List ℕ) → AtMost xs xs
most_itself [] = tt
most_itself (x ∷ xs) = (omega arith, most_itself xs)

-- the first bytes of a key that fits lie between those of the least and of the greatest
fits_between : (test : Test) (text : List ℕ) → AreBytes (name_key_of text) → fits test text ≡ true → AtMost (least_front test) (first_bytes 22 (name_key_of text)) × AtMost (first_bytes 22 (name_key_of text)) (greatest_front test)
fits_between Nothing text bytes is = (zeros_most 22 (first_bytes 22 (name_key_of text)) (first_size 22 (name_key_of text)), bytes_most 22 (first_bytes 22 (name_key_of text)) (first_size 22 (name_key_of text)) (first_fits 22 (name_key_of text) bytes))
fits_between (Equals key) text bytes is =
    let same : name_key_of text ≡ key = (bytes_eq-Decides (name_key_of text) key).0 is in (
      subst (λ k. AtMost (first_bytes 22 key) (first_bytes 22 k)) (sym same) (most_itself (first_bytes 22 key)),
      subst (λ k. AtMost (first_bytes 22 k) (first_bytes 22 key)) (sym same) (most_itself (first_bytes 22 key)),
    )
fits_between (Starts key) text bytes is =
    let more = drop (length key) (name_key_of text) in
    let whole : name_key_of text ≡ key ++ more = (starts_is Decides-eqb (name_key_of text) key (starts_with nat_eq (name_key_of text) key) refl).0 is in (
      subst (λ k. AtMost (first_bytes 22 key) (first_bytes 22 k)) (sym whole) (first_least 22 key more),
      subst (λ k. AtMost (first_bytes 22 k) (greatest_front (Starts key))) (sym whole) (first_most 22 (min (length key) 22) key more refl (subst AreBytes whole bytes)),
    )

module _ (gaz : Gazetteer) (v : PagesView) (root : Root) (stands : IsStore gaz v root) (asked : Asked) where
  abbrev test : Test
  test = wanted_of asked.name

  abbrev pub named_keys : List Pair
  named_keys = between (key_of (text_key (least_front test) 0 0 0)) (key_of (text_key (greatest_front test) 255 (2 ^ 32 - 1) (2 ^ 32 - 1))) stands.pairs

  -- the key of a name of a line that fits
  name_in : (table : Table) (line : List ℕ) (n source place alternate : ℕ) → Contains (lines_in gaz table) line → source ≤ 255 → Contains (more_keys table line) (text_key (name_at n line) source place alternate) → fits test (column n line) ≡ true
      → (value : ℕ) × Contains named_keys (record { key = key_of (text_key (name_at n line) source place alternate); value = value })
  name_in table line n source place alternate there small among fit =
      let bytes : AreBytes (name_key_of (column n line)) = name_fits (column n line) (column_is_text (n - 1) line (line_is_text table line (keyed table line (is_line gaz v root stands table line there)))) in
      let inside = fits_between test (column n line) bytes fit in
      pair_in gaz v root stands (key_of (text_key (least_front test) 0 0 0)) (key_of (text_key (greatest_front test) 255 (2 ^ 32 - 1) (2 ^ 32 - 1))) table line (text_key (name_at n line) source place alternate) there
      (tail_is_in _ (more_keys table line) (text_key (name_at n line) source place alternate) among)
      (text_least (least_front test) (name_at n line) source place alternate inside.0)
      (text_most (name_at n line) (greatest_front test) source place alternate small inside.1)

  -- its parts
  name_key_is : (table : Table) (line : List ℕ) (n source place alternate : ℕ) → Contains (lines_in gaz table) line → Contains (more_keys table line) (text_key (name_at n line) source place alternate) → IsKey (text_key (name_at n line) source place alternate)
  name_key_is table line n source place alternate there among = more_fit table line (text_key (name_at n line) source place alternate) (keyed table line (is_line gaz v root stands table line there)) among

  -- a row whose own name fits
  own_name : (row : List ℕ) (n source : ℕ) → Contains gaz.rows row → (source ≡ 0) ⊎ (source ≡ 1) → Contains (more_keys Rows row) (text_key (name_at n row) source (id_at 1 row) 0) → fits test (column n row) ≡ true → fits_itself asked row ≡ true → is_gathered asked (candidates_of gaz asked named_keys) row ≡ true
  own_name row n source there own among fit itself =
      let first = name_at n row in
      let long = first_size 22 (name_key_of (column n row)) in
      let id = id_at 1 row in
      let key = text_key first source id 0 in
      let small : source ≤ 255 = elim own [ inl zero ↦ omega (arith, zero) | inr one ↦ omega (arith, one) ] in
      let pair = name_in Rows row n source id 0 there small among fit in
      let back = key_bytes key (name_key_is Rows row n source id 0 there among) in
      let source_is : slice_index (bytes_of (key_of key)) 23 ≡ source = ap (λ (k : List ℕ). slice_index k 23) back ∙ source_read first source id 0 long in
      let not_two : is_alternate (key_of key) ≡ false = elim own [ inl zero ↦ ap (λ s. s == 2) (source_is ∙ zero) | inr one ↦ ap (λ s. s == 2) (source_is ∙ one) ] in
      let is : number_at 24 (key_of key) ≡ id_of row = ap (four_at 24) back ∙ place_read first source id 0 long (id_small 1 row) in
      gathered_from gaz asked named_keys (record { key = key_of key; value = pair.0 }) (record { place = number_at 24 (key_of key); by_own = true }) row pair.1 (candidate_own gaz asked (key_of key) not_two)
      (and_from (number_at 24 (key_of key) == id_of row) (fits_itself asked row) (eq-eqb (number_at 24 (key_of key)) (id_of row) is) itself)

  -- a row of which an alternate name fits
  other_name : (row : List ℕ) → is_named gaz asked row ≡ true → is_gathered asked (candidates_of gaz asked named_keys) row ≡ true
  other_name row named =
      let some = any_has (fits_as test asked.lang (id_of row)) gaz.alternates named in
      let line = some.0 in
      let fit = and_right (counts_in asked.lang line) (fits test (column 4 line)) (and_right (is_of (id_of row) line) (fits_other test asked.lang line) some.2) in
      let first = name_at 4 line in
      let long = first_size 22 (name_key_of (column 4 line)) in
      let place = id_at 2 line in
      let id = id_at 1 line in
      let key = text_key first 2 place id in
      let among : Contains (more_keys Alternates line) key = head_is_in key [] in
      let pair = name_in Alternates line 4 2 place id some.1 (omega arith) among fit in
      let back = key_bytes key (name_key_is Alternates line 4 2 place id some.1 among) in
      let two : is_alternate (key_of key) ≡ true = ap (λ s. s == 2) (ap (λ (k : List ℕ). slice_index k 23) back ∙ source_read first 2 place id long) in
      let is : number_at 28 (key_of key) ≡ id = ap (four_at 28) back ∙ alternate_read first 2 place id long (id_small 1 line) in
      let fits_it = and_right (is_of (id_of row) line) (fits_other test asked.lang line) some.2 in
      gathered_from gaz asked named_keys (record { key = key_of key; value = pair.0 }) (record { place = place; by_own = false }) row pair.1
      (candidate_other gaz asked (key_of key) two
      ∙ ap (λ n. by_alternate (place_named test asked.lang (line_with Alternates (n ∷ []) gaz))) is
      ∙ ap (λ l. by_alternate (place_named test asked.lang l)) (alternate_found gaz v root stands line some.1)
      ∙ ap (λ b. by_alternate (if b then Some place else None)) fits_it)
      (and_from (place == id_of row) true (and_left (is_of (id_of row) line) (fits_other test asked.lang line) some.2) refl)

  -- a row of whose own names one fits
  by_own : (lang : Option (List ℕ)) (row : List ℕ) → Contains gaz.rows row → fits_own test lang row ≡ true → fits_itself asked row ≡ true → is_gathered asked (candidates_of gaz asked named_keys) row ≡ true
  by_own None row there own itself =
      either (fits test (column 2 row)) (fits test (column 3 row) || false) (is_gathered asked (candidates_of gaz asked named_keys) row ≡ true) own
      (λ name. own_name row 2 0 there (inl refl) (head_is_in (named_key row) (ascii_key row ∷ row_keys row)) name itself)
      (λ more. either (fits test (column 3 row)) false (is_gathered asked (candidates_of gaz asked named_keys) row ≡ true) more
      (λ ascii. own_name row 3 1 there (inr refl) (tail_is_in (named_key row) (ascii_key row ∷ row_keys row) (ascii_key row) (head_is_in (ascii_key row) (row_keys row))) ascii itself)
      (λ none. absurd (true≢false (sym none))))
  by_own (Some lang) row there own itself = absurd (true≢false (sym own))

  -- Each row that matches has a name there.
  pub match_among : is_nothing test ≡ false → (row : List ℕ) → Contains gaz.rows row → matches gaz asked row ≡ true → is_gathered asked (candidates_of gaz asked named_keys) row ≡ true
  match_among something row there is_one = elim (matches_by gaz asked row is_one) [
    | inl itself ↦
        either (is_nothing test) (fits_own test asked.lang row) (is_gathered asked (candidates_of gaz asked named_keys) row ≡ true) itself
        (λ nothing. absurd (true≢false (sym nothing ∙ something)))
        (λ own. by_own asked.lang row there own itself)
    | inr named ↦ other_name row named
  ]

-- a name is asked for
pub something : (name : NameAsked) → (name ≡ absent → ⊥) → is_nothing (wanted_of name) ≡ false
something name named = by name named
  where
    by : (name : NameAsked) → (name ≡ absent → ⊥) → is_nothing (wanted_of name) ≡ false
    by absent is = absurd (is refl)
    by (equals value) is = refl
    by (starts value) is = refl
