-- The countries, as the range of their keys has them.
use Rattle.std.proofs.Common.{◌≡◌, ◌<◌, ◌≤◌, ◌+◌, ◌^◌, ℕ, true, false, true≢false, List, [], ◌∷◌, ◌++◌, length, map, replicate, refl, sym, ◌∙◌, ap, arith, subst, inl, inr, eq-eqb, Some}
use Rattle.std.specs.Prelude.{Contains, ◌==◌, ◌&&◌, ◌||◌}
use Rattle.std.specs.List.{list_any}
use Rattle.std.specs.Str.{bytes_eq}
use Rattle.std.proofs.lemmas.Bool.{eqb-true, or_left, or_right, and_from}
use Rattle.std.proofs.lemmas.List.{length-map, append-nil}
use Rattle.std.proofs.lemmas.Slice.Eq.{bytes_eq-Decides}
use Rattle.gaz_num.proofs.CalendarLemmas.{and_left, and_right}
use Rattle.gaz_num.specs.Numbers.{id_in}
use Rattle.gaz_num.specs.Pieces.{column}
use Rattle.gaz_num.specs.declared.words.Table.TheVariants.{Countries}
use Rattle.gaz_name.specs.Name.{first_bytes}
use Rattle.gaz_parent.specs.Parent.{is_this, names}
use Rattle.gaz_pick.specs.Order.{Pair as Picked}
use Rattle.gaz_pick.proofs.OrderLemmas.{by_test}
use Rattle.gaz_plain.specs.Gazetteer.{Gazetteer, IsGazetteer, lines_in}
use Rattle.gaz_plain.specs.Children.{SeesMore}
use Rattle.gaz_plain.proofs.Offering.{sees, sees_nothing, sees_both}
use Rattle.gaz_page.specs.declared.tree_root.Root.{Root}
use Rattle.gaz_page.specs.Pages.{PagesView}
use Rattle.gaz_leaf.specs.Node.{Pair, key_of}
use Rattle.gaz_tree.specs.Pairs.{lookup}
use Rattle.gaz_scan.specs.declared.scan.Scan.{Scan}
use Rattle.gaz_scan.specs.Scan.{Comes}
use Rattle.gaz_keys.specs.Keys.{country_key}
use Rattle.gaz_keys.specs.Parts.{tag_of, has_place}
use Rattle.gaz_keys.specs.Lines.{key_at, more_keys}
use Rattle.gaz_keys.proofs.Fit.{AreBytes, byte_fits, none_fit, first_size, first_fits, column_fits, line_fits}
use Rattle.gaz_keys.proofs.KeysFit.{keys_fit, country_key_fits}
use Rattle.gaz_keys.proofs.Tags.{contained, contained_none, tag_at, tags_differ}
use Rattle.gaz_rows.specs.Found.{IsPlaceOf, IsLineOf}
use Rattle.gaz_rows.specs.Stands.{tag_in}
use Rattle.gaz_rows.specs.Store.{IsStore}
use Rattle.gaz_rows.proofs.Counting.{map_contains, few_pairs}
use Rattle.gaz_rows.proofs.Fit.{keyed}
use Rattle.gaz_rows.proofs.Keyed.{that_of}
use Rattle.gaz_rows.proofs.Members.{head_is_in, tail_is_in}
use Rattle.gaz_rows.proofs.PairsPlaces.{pair_there, tag_key}
use Rattle.gaz_rows.proofs.RoomPairs.{bytes_of, bytes_fit, number_back, tag_back, key_below}
use Rattle.gaz_kin.specs.Below.{has_beginning, is_named_by, is_named_among, has_pair_in}
use Rattle.gaz_kin.specs.Named.{AreCountries, IsNextCountry}
use Rattle.gaz_kin.proofs.Bytes.{AtMost, key_most, most_append, zeros_most, bytes_most}
use Rattle.gaz_kin.proofs.Indexed.{is_line, within, each_in, found_in, pair_in, range, range_within}
use Rattle.gaz_kin.proofs.Linked.{any_has, has_any}
use Rattle.gaz_kin.proofs.Reached.{begins, path_begins}

-- the number of a country's key
abbrev pub number_of : List ℕ → ℕ
number_of line = key_of (country_key (first_bytes 4 (column 1 line)))

-- keys of countries compare as their codes do
code_most : (a b : List ℕ) → AtMost a b → AtMost (country_key a) (country_key b)
unfolding country_key
code_most a b le = (omega arith, most_append a b (replicate 27 0) (replicate 27 0) le (zeros_most 27 (replicate 27 0) refl))

code_tag : (code : List ℕ) → tag_of (country_key code) ≡ 5
unfolding country_key
code_tag code = refl

tag_between : (a b c : ℕ) → a ≤ b → b ≤ c → tag_in a ≡ 5 → tag_in c ≡ 5 → tag_in b ≡ 5
tag_between a b c from to low high = omega (arith, from, to, low, high)

module _ (gaz : Gazetteer) (v : PagesView) (root : Root) (stands : IsStore gaz v root) where
  -- the place of a key of a country
  pub is_place : (n place : ℕ) → lookup n stands.pairs ≡ Some place → tag_in n ≡ 5 → IsPlaceOf v root (bytes_of n) place
  is_place n place found tag =
      let below = key_below 0 (2 ^ 256) stands.pairs (record { key = n; value = place }) (within gaz v root stands) (pair_there n place stands.pairs found) in
      record {
        is_key = bytes_fit n;
        placed = ap has_place (tag_back n below ∙ tag);
        pairs = stands.pairs;
        top = stands.tree;
        at = subst (λ k. lookup k stands.pairs ≡ Some place) (sym (number_back n below)) found;
      }

  -- The line is that of a country, with this key.
  pub record IsCountryAt (n : ℕ) (line : List ℕ) : Type 0 where
    pub there : Contains gaz.countries line
    pub at : n ≡ number_of line

  pub country_at : (n place : ℕ) (line : List ℕ) → lookup n stands.pairs ≡ Some place → tag_in n ≡ 5 → IsLineOf gaz (bytes_of n) line → IsCountryAt n line
  country_at n place line found tag of =
      let below = key_below 0 (2 ^ 256) stands.pairs (record { key = n; value = place }) (within gaz v root stands) (pair_there n place stands.pairs found) in
      let table = tags_differ of.table Countries (sym (tag_at of.table of.slot line) ∙ ap tag_of of.is ∙ tag_back n below ∙ tag) in
      record {
        there = subst (λ t. Contains (lines_in gaz t) line) table of.there;
        at = sym (number_back n below) ∙ ap key_of (sym of.is) ∙ ap (λ t. key_of (key_at t of.slot line)) table;
      }

  -- Countries with one key are one.
  pub one_country : (a b : List ℕ) → Contains gaz.countries a → Contains gaz.countries b → number_of a ≡ number_of b → a ≡ b
  one_country a b at_a at_b same = (stands.indexed.apart Countries Countries a b at_a at_b (ap (λ n. lookup n stands.pairs) same)).1

  -- the pairs of all countries
  abbrev pub country_range : List Pair
  country_range = range gaz v root stands (key_of (country_key (0 ∷ 0 ∷ 0 ∷ 0 ∷ []))) (key_of (country_key (255 ∷ 255 ∷ 255 ∷ 255 ∷ [])))

  low_tag : tag_in (key_of (country_key (0 ∷ 0 ∷ 0 ∷ 0 ∷ []))) ≡ 5
  low_tag = tag_key (country_key (0 ∷ 0 ∷ 0 ∷ 0 ∷ [])) (country_key_fits (0 ∷ 0 ∷ 0 ∷ 0 ∷ []) (four_fit 0 (omega arith))) ∙ code_tag (0 ∷ 0 ∷ 0 ∷ 0 ∷ [])
    where
      four_fit : (n : ℕ) → n < 256 → AreBytes (n ∷ n ∷ n ∷ n ∷ [])
      four_fit n small = byte_fits n (n ∷ n ∷ n ∷ []) small (byte_fits n (n ∷ n ∷ []) small (byte_fits n (n ∷ []) small (byte_fits n [] small none_fit)))

  high_tag : tag_in (key_of (country_key (255 ∷ 255 ∷ 255 ∷ 255 ∷ []))) ≡ 5
  high_tag = tag_key (country_key (255 ∷ 255 ∷ 255 ∷ 255 ∷ [])) (country_key_fits (255 ∷ 255 ∷ 255 ∷ 255 ∷ []) (four_fit 255 (omega arith))) ∙ code_tag (255 ∷ 255 ∷ 255 ∷ 255 ∷ [])
    where
      four_fit : (n : ℕ) → n < 256 → AreBytes (n ∷ n ∷ n ∷ n ∷ [])
      four_fit n small = byte_fits n (n ∷ n ∷ n ∷ []) small (byte_fits n (n ∷ n ∷ []) small (byte_fits n (n ∷ []) small (byte_fits n [] small none_fit)))

  tag_of_pair : (p : Pair) → Contains country_range p → tag_in p.key ≡ 5
  tag_of_pair p has =
      let inside = each_in gaz v root stands (key_of (country_key (0 ∷ 0 ∷ 0 ∷ 0 ∷ []))) (key_of (country_key (255 ∷ 255 ∷ 255 ∷ 255 ∷ []))) p has in
      tag_between (key_of (country_key (0 ∷ 0 ∷ 0 ∷ 0 ∷ []))) p.key (key_of (country_key (255 ∷ 255 ∷ 255 ∷ 255 ∷ []))) inside.from inside.to low_tag high_tag

  pub are_countries : AreCountries stands.pairs country_range
  are_countries p has = (found_in gaz v root stands (key_of (country_key (0 ∷ 0 ∷ 0 ∷ 0 ∷ []))) (key_of (country_key (255 ∷ 255 ∷ 255 ∷ 255 ∷ []))) p has, tag_of_pair p has)

  -- They are no more than countries.
  pub countries_within : length country_range ≤ root.counts.countries
  countries_within =
      let few = few_pairs 0 (2 ^ 256) country_range (map number_of gaz.countries) (range_within gaz v root stands (key_of (country_key (0 ∷ 0 ∷ 0 ∷ 0 ∷ []))) (key_of (country_key (255 ∷ 255 ∷ 255 ∷ 255 ∷ [])))) one in
      let counts = ap (λ c. c.countries) stands.counts in
      omega (arith, few, counts, length-map gaz.countries number_of)
    where
      one : (p : Pair) → Contains country_range p → Contains (map number_of gaz.countries) p.key
      one p has =
          let inside = each_in gaz v root stands (key_of (country_key (0 ∷ 0 ∷ 0 ∷ 0 ∷ []))) (key_of (country_key (255 ∷ 255 ∷ 255 ∷ 255 ∷ []))) p has in
          let of = inside.of in
          let fits = keys_fit of.table (stands.slots (column 1 of.line)) of.line of.key (keyed of.table of.line (is_line gaz v root stands of.table of.line of.there)) of.among in
          let tag : tag_of of.key ≡ 5 = sym (tag_key of.key fits) ∙ ap tag_in of.is ∙ tag_of_pair p has in
          let that = that_of stands.slots gaz Countries of.key tag (record { table = of.table; line = of.line; there = of.there; among = of.among }) in
          subst (Contains (map number_of gaz.countries)) (ap key_of that.is ∙ of.is) (map_contains number_of gaz.countries that.line that.there)

  pair_of_country : (line : List ℕ) → Contains gaz.countries line → has_pair_in country_range line ≡ true
  pair_of_country line there =
      let code = first_bytes 4 (column 1 line) in
      let fits : AreBytes code = first_fits 4 (column 1 line) (column_fits 1 line (line_fits Countries line (keyed Countries line (is_line gaz v root stands Countries line there)))) in
      let long = first_size 4 (column 1 line) in
      let pair = pair_in gaz v root stands (key_of (country_key (0 ∷ 0 ∷ 0 ∷ 0 ∷ []))) (key_of (country_key (255 ∷ 255 ∷ 255 ∷ 255 ∷ []))) Countries line (country_key code) there
      (head_is_in (country_key code) (more_keys Countries line))
      (key_most (country_key (0 ∷ 0 ∷ 0 ∷ 0 ∷ [])) (country_key code) (code_most (0 ∷ 0 ∷ 0 ∷ 0 ∷ []) code (zeros_most 4 code long)))
      (key_most (country_key code) (country_key (255 ∷ 255 ∷ 255 ∷ 255 ∷ [])) (code_most code (255 ∷ 255 ∷ 255 ∷ 255 ∷ []) (bytes_most 4 code long fits))) in
      any_pair country_range (record { key = key_of (country_key code); value = pair.0 }) pair.1
    where
      any_pair : (ps : List Pair) (p : Pair) → Contains ps p → list_any (λ q. q.key == p.key) ps ≡ true
      any_pair [] p has = absurd (contained_none p has)
      any_pair (q ∷ qs) p has = elim (contained q qs p has) [
        | inl same ↦ let test : (q.key == p.key) ≡ true = eq-eqb q.key p.key (ap (λ r. r.key) same) in or_left (q.key == p.key) _ test
        | inr later ↦ or_right (q.key == p.key) _ (any_pair qs p later)
      ]

  -- Each country that names a place is among them.
  pub named_among : (id : ℕ) (row : List ℕ) → is_named_by gaz id row ≡ true → is_named_among gaz country_range id row ≡ true
  named_among id row named =
      let one = any_has (names (column 9 row) id) gaz.countries named in
      has_any (λ line. names (column 9 row) id line && has_pair_in country_range line) gaz.countries one.0 one.1 (and_from (names (column 9 row) id one.0) (has_pair_in country_range one.0) one.2 (pair_of_country one.0 one.1))

-- ---- a walk over countries

-- Countries with one key are one.
abbrev pub IsOneEach : Gazetteer → Type 0
IsOneEach gaz = (a b : List ℕ) → Contains gaz.countries a → Contains gaz.countries b → number_of a ≡ number_of b → a ≡ b

module _ (gaz : Gazetteer) (is : IsGazetteer gaz) (one_each : IsOneEach gaz) (id keep : ℕ) where
  -- So many countries came, and once the rows of the others are seen, those of all are.
  pub record AreWaiting (turns : ℕ) (pages : ℕ → List ℕ) (scan : Scan) (left : List Pair) (start now : List Picked) : Type 0 where
    pub rest : List Pair
    pub comes : Comes pages scan rest
    pub count : length left ≡ turns + length rest
    pub part : (p : Pair) → Contains rest p → Contains left p
    pub goes_on : (new : List Picked) → SeesMore gaz id keep (is_named_among gaz rest id) now new → SeesMore gaz id keep (is_named_among gaz left id) start new

  pub waiting_first : (pages : ℕ → List ℕ) (scan : Scan) (left : List Pair) (start : List Picked) → Comes pages scan left → (p : AreWaiting 0 pages scan left start start) × (p.rest ≡ left)
  waiting_first pages scan left start comes = (record { rest = left; comes = comes; count = omega arith; part = λ p has. has; goes_on = λ new more. more }, refl)

  -- a country that names the place is this one or among the others
  this_or_other : (pair : Pair) (rest : List Pair) (line : List ℕ) → Contains gaz.countries line → pair.key ≡ number_of line → (row : List ℕ) → is_named_among gaz (pair ∷ rest) id row ≡ true
      → (names (column 9 row) id line || is_named_among gaz rest id row) ≡ true
  this_or_other pair rest line there at row named =
      let some = any_has (λ l. names (column 9 row) id l && has_pair_in (pair ∷ rest) l) gaz.countries named in
      let l = some.0 in
      let both = some.2 in
      let names_it = and_left (names (column 9 row) id l) _ both in
      let in_pairs : (pair.key == number_of l || has_pair_in rest l) ≡ true = and_right (names (column 9 row) id l) _ both in
      by_test (pair.key == number_of l)
      (λ here.
      let same : l ≡ line = one_each l line some.1 there (sym (eqb-true pair.key (number_of l) here) ∙ at) in
      or_left (names (column 9 row) id line) _ (ap (names (column 9 row) id) (sym same) ∙ names_it))
      (λ other.
      or_right (names (column 9 row) id line) _ (has_any (λ m. names (column 9 row) id m && has_pair_in rest m) gaz.countries l some.1 (and_from (names (column 9 row) id l) (has_pair_in rest l) names_it (rw other at in_pairs))))

  module _ (turns : ℕ) (old : ℕ → List ℕ) (scan : Scan) (left : List Pair) (start now : List Picked) (p : AreWaiting turns old scan left start now) where
    -- One more came, and the rows of which it is the country were seen, if it names the place.
    pub waiting_on : {P : List ℕ → Type 0} (mid new : ℕ → List ℕ) (scan_now : Scan) (after : List Picked) → new ≡ mid → (n : IsNextCountry gaz mid scan_now p.rest P)
        → SeesMore gaz id keep (λ row. names (column 9 row) id n.line) now after → (q : AreWaiting (turns + 1) new scan_now left start after) × (q.rest ≡ n.rest)
    waiting_on mid new scan_now after same n sees_one =
        let before = p.count in
        let one = ap length n.first in (
          record {
            rest = n.rest;
            comes = subst (λ pages. Comes pages scan_now n.rest) (sym same) n.comes;
            count = omega (arith, before, one);
            part = λ q has. p.part q (subst (λ pairs. Contains pairs q) (sym n.first) (tail_is_in n.pair n.rest q has));
            goes_on = λ later more.
                p.goes_on later
                (subst (λ pairs. SeesMore gaz id keep (is_named_among gaz pairs id) now later) (sym n.first)
                (sees gaz is id keep (λ row. names (column 9 row) id n.line || is_named_among gaz n.rest id row) (is_named_among gaz (n.pair ∷ n.rest) id) now later
                (sees_both gaz is id keep (λ row. names (column 9 row) id n.line) (is_named_among gaz n.rest id) now after later sees_one more)
                (λ row at child named. this_or_other n.pair n.rest n.line n.there n.at row named)));
          },
          refl,
        )

    pub waiting_none : p.rest ≡ [] → SeesMore gaz id keep (is_named_among gaz left id) start now
    waiting_none ends =
        p.goes_on now (subst (λ pairs. SeesMore gaz id keep (is_named_among gaz pairs id) now now) (sym ends) (sees_nothing gaz is id keep (is_named_among gaz [] id) now (λ row at child other.
        let some = any_has (λ l. names (column 9 row) id l && has_pair_in [] l) gaz.countries other in
        let both = some.2 in
        true≢false (sym (and_right (names (column 9 row) id some.0) false both)))))

  -- a row whose country names the place has its beginning
  names_begin : (line row : List ℕ) → names (column 9 row) id line ≡ true → has_beginning (column 1 line ++ 0 ∷ []) row ≡ true
  names_begin line row named =
      let code : column 1 line ≡ column 9 row = (bytes_eq-Decides (column 1 line) (column 9 row)).0 (and_left (bytes_eq (column 1 line) (column 9 row)) _ named) in
      let begin = path_begins 0 row (omega arith) in
      begins (column 1 line ++ 0 ∷ []) row begin.0 (begin.1 ∙ ap (λ text. text ++ begin.0) (append-nil (column 9 row ++ 0 ∷ [])) ∙ ap (λ text. (text ++ 0 ∷ []) ++ begin.0) (sym code))

  -- so they are seen where those with its beginning are
  pub sees_country : (line : List ℕ) (old new : List Picked) → SeesMore gaz id keep (has_beginning (column 1 line ++ 0 ∷ [])) old new → SeesMore gaz id keep (λ row. names (column 9 row) id line) old new
  sees_country line old new more = sees gaz is id keep (has_beginning (column 1 line ++ 0 ∷ [])) (λ row. names (column 9 row) id line) old new more (λ row at child named. names_begin line row named)

  -- and there are none where it names another place
  pub sees_none : (line : List ℕ) (old : List Picked) → is_this id (id_in (column 17 line)) ≡ false → SeesMore gaz id keep (λ row. names (column 9 row) id line) old old
  sees_none line old other = sees_nothing gaz is id keep (λ row. names (column 9 row) id line) old (λ row at child named. true≢false (sym (and_right (bytes_eq (column 1 line) (column 9 row)) _ named) ∙ other))
