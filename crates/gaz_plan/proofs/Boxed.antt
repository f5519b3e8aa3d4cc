-- Rows that lie in the bands and the ranges of a box are among those for which the keys of these stand.
use Rattle.std.proofs.Common.{◌≡◌, ◌<◌, ◌≤◌, ◌+◌, ◌-◌, ◌*◌, ◌^◌, ℕ, Bool, true, false, true≢false, List, [], ◌∷◌, ◌++◌, refl, sym, ◌∙◌, ap, subst, arith, eq-eqb, Some, None}
use Rattle.std.specs.Prelude.{Contains, ◌==◌, ◌&&◌, ◌||◌, ℤ, pos, neg_ℤ, ◌≤ℤ◌, nat_le, nat_lt, unwrap_or, int_le, if◌then◌else◌}
use Rattle.std.proofs.lemmas.Bool.{and_from, or_left, or_right, leb-true, ltb-true, le-leb, lt-ltb}
use Rattle.std.proofs.lemmas.Bool.Decides.{Decides-eqb, nat_tests}
use Rattle.std.proofs.lemmas.Int.{ints}
use Rattle.std.proofs.lemmas.Nat.{from_be_bytes-to_be_bytes_4}
use Rattle.gaz_num.proofs.CalendarLemmas.{and_left, and_right}
use Rattle.gaz_num.specs.Numbers.{degrees_in, some_if, size_text, with_sign_of, decimal_value, is_decimal}
use Rattle.gaz_num.specs.Pieces.{column}
use Rattle.gaz_num.specs.declared.words.Table.TheVariants.{Rows}
use Rattle.gaz_box.specs.Edges.{Edges, IsWithin, IsBox, in_range, in_spans, spans_of, band_of}
use Rattle.gaz_box.specs.Laws.{PlacesAreSought}
use Rattle.gaz_row.specs.Row.{id_of}
use Rattle.gaz_pick.specs.Asked.{Asked, absent}
use Rattle.gaz_pick.specs.Match.{latitude_of, longitude_of}
use Rattle.gaz_pick.proofs.OrderLemmas.{by_test}
use Rattle.gaz_plain.specs.Gazetteer.{Gazetteer}
use Rattle.gaz_page.specs.declared.tree_root.Root.{Root}
use Rattle.gaz_page.specs.Pages.{PagesView}
use Rattle.gaz_leaf.specs.Node.{key_of}
use Rattle.gaz_scan.specs.Ranges.{between}
use Rattle.gaz_keys.specs.Keys.{IsKey, box_key}
use Rattle.gaz_keys.specs.Parts.{four_at, tag_of}
use Rattle.gaz_keys.specs.Lines.{id_at, band_at, east_at, lying_key, named_key, ascii_key, row_keys, more_keys, division_keys, division_level, divided_key}
use Rattle.gaz_keys.proofs.Fit.{id_small}
use Rattle.gaz_keys.proofs.KeysFit.{more_fit}
use Rattle.gaz_rows.specs.Store.{IsStore}
use Rattle.gaz_rows.proofs.Fit.{keyed}
use Rattle.gaz_rows.proofs.Members.{head_is_in, tail_is_in}
use Rattle.gaz_kin.proofs.Indexed.{is_line, pair_in}
use Rattle.gaz_plan.specs.Wanted.{wanted_of, is_nothing, fits_own}
use Rattle.gaz_plan.specs.Ways.{number_at, fits_itself, stands_for, is_among}
use Rattle.gaz_plan.specs.declared.walk.Way.TheVariants.{Lying}
use Rattle.gaz_plan.specs.Boxes.{from_antimeridian, is_in_span, is_in_band, is_in_bands, is_in_box}
use Rattle.gaz_plan.proofs.Bools.{either, has_any}
use Rattle.gaz_plan.proofs.Numbers.{key_bytes}

-- ---- coordinates of rows

-- what stands in a column is within its degrees
degrees_within : (degrees : ℕ) (text : List ℕ) → IsWithin degrees (unwrap_or (degrees_in degrees text) (pos 0))
degrees_within degrees text = by (is_decimal (size_text text) && nat_le (decimal_value (size_text text)) (degrees * 10 ^ 12)) refl
  where
    signed : (size : ℕ) (minus : Bool) → size ≤ degrees * 10 ^ 12 → IsWithin degrees (if minus then neg_ℤ (pos size) else pos size)
    signed size true small = record { low = omega (arith, ints, small); high = omega (arith, ints, small) }
    signed size false small = record { low = omega (arith, ints, small); high = omega (arith, ints, small) }

    by : (fits : Bool) → (is_decimal (size_text text) && nat_le (decimal_value (size_text text)) (degrees * 10 ^ 12)) ≡ fits → IsWithin degrees (unwrap_or (some_if fits (with_sign_of text (decimal_value (size_text text)))) (pos 0))
    by true fits = signed (decimal_value (size_text text)) _ (leb-true (decimal_value (size_text text)) (degrees * 10 ^ 12) (and_right (is_decimal (size_text text)) (nat_le (decimal_value (size_text text)) (degrees * 10 ^ 12)) fits))
    by false fits = record { low = omega (arith, ints); high = omega (arith, ints) }

pub longitude_within : (row : List ℕ) → IsWithin 180 (longitude_of row)
longitude_within row = degrees_within 180 (column 6 row)

pub latitude_within : (row : List ℕ) → IsWithin 90 (unwrap_or (degrees_in 90 (column 5 row)) (pos 0))
latitude_within row = degrees_within 90 (column 5 row)

-- longitudes from the antimeridian on compare as they do
east_most : (a b : ℤ) → IsWithin 180 a → IsWithin 180 b → a ≤ℤ b → from_antimeridian a ≤ from_antimeridian b
east_most a b a_in b_in le = let a_low = a_in.low in let b_low = b_in.low in omega (arith, ints)

pub east_small : (a : ℤ) → IsWithin 180 a → from_antimeridian a < 2 ^ 64
east_small a is = let low = is.low in let high = is.high in omega (arith, ints)

pub band_small : (latitude : ℤ) → IsWithin 90 latitude → band_of latitude < 2 ^ 16
band_small latitude is = let low = is.low in let high = is.high in omega (arith, ints)

-- ---- keys

pub box_number : (band east id : ℕ) → band < 2 ^ 16 → east < 2 ^ 64 → id < 2 ^ 32 → key_of (box_key band east id) ≡ 8 * 2 ^ 248 + band * 2 ^ 232 + east * 2 ^ 168 + id * 2 ^ 136
unfolding key_of box_key
box_number band east id band_is east_is id_is = omega (arith, band_is, east_is, id_is)

box_read : (band east id : ℕ) → id < 2 ^ 32 → four_at 11 (box_key band east id) ≡ id
unfolding box_key
box_read band east id small = from_be_bytes-to_be_bytes_4 id small

pub box_tag : (band east id : ℕ) → tag_of (box_key band east id) ≡ 8
unfolding box_key
box_tag band east id = refl

pub at_most : (a b : ℤ) → int_le a b ≡ true → a ≤ℤ b
at_most a b is = grind (arith, ints, nat_tests, is)

-- ---- the keys of a band and a range

own_among : (row : List ℕ) → Contains (more_keys Rows row) (lying_key row)
own_among row =
    let own = lying_key row in
    tail_is_in (named_key row) (ascii_key row ∷ row_keys row) own (tail_is_in (ascii_key row) (row_keys row) own (head_is_in own (division_keys row (division_level row) ++ divided_key row ∷ [])))

-- nothing is asked of names
pub fits_unnamed : (asked : Asked) (row : List ℕ) → asked.name ≡ absent → fits_itself asked row ≡ true
fits_unnamed asked row none = or_left (is_nothing (wanted_of asked.name)) (fits_own (wanted_of asked.name) asked.lang row) (ap (λ name. is_nothing (wanted_of name)) none)

module _ (gaz : Gazetteer) (v : PagesView) (root : Root) (stands : IsStore gaz v root) (asked : Asked) (unnamed : asked.name ≡ absent) where
  pub span_among : (band : ℕ) (range : ℤ × ℤ) → IsWithin 180 range.0 → IsWithin 180 range.1 → (row : List ℕ) → Contains gaz.rows row → is_in_span band range row ≡ true
      → is_among asked Lying (between (key_of (box_key band (from_antimeridian range.0) 0)) (key_of (box_key band (from_antimeridian range.1) (2 ^ 32 - 1))) stands.pairs) row ≡ true
  span_among band range west_in east_in row there inside =
      let here : band_at row ≡ band = (Decides-eqb (band_at row) band).0 (and_left (band_at row == band) (in_range range (longitude_of row)) inside) in
      let in_it : (int_le range.0 (longitude_of row) && int_le (longitude_of row) range.1) ≡ true = and_right (band_at row == band) (in_range range (longitude_of row)) inside in
      let from = east_most range.0 (longitude_of row) west_in (longitude_within row) (at_most range.0 (longitude_of row) (and_left (int_le range.0 (longitude_of row)) _ in_it)) in
      let to = east_most (longitude_of row) range.1 (longitude_within row) east_in (at_most (longitude_of row) range.1 (and_right (int_le range.0 (longitude_of row)) _ in_it)) in
      let own = lying_key row in
      let id = id_at 1 row in
      let small = id_small 1 row in
      let band_is : band_at row < 2 ^ 16 = band_small (unwrap_or (degrees_in 90 (column 5 row)) (pos 0)) (latitude_within row) in
      let east_is : east_at row < 2 ^ 64 = east_small (longitude_of row) (longitude_within row) in
      let number = box_number (band_at row) (east_at row) id band_is east_is small in
      let low = box_number band (from_antimeridian range.0) 0 (subst (λ b. b < 2 ^ 16) here band_is) (east_small range.0 west_in) (omega arith) in
      let high = box_number band (from_antimeridian range.1) (2 ^ 32 - 1) (subst (λ b. b < 2 ^ 16) here band_is) (east_small range.1 east_in) (omega arith) in
      let pair = pair_in gaz v root stands (key_of (box_key band (from_antimeridian range.0) 0)) (key_of (box_key band (from_antimeridian range.1) (2 ^ 32 - 1))) Rows row own there
      (tail_is_in _ (more_keys Rows row) own (own_among row))
      (omega (arith, number, low, here, from)) (omega (arith, number, high, here, to, small)) in
      let fits : IsKey own = more_fit Rows row own (keyed Rows row (is_line gaz v root stands Rows row there)) (own_among row) in
      let is : number_at 11 (key_of own) ≡ id_of row = ap (four_at 11) (key_bytes own fits) ∙ box_read (band_at row) (east_at row) id small in
      has_any (λ p. stands_for asked Lying p.key row) (between (key_of (box_key band (from_antimeridian range.0) 0)) (key_of (box_key band (from_antimeridian range.1) (2 ^ 32 - 1))) stands.pairs) (record { key = key_of own; value = pair.0 }) pair.1
      (and_from (number_at 11 (key_of own) == id_of row) (fits_itself asked row) (eq-eqb (number_at 11 (key_of own)) (id_of row) is) (fits_unnamed asked row unnamed))

-- ---- bands and ranges

-- one of two ranges
pub one_span : (band : ℕ) (edges : Edges) (first second : ℤ × ℤ) → spans_of edges ≡ (first, Some second) → (row : List ℕ) → is_in_band band edges row ≡ true → (is_in_span band first row || is_in_span band second row) ≡ true
one_span band edges first second spans row inside =
    let here = and_left (band_at row == band) (in_spans (spans_of edges) (longitude_of row)) inside in
    let some : (in_range first (longitude_of row) || in_range second (longitude_of row)) ≡ true = ap (λ s. in_spans s (longitude_of row)) (sym spans) ∙ and_right (band_at row == band) (in_spans (spans_of edges) (longitude_of row)) inside in
    either (in_range first (longitude_of row)) (in_range second (longitude_of row)) ((is_in_span band first row || is_in_span band second row) ≡ true) some
    (λ one. or_left (is_in_span band first row) _ (and_from (band_at row == band) (in_range first (longitude_of row)) here one))
    (λ two. or_right (is_in_span band first row) _ (and_from (band_at row == band) (in_range second (longitude_of row)) here two))

pub only_span : (band : ℕ) (edges : Edges) (first : ℤ × ℤ) → spans_of edges ≡ (first, None) → (row : List ℕ) → is_in_band band edges row ≡ true → is_in_span band first row ≡ true
only_span band edges first spans row inside =
    let here = and_left (band_at row == band) (in_spans (spans_of edges) (longitude_of row)) inside in
    let some : (in_range first (longitude_of row) || false) ≡ true = ap (λ s. in_spans s (longitude_of row)) (sym spans) ∙ and_right (band_at row == band) (in_spans (spans_of edges) (longitude_of row)) inside in
    and_from (band_at row == band) (in_range first (longitude_of row)) here (either (in_range first (longitude_of row)) false (in_range first (longitude_of row) ≡ true) some (λ one. one) (λ none. absurd (true≢false (sym none))))

-- no band yet
pub no_band : (first : ℕ) (edges : Edges) (row : List ℕ) → is_in_bands first first edges row ≡ true → ⊥
no_band first edges row inside =
    let bands : (nat_le first (band_at row) && nat_lt (band_at row) first) ≡ true = and_left (nat_le first (band_at row) && nat_lt (band_at row) first) _ inside in
    let from = leb-true first (band_at row) (and_left (nat_le first (band_at row)) _ bands) in
    let to = ltb-true (band_at row) first (and_right (nat_le first (band_at row)) _ bands) in
    omega (arith, from, to)

-- one band more
pub next_band : (first next : ℕ) (edges : Edges) (row : List ℕ) → is_in_bands first (next + 1) edges row ≡ true → (is_in_bands first next edges row || is_in_band next edges row) ≡ true
next_band first next edges row inside =
    let spans = in_spans (spans_of edges) (longitude_of row) in
    let bands : (nat_le first (band_at row) && nat_lt (band_at row) (next + 1)) ≡ true = and_left (nat_le first (band_at row) && nat_lt (band_at row) (next + 1)) spans inside in
    let in_one = and_right (nat_le first (band_at row) && nat_lt (band_at row) (next + 1)) spans inside in
    let to = ltb-true (band_at row) (next + 1) (and_right (nat_le first (band_at row)) _ bands) in
    by_test (nat_lt (band_at row) next)
    (λ before. or_left (is_in_bands first next edges row) _ (and_from (nat_le first (band_at row) && nat_lt (band_at row) next) spans (and_from (nat_le first (band_at row)) (nat_lt (band_at row) next) (and_left (nat_le first (band_at row)) _ bands) before) in_one))
    (λ last.
    let same : band_at row ≡ next = grind (arith, nat_tests, last, to) in
    or_right (is_in_bands first next edges row) _ (and_from (band_at row == next) spans (eq-eqb (band_at row) next same) in_one))

-- all bands of a box
pub all_bands : PlacesAreSought → (edges : Edges) → IsBox edges → (south north : ℕ) → south ≡ band_of edges.south → north ≡ band_of edges.north → (row : List ℕ) → is_in_box edges row ≡ true → is_in_bands south (north + 1) edges row ≡ true
all_bands law edges is south north south_is north_is row inside =
    let sought = law edges (latitude_of row) (longitude_of row) is (longitude_within row) inside in
    let from = sought.band.from in
    let to = sought.band.up_to in
    and_from (nat_le south (band_at row) && nat_lt (band_at row) (north + 1)) (in_spans (spans_of edges) (longitude_of row))
    (and_from (nat_le south (band_at row)) (nat_lt (band_at row) (north + 1)) (le-leb south (band_at row) (omega (arith, from, south_is))) (lt-ltb (band_at row) (north + 1) (omega (arith, to, north_is)))) sought.span
