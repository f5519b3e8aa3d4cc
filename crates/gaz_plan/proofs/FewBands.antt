-- How many rows lie in ranges and bands of a box, one after the other.
use Rattle.std.proofs.Common.{◌≡◌, ◌≤◌, ◌+◌, ◌*◌, ◌^◌, ℕ, Bool, true, false, List, length, filter, refl, ◌∙◌, ap, arith, Option, Some, None}
use Rattle.std.specs.Prelude.{◌==◌, ◌&&◌, ℤ, pos, neg_ℤ, int_lt, int_le, ◌≤ℤ◌, ◌<ℤ◌, nat_le, nat_lt, unwrap_or, if◌then◌else◌}
use Rattle.std.proofs.lemmas.Bool.{and_from, or_left, or_right, ltb-true, le-leb, lt-ltb}
use Rattle.std.proofs.lemmas.Bool.Decides.{Decides-eqb, nat_tests}
use Rattle.std.proofs.lemmas.Int.{ints}
use Rattle.gaz_num.proofs.CalendarLemmas.{and_left, and_right}
use Rattle.gaz_box.specs.Edges.{Edges, wraps, in_range, in_spans, spans_of}
use Rattle.gaz_pick.specs.Match.{longitude_of}
use Rattle.gaz_plain.specs.Gazetteer.{Gazetteer}
use Rattle.gaz_keys.specs.Lines.{band_at}
use Rattle.gaz_plan.specs.Boxes.{is_in_span, is_in_band, is_in_bands}
use Rattle.gaz_plan.proofs.Boxed.{at_most}
use Rattle.gaz_plan.proofs.Counted.{count_both, count_more}

-- ---- the ranges of a band

-- a row in a range that is one of the box
in_one : (band : ℕ) (edges : Edges) (spans : (ℤ × ℤ) × Option (ℤ × ℤ)) → spans_of edges ≡ spans → (range : ℤ × ℤ) → ((l : ℤ) → in_range range l ≡ true → in_spans spans l ≡ true)
    → (row : List ℕ) → is_in_span band range row ≡ true → is_in_band band edges row ≡ true
in_one band edges spans is range to row inside =
    let l = longitude_of row in
    and_from (band_at row == band) (in_spans (spans_of edges) l) (and_left (band_at row == band) (in_range range l) inside)
    (ap (λ s. in_spans s l) is ∙ to l (and_right (band_at row == band) (in_range range l) inside))

-- no longitude lies in both
spans_apart : (edges : Edges) (first second : ℤ × ℤ) → spans_of edges ≡ (first, Some second) → (l : ℤ) → in_range first l ≡ true → in_range second l ≡ true → ⊥
spans_apart edges first second is l one two = by (wraps edges) refl is
  where
    less : (a b : ℤ) → int_lt a b ≡ true → a <ℤ b
    less a b lt = grind (arith, ints, nat_tests, lt)

    round : (west east : ℤ) → west ≤ℤ l → l ≤ℤ east → east <ℤ west → ⊥
    round west east from to over = omega (arith, ints, from, to, over)

    spans : Bool → (ℤ × ℤ) × Option (ℤ × ℤ)
    spans w = if w then ((edges.west, pos (180 * 10 ^ 12)), Some (neg_ℤ (pos (180 * 10 ^ 12)), edges.east)) else ((edges.west, edges.east), None)

    by : (w : Bool) → wraps edges ≡ w → spans w ≡ (first, Some second) → ⊥
    by true over same =
        let west : edges.west ≡ first.0 = ap (λ (s : (ℤ × ℤ) × Option (ℤ × ℤ)). s.0.0) same in
        let east : edges.east ≡ second.1 = ap (λ (s : (ℤ × ℤ) × Option (ℤ × ℤ)). (unwrap_or s.1 first).1) same in
        round edges.west edges.east
        (at_most edges.west l (ap (λ w. int_le w l) west ∙ and_left (int_le first.0 l) (int_le l first.1) one))
        (at_most l edges.east (ap (λ e. int_le l e) east ∙ and_right (int_le second.0 l) (int_le l second.1) two))
        (less edges.east edges.west over)
    by false over same = absurd (some_none (ap (λ (s : (ℤ × ℤ) × Option (ℤ × ℤ)). s.1) same))
      where
        some_none : None ≡ Some second → ⊥
        some_none never = cc

module _ (gaz : Gazetteer) (band : ℕ) (edges : Edges) where
  pub first_few : (spans : (ℤ × ℤ) × Option (ℤ × ℤ)) → spans_of edges ≡ spans → length (filter (is_in_span band spans.0) gaz.rows) ≤ length (filter (is_in_band band edges) gaz.rows)
  first_few spans is = count_more (is_in_span band spans.0) (is_in_band band edges) gaz.rows (in_one band edges spans is spans.0 (λ l one. or_left (in_range spans.0 l) _ one))

  pub both_few : (first second : ℤ × ℤ) → spans_of edges ≡ (first, Some second)
      → length (filter (is_in_span band first) gaz.rows) + length (filter (is_in_span band second) gaz.rows) ≤ length (filter (is_in_band band edges) gaz.rows)
  both_few first second is =
      count_both (is_in_span band first) (is_in_span band second) (is_in_band band edges) gaz.rows
      (in_one band edges (first, Some second) is first (λ l one. or_left (in_range first l) _ one))
      (in_one band edges (first, Some second) is second (λ l two. or_right (in_range first l) _ two))
      (λ row one two.
      spans_apart edges first second is (longitude_of row) (and_right (band_at row == band) (in_range first (longitude_of row)) one) (and_right (band_at row == band) (in_range second (longitude_of row)) two))

-- ---- the bands of a box

module _ (gaz : Gazetteer) (south : ℕ) (edges : Edges) where
  -- in more bands
  grown : (next last : ℕ) → next ≤ last → (row : List ℕ) → is_in_bands south next edges row ≡ true → is_in_bands south last edges row ≡ true
  grown next last le row inside =
      let b = band_at row in
      let spans = in_spans (spans_of edges) (longitude_of row) in
      let bands : (nat_le south b && nat_lt b next) ≡ true = and_left (nat_le south b && nat_lt b next) spans inside in
      let below = ltb-true b next (and_right (nat_le south b) (nat_lt b next) bands) in
      and_from (nat_le south b && nat_lt b last) spans (and_from (nat_le south b) (nat_lt b last) (and_left (nat_le south b) (nat_lt b next) bands) (lt-ltb b last (omega (arith, below, le)))) (and_right (nat_le south b && nat_lt b next) spans inside)

  pub bands_grow : (next last : ℕ) → next ≤ last → length (filter (is_in_bands south next edges) gaz.rows) ≤ length (filter (is_in_bands south last edges) gaz.rows)
  bands_grow next last le = count_more (is_in_bands south next edges) (is_in_bands south last edges) gaz.rows (grown next last le)

  -- one band more
  pub band_more : (next : ℕ) → south ≤ next
      → length (filter (is_in_bands south next edges) gaz.rows) + length (filter (is_in_band next edges) gaz.rows) ≤ length (filter (is_in_bands south (next + 1) edges) gaz.rows)
  band_more next from =
      count_both (is_in_bands south next edges) (is_in_band next edges) (is_in_bands south (next + 1) edges) gaz.rows (grown next (next + 1) (omega arith))
      (λ row inside.
      let b = band_at row in
      let spans = in_spans (spans_of edges) (longitude_of row) in
      let here : b ≡ next = (Decides-eqb b next).0 (and_left (b == next) spans inside) in
      and_from (nat_le south b && nat_lt b (next + 1)) spans (and_from (nat_le south b) (nat_lt b (next + 1)) (le-leb south b (omega (arith, from, here))) (lt-ltb b (next + 1) (omega (arith, here)))) (and_right (b == next) spans inside))
      (λ row before inside.
      let b = band_at row in
      let spans = in_spans (spans_of edges) (longitude_of row) in
      let here : b ≡ next = (Decides-eqb b next).0 (and_left (b == next) spans inside) in
      let bands : (nat_le south b && nat_lt b next) ≡ true = and_left (nat_le south b && nat_lt b next) spans before in
      let below = ltb-true b next (and_right (nat_le south b) (nat_lt b next) bands) in
      omega (arith, below, here))
