-- What stands above one row stands above each other row with its path, but for the place itself.
use Rattle.std.proofs.Common.{◌≡◌, ◌<◌, ℕ, zero, suc, Bool, true, false, true≢false, List, [], ◌∷◌, ◌++◌, length, take, map, replicate, refl, sym, ap, ◌∙◌, subst, arith, Option, Some, None, inl, inr, get_or, set}
use Rattle.std.specs.Prelude.{IfSome, is_some, ◌&&◌, ◌-◌, ◌≤◌, ◌==◌, slice_set}
use Rattle.std.specs.List.{list_any}
use Rattle.std.proofs.lemmas.Bool.Decides.{Decides-eqb}
use Rattle.std.proofs.lemmas.Bool.{cases_eq}
use Rattle.std.proofs.lemmas.List.{take_all, length-set, get_or-set_same, get_or-set_other}
use Rattle.std.proofs.lemmas.List.Elements.{filter_agree}
use Rattle.gaz_num.specs.Pieces.{column}
use Rattle.gaz_num.proofs.CalendarLemmas.{and_left, and_right}
use Rattle.gaz_row.specs.Row.{id_of}
use Rattle.gaz_parent.specs.Parent.{Lists, is_this, level_of, first_some, least, may_be, least_other, path_columns, is_division_of, names, is_country_of}
use Rattle.gaz_parent.specs.Laws.{IsLeast}
use Rattle.gaz_parent.proofs.Least.{least_is, one_least}
use Rattle.gaz_num.specs.declared.words.Table.TheVariants.{Countries}
use Rattle.gaz_plain.specs.Gazetteer.{Gazetteer, IsGazetteer, line_with}
use Rattle.gaz_plain.specs.Kin.{lists_of}
use Rattle.gaz_plain.proofs.Foremost.{differ, named, place_named, this_first, then_this}
use Rattle.gaz_plain.proofs.Named.{nothing_named}
use Rattle.gaz_keys.specs.Front.{IsFront}
use Rattle.gaz_keys.proofs.Made.{take_front}
use Rattle.gaz_kin.specs.Above.{is_above}
use Rattle.gaz_kin.specs.declared.kept.Found.{Found}
use Rattle.gaz_kin.specs.declared.kept.Last.{Last}
use Rattle.gaz_kin.specs.declared.kept.Kept.{Kept}
use Rattle.gaz_kin.specs.Kept.{path_with, is_named_for, least_of_all, above_all, above_it, IsLeastFound, IsAboveFound, IsLast, IsKept}
use Rattle.gaz_kin.proofs.Tabbed.{same_country, same_codes}

-- ---- the same path

-- the whole text of a front
whole_is : (text bytes : List ℕ) (len : ℕ) → IsFront 48 text bytes len → len < 48 → take len bytes ≡ text
whole_is text bytes len front short =
    let own = front.own in
    let long : len ≡ length text = omega (arith, own, short) in
    ap (take len) front.are
    ∙ ap (λ t. take len (t ++ replicate (48 - length text) 0)) (take_all 48 text (omega (arith, long, short)))
    ∙ take_front text (replicate (48 - length text) 0) len long

-- texts with one front, if it is the whole of them
same_text : (one two bytes : List ℕ) (len : ℕ) → IsFront 48 one bytes len → IsFront 48 two bytes len → len < 48 → one ≡ two
same_text one two bytes len first second short = sym (whole_is one bytes len first short) ∙ whole_is two bytes len second short

-- above rows with the same path the same stands
pub same_above : (lists : Lists) (level : ℕ) (row other : List ℕ) → path_with 9 level row ≡ path_with 9 level other → above_all lists level row ≡ above_all lists level other
same_above lists zero row other same =
    ap (λ code. first_some (least_of_all lists (λ place. list_any (names code (id_of place)) lists.countries) ∷ least_of_all lists (is_country_of code) ∷ [])) (same_country 0 row other same)
same_above lists (suc level) row other same =
    ap (λ (rows : List (List ℕ)). least (map id_of rows))
    (filter_agree (is_division_of (suc level) row) (is_division_of (suc level) other)
    (λ place. ap (λ t. is_this (suc level) (level_of place) && t) (same_codes (path_columns (suc level)) row other same place)) lists.rows)

-- What stands above every row with the path of this one may be remembered with it.
pub is_last : (lists : Lists) (level : ℕ) (row : List ℕ) (last : Last) → IsFront 48 (path_with 9 level row) last.path.bytes last.path.len → last.above ≡ above_all lists level row → IsLast lists level last
is_last lists level row last front is other other_front short =
    is ∙ same_above lists level row other (same_text (path_with 9 level row) (path_with 9 level other) last.path.bytes last.path.len front other_front short)

-- One more is remembered.
pub one_more_kept : (lists : Lists) (kept : Kept) (place : ℕ) (last : Last) → IsLast lists place last → IsKept lists kept → IsKept lists (record { lasts = slice_set kept.lasts place (Some last) })
one_more_kept lists kept place last is before = record {
  each = λ level other below.
      let within : level < length kept.lasts = omega (arith, below, length-set kept.lasts place (Some last)) in
      elim (cases_eq level place) [
        | inl same ↦ subst (λ k. IfSome (get_or (set kept.lasts place (Some last)) k other) (IsLast lists k)) (sym same)
            (subst (λ found. IfSome found (IsLast lists place)) (sym (get_or-set_same kept.lasts place (Some last) other (omega (arith, within, same)))) is)
        | inr differs ↦ subst (λ found. IfSome found (IsLast lists level)) (sym (get_or-set_other kept.lasts place level (Some last) other differs)) (before.each level other within)
      ];
}

-- ---- the row itself is never taken

module _ (lists : Lists) (id : ℕ) (test : List ℕ → Bool) where
  without : (found : Option ℕ) → IsLeast test lists.rows found → (found ≡ Some id → ⊥) → IsLeast (may_be id test) lists.rows found
  without None none apart = λ row at may. none row at (and_left (test row) _ may)
  without (Some n) is apart =
      let passes = is.0.2 in
      let differs : (id_of is.0.0 == id) ≡ false = differ (id_of is.0.0) id (λ same. apart (ap Some (sym is.0.3 ∙ same))) in
      ((is.0.0, is.0.1, rw (passes, differs) refl, is.0.3), λ row at may. is.1 row at (and_left (test row) _ may))

  -- The least of all is the least of the others, unless it is the row itself.
  pub left_out : (found : Option ℕ) → found ≡ least_of_all lists test → (found ≡ Some id → ⊥) → found ≡ least_other lists id test
  left_out found is apart =
      one_least (may_be id test) lists.rows found (least_other lists id test)
      (without found (subst (λ (f : Option ℕ). IsLeast test lists.rows f) (sym is) (least_is test lists.rows)) apart)
      (least_is (may_be id test) lists.rows)

  with_all : (found : Option ℕ) → ((row : List ℕ) → test row ≡ true → (id_of row == id) ≡ false) → IsLeast (may_be id test) lists.rows found → IsLeast test lists.rows found
  with_all None others none = λ row at passes. let differs = others row passes in none row at (rw (passes, differs) refl)
  with_all (Some n) others is =
      ((is.0.0, is.0.1, and_left (test is.0.0) _ is.0.2, is.0.3), λ row at passes. let differs = others row passes in is.1 row at (rw (passes, differs) refl))

  -- The least of the others is the least of all, where the row itself doesn't pass.
  pub none_left_out : (found : Option ℕ) → found ≡ least_other lists id test → ((row : List ℕ) → test row ≡ true → (id_of row == id) ≡ false) → found ≡ least_of_all lists test
  none_left_out found is others =
      one_least test lists.rows found (least_of_all lists test)
      (with_all found others (subst (λ (f : Option ℕ). IsLeast (may_be id test) lists.rows f) (sym is) (least_is (may_be id test) lists.rows)))
      (least_is test lists.rows)

only_one : (found : Option ℕ) → first_some (found ∷ []) ≡ found
only_one None = refl
only_one (Some n) = refl

-- What stands above every row with a path stands above this one, unless it is the row itself.
pub still_above : (lists : Lists) (level : ℕ) (row : List ℕ) (found : Option ℕ) → found ≡ above_all lists level row → (found ≡ Some (id_of row) → ⊥) → found ≡ above_it lists level row
still_above lists (suc level) row found is apart = left_out lists (id_of row) (is_division_of (suc level) row) found is apart
still_above lists zero row found is apart = by (least_of_all lists (is_named_for lists row)) refl is
  where
    id : ℕ
    id = id_of row

    by : (named : Option ℕ) → named ≡ least_of_all lists (is_named_for lists row) → found ≡ first_some (named ∷ least_of_all lists (is_country_of (column 9 row)) ∷ []) → found ≡ above_it lists 0 row
    by None none at =
        left_out lists id (is_country_of (column 9 row)) found (at ∙ only_one (least_of_all lists (is_country_of (column 9 row)))) apart
        ∙ then_this (least_other lists id (is_named_for lists row)) (least_other lists id (is_country_of (column 9 row))) (left_out lists id (is_named_for lists row) None none (λ same. none_some same))
      where
        none_some : None ≡ Some id → ⊥
        none_some same = cc
    by (Some n) named at =
        at ∙ this_first n (least_other lists id (is_named_for lists row)) (least_other lists id (is_country_of (column 9 row)))
        (left_out lists id (is_named_for lists row) (Some n) named (λ same. apart (at ∙ same)))

-- ---- what was found

-- a division
pub division_found : (lists : Lists) (level : ℕ) (row : List ℕ) (found : Found) → 1 ≤ level → IsLeastFound lists (id_of row) (is_above level row) found → IsAboveFound lists level row found
division_found lists zero row found low is = absurd (omega (arith, low))
division_found lists (suc level) row found low is = record { other = is.other; all = is.all }

pub division_above_it : (lists : Lists) (level : ℕ) (row : List ℕ) → 1 ≤ level → above_it lists level row ≡ least_other lists (id_of row) (is_division_of level row)
division_above_it lists zero row low = absurd (omega (arith, low))
division_above_it lists (suc level) row low = refl

-- a place that a country's line names
module _ (gaz : Gazetteer) (is : IsGazetteer gaz) (row : List ℕ) where
  named_is : (place : Option ℕ) → place_named (line_with Countries (column 9 row) gaz) ≡ place → (other : List ℕ) → is_named_for (lists_of gaz) row other ≡ is_this (id_of other) place
  named_is place at other = named (column 9 row) (id_of other) gaz.countries (is.tables Countries).each (is.tables Countries).rising ∙ ap (is_this (id_of other)) at

  -- none
  pub none_of_all : place_named (line_with Countries (column 9 row) gaz) ≡ None → None ≡ least_of_all (lists_of gaz) (is_named_for (lists_of gaz) row)
  none_of_all at =
      none_left_out (lists_of gaz) (id_of row) (is_named_for (lists_of gaz) row) None (nothing_named gaz is row at)
      (λ other passes. absurd (true≢false (sym passes ∙ named_is None at other)))

  -- another one than the row
  pub another_of_all : (place : ℕ) (found : Option ℕ) → place_named (line_with Countries (column 9 row) gaz) ≡ Some place → (place == id_of row) ≡ false
      → found ≡ least_other (lists_of gaz) (id_of row) (is_named_for (lists_of gaz) row) → found ≡ least_of_all (lists_of gaz) (is_named_for (lists_of gaz) row)
  another_of_all place found at differs is_found =
      none_left_out (lists_of gaz) (id_of row) (is_named_for (lists_of gaz) row) found is_found
      (λ other passes. ap (λ n. n == id_of row) (sym ((Decides-eqb place (id_of other)).0 (sym (named_is (Some place) at other) ∙ passes))) ∙ differs)

-- a place that is there or isn't
pub some_of : (found : Option ℕ) → is_some found ≡ true → (n : ℕ) × (found ≡ Some n)
some_of None some = absurd (true≢false (sym some))
some_of (Some n) some = (n, refl)

pub none_of : (found : Option ℕ) → is_some found ≡ false → found ≡ None
none_of None none = refl
none_of (Some n) none = absurd (true≢false none)

module _ (lists : Lists) (row : List ℕ) (named : Found) where
  -- a place that is named for a country
  pub named_found : (n : ℕ) → named.above ≡ Some n → IsLeastFound lists (id_of row) (is_named_for lists row) named → IsAboveFound lists 0 row named
  named_found n at is = record {
    other = at ∙ this_first n (least_other lists (id_of row) (is_named_for lists row)) (least_other lists (id_of row) (is_country_of (column 9 row))) (sym at ∙ is.other);
    all = λ common. at ∙ this_first n (least_of_all lists (is_named_for lists row)) (least_of_all lists (is_country_of (column 9 row))) (sym at ∙ is.all common);
  }

  -- the least country row, where none is named
  pub least_found : (second both : Found) → named.above ≡ None → both.above ≡ second.above → both.is_common ≡ (named.is_common && second.is_common)
      → IsLeastFound lists (id_of row) (is_named_for lists row) named → IsLeastFound lists (id_of row) (is_above 0 row) second → IsAboveFound lists 0 row both
  least_found second both none above common is later = record {
    other = above ∙ later.other ∙ then_this (least_other lists (id_of row) (is_named_for lists row)) (least_other lists (id_of row) (is_country_of (column 9 row))) (sym none ∙ is.other);
    all = λ both_are.
        let two = sym common ∙ both_are in
        above ∙ later.all (and_right named.is_common second.is_common two)
        ∙ then_this (least_of_all lists (is_named_for lists row)) (least_of_all lists (is_country_of (column 9 row))) (sym none ∙ is.all (and_left named.is_common second.is_common two));
  }
