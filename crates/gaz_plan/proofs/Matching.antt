-- Which rows match: their columns pass, and nothing is asked of names, or one of their own or of their alternate names fits.
use Rattle.std.proofs.Common.{◌≡◌, ◌⊎◌, inl, inr, ℕ, Bool, true, false, true≢false, List, [], ◌∷◌, ◌++◌, map, filter, refl, sym, ap, ◌∙◌, Option}
use Rattle.std.specs.Prelude.{◌&&◌, ◌||◌}
use Rattle.std.proofs.lemmas.Bool.{or_left, or_right, and_from}
use Rattle.gaz_num.proofs.CalendarLemmas.{and_left, and_right}
use Rattle.gaz_row.specs.Row.{id_of}
use Rattle.gaz_num.specs.Pieces.{column}
use Rattle.std.specs.List.{list_any}
use Rattle.gaz_pick.specs.Asked.{Asked, NameAsked, absent, equals, starts}
use Rattle.gaz_pick.specs.Match.{passes_all, is_value, have_values, lies_in}
use Rattle.gaz_plain.specs.Gazetteer.{Gazetteer}
use Rattle.gaz_plain.specs.Names.{names_of, has_name, own_names, alternate_names, is_of, counts_in}
use Rattle.gaz_plain.specs.Search.{matches}
use Rattle.gaz_plan.specs.Wanted.{wanted_of, is_nothing, fits, fits_own, fits_any}
use Rattle.gaz_plan.specs.declared.wanted.Test.{Test}
use Rattle.gaz_plan.specs.Ways.{fits_itself, is_named}
use Rattle.gaz_plan.specs.Searched.{takes_row}
use Rattle.gaz_plan.proofs.Bools.{either}

-- ---- what is asked of a row's names

or_assoc : (a b c : Bool) → ((a || b) || c) ≡ (a || (b || c))
or_assoc true b c = refl
or_assoc false b c = refl

and_assoc : (a b c : Bool) → ((a && b) && c) ≡ (a && (b && c))
and_assoc true b c = refl
and_assoc false b c = refl

any_of_both : {X : Type 0} (test : X → Bool) (xs ys : List X) → list_any test (xs ++ ys) ≡ (list_any test xs || list_any test ys)
any_of_both test [] ys = refl
any_of_both test (x ∷ xs) ys = ap (λ more. test x || more) (any_of_both test xs ys) ∙ sym (or_assoc (test x) (list_any test xs) (list_any test ys))

module _ (wanted : Test) (lang : Option (List ℕ)) (id : ℕ) where
  -- the texts that count are those of the alternate names that fit
  any_chosen : (alternates : List (List ℕ)) → list_any (fits wanted) (map (λ alternate. column 4 alternate) (filter (λ alternate. is_of id alternate && counts_in lang alternate) alternates)) ≡ fits_any wanted lang id alternates
  any_chosen [] = refl
  any_chosen (a ∷ more) = by (any_chosen more) (is_of id a && counts_in lang a) refl
    where
      by : list_any (fits wanted) (map (λ alternate. column 4 alternate) (filter (λ alternate. is_of id alternate && counts_in lang alternate) more)) ≡ fits_any wanted lang id more
          → (is : Bool) → (is_of id a && counts_in lang a) ≡ is
          → list_any (fits wanted) (map (λ alternate. column 4 alternate) (filter (λ alternate. is_of id alternate && counts_in lang alternate) (a ∷ more))) ≡ fits_any wanted lang id (a ∷ more)
      by rest true is = rw is (ap (λ others. fits wanted (column 4 a) || others) rest ∙ ap (λ b. b || fits_any wanted lang id more) (sym (ap (λ b. b && fits wanted (column 4 a)) is) ∙ and_assoc (is_of id a) (counts_in lang a) (fits wanted (column 4 a))))
      by rest false is = rw is (rest ∙ ap (λ b. b || fits_any wanted lang id more) (sym (ap (λ b. b && fits wanted (column 4 a)) is) ∙ and_assoc (is_of id a) (counts_in lang a) (fits wanted (column 4 a))))

module _ (gaz : Gazetteer) (wanted : Test) (lang : Option (List ℕ)) (line : List ℕ) where
  fits_names : list_any (fits wanted) (names_of gaz lang line) ≡ (fits_own wanted lang line || fits_any wanted lang (id_of line) gaz.alternates)
  fits_names = any_of_both (fits wanted) (own_names lang line) (alternate_names gaz lang line) ∙ ap (λ others. fits_own wanted lang line || others) (any_chosen wanted lang (id_of line) gaz.alternates)

name_told : (gaz : Gazetteer) (name : NameAsked) (lang : Option (List ℕ)) (line : List ℕ)
    → has_name name (names_of gaz lang line) ≡ (is_nothing (wanted_of name) || (fits_own (wanted_of name) lang line || fits_any (wanted_of name) lang (id_of line) gaz.alternates))
name_told gaz absent lang line = refl
name_told gaz (equals value) lang line = fits_names gaz (wanted_of (equals value)) lang line
name_told gaz (starts value) lang line = fits_names gaz (wanted_of (starts value)) lang line

-- ---- rows that match

module _ (gaz : Gazetteer) (asked : Asked) (row : List ℕ) where
  abbrev nothing : Bool
  nothing = is_nothing (wanted_of asked.name)

  abbrev own : Bool
  own = fits_own (wanted_of asked.name) asked.lang row

  abbrev other : Bool
  other = fits_any (wanted_of asked.name) asked.lang (id_of row) gaz.alternates

  abbrev named : Bool
  named = has_name asked.name (names_of gaz asked.lang row)

  pub matches_passes : matches gaz asked row ≡ true → passes_all asked row ≡ true
  matches_passes is = and_left (passes_all asked row) named is

  pub itself_matches : passes_all asked row ≡ true → fits_itself asked row ≡ true → matches gaz asked row ≡ true
  itself_matches passes fits =
      and_from (passes_all asked row) named passes
      (name_told gaz asked.name asked.lang row
      ∙ either nothing own ((nothing || (own || other)) ≡ true) fits (λ n. or_left nothing _ n) (λ o. or_right nothing _ (or_left own _ o)))

  pub takes_matches : takes_row asked row ≡ true → matches gaz asked row ≡ true
  takes_matches takes = itself_matches (and_left (passes_all asked row) (fits_itself asked row) takes) (and_right (passes_all asked row) (fits_itself asked row) takes)

  pub other_matches : passes_all asked row ≡ true → is_named gaz asked row ≡ true → matches gaz asked row ≡ true
  other_matches passes fits = and_from (passes_all asked row) named passes (name_told gaz asked.name asked.lang row ∙ or_right nothing _ (or_right own _ fits))

  pub matches_by : matches gaz asked row ≡ true → (fits_itself asked row ≡ true) ⊎ (is_named gaz asked row ≡ true)
  matches_by is =
      let has : (nothing || (own || other)) ≡ true = sym (name_told gaz asked.name asked.lang row) ∙ and_right (passes_all asked row) named is in
      either nothing (own || other) ((fits_itself asked row ≡ true) ⊎ (is_named gaz asked row ≡ true)) has
      (λ n. inl (or_left nothing _ n))
      (λ more. either own other ((fits_itself asked row ≡ true) ⊎ (is_named gaz asked row ≡ true)) more (λ o. inl (or_right nothing _ o)) (λ o. inr o))

  -- a row that matches is taken where it fits itself
  pub matches_takes : matches gaz asked row ≡ true → fits_itself asked row ≡ true → takes_row asked row ≡ true
  matches_takes is fits = and_from (passes_all asked row) (fits_itself asked row) (matches_passes is) fits

  -- a row that matches lies in the box
  pub matches_lies : matches gaz asked row ≡ true → lies_in asked.edges row ≡ true
  matches_lies is = and_right (is_value asked.country (column 9 row) && is_value asked.class (column 7 row) && is_value asked.code (column 8 row) && have_values asked.admin 11 row) (lies_in asked.edges row) (matches_passes is)

pub nothing_absent : (name : NameAsked) → is_nothing (wanted_of name) ≡ true → name ≡ absent
nothing_absent absent is = refl
nothing_absent (equals value) is = absurd (true≢false (sym is))
nothing_absent (starts value) is = absurd (true≢false (sym is))
