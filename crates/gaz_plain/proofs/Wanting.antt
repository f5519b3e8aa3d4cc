-- Tests of names, and what the names of a row are.
use Rattle.std.proofs.Common.{◌≡◌, ℕ, Bool, true, false, List, [], ◌∷◌, ◌++◌, length, drop, map, filter, refl, sym, ap, ◌∙◌, IsTrue}
use Rattle.std.specs.Prelude.{◌↔◌, nat_eq, ◌&&◌, ◌||◌, Option}
use Rattle.std.specs.List.{starts_with, list_any}
use Rattle.std.proofs.lemmas.Bool.Decides.{same_from_decides, Decides-eqb}
use Rattle.std.proofs.lemmas.Slice.Eq.{starts_is}
use Rattle.gaz_num.specs.Pieces.{column}
use Rattle.gaz_name.specs.Name.{BeginsWith}
use Rattle.gaz_pick.specs.Asked.{NameAsked, absent, equals, starts, Asked}
use Rattle.gaz_pick.specs.Match.{id_of, passes_all}
use Rattle.gaz_plain.specs.Search.{matches}
use Rattle.gaz_plain.specs.Gazetteer.{Gazetteer}
use Rattle.gaz_plain.specs.Names.{is_of, counts_in, own_names, alternate_names, names_of, has_name}
use Rattle.gaz_plain.specs.Wanted.{wanted_of, is_nothing, fits, fits_own, fits_any}
use Rattle.gaz_plain.specs.declared.wanted.Wanted.{Wanted}

-- a test that a key begins with another, as it computes
pub starts_same : (r : Bool) (key front : List ℕ) → (IsTrue r ↔ BeginsWith key front) → r ≡ starts_with nat_eq key front
starts_same r key front is =
    let both = starts_is Decides-eqb key front (starts_with nat_eq key front) refl in
    same_from_decides r (starts_with nat_eq key front) is (λ begins. (drop (length front) key, both.0 begins), λ found. both.1 found.0 found.1)

or_assoc : (a b c : Bool) → ((a || b) || c) ≡ (a || (b || c))
or_assoc true b c = refl
or_assoc false b c = refl

any_of_both : {X : Type 0} (test : X → Bool) (xs ys : List X) → list_any test (xs ++ ys) ≡ (list_any test xs || list_any test ys)
any_of_both test [] ys = refl
any_of_both test (x ∷ xs) ys = ap (λ more. test x || more) (any_of_both test xs ys) ∙ sym (or_assoc (test x) (list_any test xs) (list_any test ys))

-- a test of those that were chosen is one of all
any_chosen : {X Y : Type 0} (test : Y → Bool) (f : X → Y) (chosen : X → Bool) (xs : List X) → list_any test (map f (filter chosen xs)) ≡ list_any (λ x. chosen x && test (f x)) xs
any_chosen test f chosen [] = refl
any_chosen test f chosen (x ∷ xs) = by (any_chosen test f chosen xs) (chosen x) refl
  where
    by : list_any test (map f (filter chosen xs)) ≡ list_any (λ y. chosen y && test (f y)) xs → (is : Bool) → chosen x ≡ is → list_any test (map f (filter chosen (x ∷ xs))) ≡ list_any (λ y. chosen y && test (f y)) (x ∷ xs)
    by more true is = rw is (ap (λ rest. test (f x) || rest) more)
    by more false is = rw is more

module _ (gaz : Gazetteer) (wanted : Wanted) (lang : Option (List ℕ)) (line : List ℕ) where
  -- whether one of the row's names fits: one of its own, or the text of one of its alternates
  fits_names : list_any (fits wanted) (names_of gaz lang line) ≡ (fits_own wanted lang line || fits_any wanted lang (id_of line) gaz.alternates)
  fits_names =
      any_of_both (fits wanted) (own_names lang line) (alternate_names gaz lang line)
      ∙ ap (λ others. fits_own wanted lang line || others) (any_chosen (fits wanted) (λ alternate. column 4 alternate) (λ alternate. is_of (id_of line) alternate && counts_in lang alternate) gaz.alternates)

-- what is asked of a row's names
pub name_told : (gaz : Gazetteer) (name : NameAsked) (lang : Option (List ℕ)) (line : List ℕ)
    → has_name name (names_of gaz lang line) ≡ (is_nothing (wanted_of name) || (fits_own (wanted_of name) lang line || fits_any (wanted_of name) lang (id_of line) gaz.alternates))
name_told gaz absent lang line = refl
name_told gaz (equals value) lang line = fits_names gaz (wanted_of (equals value)) lang line
name_told gaz (starts value) lang line = fits_names gaz (wanted_of (starts value)) lang line

-- what a row has that is asked, where its columns pass and none of its own names fits
pub told_by_alternates : (gaz : Gazetteer) (asked : Asked) (line : List ℕ) (wanted : Wanted) (id : ℕ) → wanted ≡ wanted_of asked.name → id ≡ id_of line
    → passes_all asked line ≡ true → is_nothing wanted ≡ false → fits_own wanted asked.lang line ≡ false
    → fits_any wanted asked.lang id gaz.alternates ≡ matches gaz asked line
told_by_alternates gaz asked line wanted id same is passes something own =
    let nothing : is_nothing (wanted_of asked.name) ≡ false = sym (ap is_nothing same) ∙ something in
    let own_fits : fits_own (wanted_of asked.name) asked.lang line ≡ false = sym (ap (λ w. fits_own w asked.lang line) same) ∙ own in
    let told = name_told gaz asked.name asked.lang line in
    let others : has_name asked.name (names_of gaz asked.lang line) ≡ fits_any (wanted_of asked.name) asked.lang (id_of line) gaz.alternates = told ∙ rw (nothing, own_fits) refl in
    ap (λ w. fits_any w asked.lang id gaz.alternates) same
    ∙ ap (λ n. fits_any (wanted_of asked.name) asked.lang n gaz.alternates) is
    ∙ sym others
    ∙ ap (λ b. b && has_name asked.name (names_of gaz asked.lang line)) (sym passes)
