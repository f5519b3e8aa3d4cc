-- Rows that were tested by themselves, and by an alternate name.
use Rattle.std.proofs.Common.{◌≡◌, ℕ, Bool, true, List, [], ◌∷◌, refl, sym, ap, subst, ◌∙◌, Option, Some, None}
use Rattle.std.specs.Prelude.{Contains, ◌==◌, unwrap_or}
use Rattle.std.specs.Ordering.{is_eq}
use Rattle.std.proofs.lemmas.Bool.{and_from}
use Rattle.std.proofs.lemmas.Bool.Decides.{Decides-eqb}
use Rattle.gaz_num.proofs.CalendarLemmas.{and_left, and_right}
use Rattle.gaz_num.specs.declared.words.Table.{Table}
use Rattle.gaz_num.specs.declared.words.Table.TheVariants.{Rows, Alternates}
use Rattle.gaz_row.specs.Row.{id_of}
use Rattle.gaz_pick.specs.Asked.{Asked}
use Rattle.gaz_pick.specs.Order.{Pair}
use Rattle.gaz_pick.specs.Laws.{FirstOfNext}
use Rattle.gaz_pick.specs.Match.{passes_all, pair_of}
use Rattle.gaz_pick.proofs.OrderLemmas.{by_test}
use Rattle.gaz_plain.specs.Gazetteer.{Gazetteer, IsGazetteer, key_of, key_cmp, line_at, line_with}
use Rattle.gaz_plain.specs.Names.{is_of}
use Rattle.gaz_plain.specs.Search.{matches}
use Rattle.gaz_plain.proofs.Sought.{all_found}
use Rattle.gaz_keys.specs.Lines.{id_at}
use Rattle.gaz_rows.proofs.Members.{head_is_in, tail_is_in}
use Rattle.gaz_plan.specs.Wanted.{wanted_of, fits_other, fits_as, fits_any}
use Rattle.gaz_plan.specs.Seen.{SeesMore}
use Rattle.gaz_plan.specs.Ways.{fits_itself, is_itself, is_named}
use Rattle.gaz_plan.specs.Searched.{after_test, after_found, takes_row, place_named}
use Rattle.gaz_plan.proofs.Bools.{has_any}
use Rattle.gaz_plan.proofs.Matching.{matches_passes, matches_takes, takes_matches, other_matches}
use Rattle.gaz_plan.proofs.Offering.{sees_nothing, one_row, found_at, tested_row}

-- a line that is found is one of all
line_there : (table : Table) (key line : List ℕ) (lines : List (List ℕ)) → line_at table key lines ≡ Some line → Contains lines line
line_there table key line [] at = cc
line_there table key line (l ∷ ls) at =
    by_test (is_eq (key_cmp (key_of table l) key))
    (λ here. let same : l ≡ line = ap (λ (o : Option (List ℕ)). unwrap_or o []) (same_some l line (rw here at at)) in subst (Contains (l ∷ ls)) same (head_is_in l ls))
    (λ other. tail_is_in l ls line (line_there table key line ls (rw other at at)))
  where
    same_some : (a b : List ℕ) → Some a ≡ Some b → Some a ≡ Some b
    same_some a b same = same

none_some : {X : Type 0} (x : X) → None ≡ Some x → ⊥
none_some x is = cc

module _ (gaz : Gazetteer) (asked : Asked) where
  -- The alternate name fits, and is one of a place.
  record IsNameOf (alternate place : ℕ) : Type 0 where
    line : List ℕ
    found : line_with Alternates (alternate ∷ []) gaz ≡ Some line
    fits : fits_other (wanted_of asked.name) asked.lang line ≡ true
    of : place ≡ id_at 2 line

  name_of : (alternate place : ℕ) → Some place ≡ place_named (wanted_of asked.name) asked.lang (line_with Alternates (alternate ∷ []) gaz) → IsNameOf alternate place
  name_of alternate place some = by (line_with Alternates (alternate ∷ []) gaz) refl some
    where
      some_is : (a b : ℕ) → Some a ≡ Some b → a ≡ b
      some_is a b same = ap (λ (o : Option ℕ). unwrap_or o 0) same

      by : (l : Option (List ℕ)) → line_with Alternates (alternate ∷ []) gaz ≡ l → Some place ≡ place_named (wanted_of asked.name) asked.lang l → IsNameOf alternate place
      by None at some = absurd (none_some place (sym some))
      by (Some l) at some =
          by_test (fits_other (wanted_of asked.name) asked.lang l)
          (λ fit. record { line = l; found = at; fits = fit; of = some_is place (id_at 2 l) (rw fit at some) })
          (λ unfit. absurd (none_some place (sym (rw unfit at some))))

  -- so an alternate name led to the place
  pub led_to : (alternate place : ℕ) → Some place ≡ place_named (wanted_of asked.name) asked.lang (line_with Alternates (alternate ∷ []) gaz) → fits_any (wanted_of asked.name) asked.lang place gaz.alternates ≡ true
  led_to alternate place some =
      let name = name_of alternate place some in
      has_any (fits_as (wanted_of asked.name) asked.lang place) gaz.alternates name.line (line_there Alternates (alternate ∷ []) name.line gaz.alternates name.found)
      (and_from (is_of place name.line) (fits_other (wanted_of asked.name) asked.lang name.line) ((Decides-eqb (id_at 2 name.line) place).1 (sym name.of)) name.fits)

module _ (gaz : Gazetteer) (is : IsGazetteer gaz) (asked : Asked) (keep : ℕ) (next : FirstOfNext) where
  -- a row that was tested by its own names
  pub itself_sees : (row : List ℕ) → Contains gaz.rows row → (id : ℕ) → id ≡ id_of row → (old new : List Pair) → new ≡ after_test (takes_row asked row) keep (pair_of row) old → SeesMore gaz asked keep (is_itself asked id) old new
  itself_sees row at id own old new held = tested_row gaz is asked keep next row at (takes_row asked row) (takes_matches gaz asked row) (is_itself asked id) only old new held
    where
      only : (r : List ℕ) → Contains gaz.rows r → matches gaz asked r ≡ true → is_itself asked id r ≡ true → (r ≡ row) × (takes_row asked row ≡ true)
      only r at_r is_r itself =
          let ids : id ≡ id_of r = (Decides-eqb id (id_of r)).0 (and_left (id == id_of r) (fits_itself asked r) itself) in
          let same : r ≡ row = one_row gaz is asked keep r row at_r at (sym ids ∙ own) in
          (same, subst (λ x. takes_row asked x ≡ true) same (matches_takes gaz asked r is_r (and_right (id == id_of r) (fits_itself asked r) itself)))

  -- no row was found by an id
  pub none_sees : (id : ℕ) (old : List Pair) → line_with Rows (id ∷ []) gaz ≡ None → SeesMore gaz asked keep (is_itself asked id) old old
  none_sees id old none = sees_nothing gaz is asked keep (is_itself asked id) old never
    where
      never : (r : List ℕ) → Contains gaz.rows r → matches gaz asked r ≡ true → is_itself asked id r ≡ true → ⊥
      never r at_r is_r itself =
          let ids : id ≡ id_of r = (Decides-eqb id (id_of r)).0 (and_left (id == id_of r) (fits_itself asked r) itself) in
          none_some r (sym none ∙ ap (λ n. line_with Rows (n ∷ []) gaz) ids ∙ all_found gaz.rows r (is.tables Rows) at_r)

  -- the row of a place to which an alternate name led was tested by its columns
  pub passing_sees : (place : ℕ) (more : List ℕ → Bool) → ((r : List ℕ) → more r ≡ true → place ≡ id_of r) → fits_any (wanted_of asked.name) asked.lang place gaz.alternates ≡ true
      → (old new : List Pair) → new ≡ after_found asked keep (line_with Rows (place ∷ []) gaz) old → SeesMore gaz asked keep more old new
  passing_sees place more only led old new held = by (line_with Rows (place ∷ []) gaz) refl held
    where
      by : (found : Option (List ℕ)) → line_with Rows (place ∷ []) gaz ≡ found → new ≡ after_found asked keep found old → SeesMore gaz asked keep more old new
      by None at held =
          subst (λ pairs. SeesMore gaz asked keep more old pairs) (sym held)
          (sees_nothing gaz is asked keep more old
          (λ r at_r is_r of. none_some r (sym at ∙ ap (λ n. line_with Rows (n ∷ []) gaz) (only r of) ∙ all_found gaz.rows r (is.tables Rows) at_r)))
      by (Some row) at held =
          let there = found_at gaz is asked keep place row at in
          let has : is_named gaz asked row ≡ true = ap (λ id. fits_any (wanted_of asked.name) asked.lang id gaz.alternates) there.1 ∙ led in
          tested_row gaz is asked keep next row there.0 (passes_all asked row) (λ passes. other_matches gaz asked row passes has) more
          (λ r at_r is_r of.
          let same : r ≡ row = one_row gaz is asked keep r row at_r there.0 (sym (only r of) ∙ sym there.1) in
          (same, subst (λ x. passes_all asked x ≡ true) same (matches_passes gaz asked r is_r)))
          old new held
