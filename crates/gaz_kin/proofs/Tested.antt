-- Whether the row with the next id fits.
use Rattle.std.proofs.Common.{◌≡◌, ℕ, Bool, true, false, List, [], ◌∷◌, refl, sym, ap, subst, ◌∙◌, Option, None, Some}
use Rattle.std.specs.Prelude.{◌==◌, ◌&&◌, not}
use Rattle.gaz_num.specs.declared.words.Table.TheVariants.{Rows}
use Rattle.gaz_row.specs.Row.{id_of}
use Rattle.gaz_plain.specs.Gazetteer.{Gazetteer, IsGazetteer, line_with}
use Rattle.gaz_plain.specs.Ordered.{passes_at}
use Rattle.gaz_num.proofs.CalendarLemmas.{and_left}
use Rattle.gaz_parent.specs.Parent.{may_be}
use Rattle.gaz_plain.proofs.Foremost.{row_at, found_id}
use Rattle.gaz_leaf.specs.Node.{Pair}
use Rattle.gaz_scan.specs.declared.scan.Scan.{Scan}
use Rattle.gaz_kin.specs.declared.ids.Part.{Part}
use Rattle.gaz_kin.specs.Ids.{IsNext, IsTested}
use Rattle.gaz_kin.specs.Above.{fits_at, may_be_parent}

-- the next id over pages that are the same
pub next_same : (part : Part) (old new : ℕ → List ℕ) (scan : Scan) (left : List Pair) (id : ℕ) → new ≡ old → IsNext part old scan left id → IsNext part new scan left id
next_same part old new scan left id same next = subst (λ pages. IsNext part pages scan left id) (sym same) next

-- none comes where none was left
pub no_next : (part : Part) (pages : ℕ → List ℕ) (scan : Scan) (left : List Pair) (id : ℕ) → left ≡ [] → IsNext part pages scan left id → ⊥
no_next part pages scan left id none next = some_none (sym next.first ∙ none)
  where
    some_none : next.pair ∷ next.rest ≡ [] → ⊥
    some_none is = cc

-- what is tested of the row that is found
pub tested : (gaz : Gazetteer) (may : List ℕ → Bool) (id : ℕ) (found : Option (List ℕ)) (result : Bool) → line_with Rows (id ∷ []) gaz ≡ found → passes_at may found ≡ result → fits_at gaz may id ≡ result
tested gaz may id found result at is = ap (passes_at may) at ∙ is

module _ (gaz : Gazetteer) (is : IsGazetteer gaz) (id : ℕ) (row : List ℕ) (at : line_with Rows (id ∷ []) gaz ≡ Some row) where
  pub own_id : id_of row ≡ id
  own_id = found_id id gaz.rows row (row_at id gaz.rows (is.tables Rows).each ∙ at)

  -- another row than the child
  pub is_parent : (child : ℕ) → may_be_parent child row ≡ not (id == child)
  is_parent child = rw own_id refl

-- ---- whether the row itself is left out

and_true : (b : Bool) → (b && true) ≡ b
and_true true = refl
and_true false = refl

pub is_false : (b : Bool) → not b ≡ true → b ≡ false
is_false true is = sym is
is_false false is = refl

module _ (gaz : Gazetteer) (is : IsGazetteer gaz) (test : List ℕ → Bool) (own id : ℕ) where
  -- a row that fits as another one fits
  pub fits_too : fits_at gaz (may_be own test) id ≡ true → fits_at gaz test id ≡ true
  fits_too = by (line_with Rows (id ∷ []) gaz)
    where
      by : (found : Option (List ℕ)) → passes_at (may_be own test) found ≡ true → passes_at test found ≡ true
      by None passes = passes
      by (Some row) passes = and_left (test row) _ passes

  -- another row that doesn't fit as such doesn't fit
  pub nor_fits : (id == own) ≡ false → fits_at gaz (may_be own test) id ≡ false → fits_at gaz test id ≡ false
  nor_fits differs = by (line_with Rows (id ∷ []) gaz) refl
    where
      by : (found : Option (List ℕ)) → line_with Rows (id ∷ []) gaz ≡ found → passes_at (may_be own test) found ≡ false → passes_at test found ≡ false
      by None at fails = fails
      by (Some row) at fails =
          let apart : (id_of row == own) ≡ false = ap (λ n. n == own) (own_id gaz is id row at) ∙ differs in
          sym (and_true (test row)) ∙ (rw apart at fails)

-- another test of the next row
pub tested_as : (part : Part) (f g : ℕ → Bool) (result : Bool) (pages : ℕ → List ℕ) (scan : Scan) (left : List Pair) (id : ℕ) → (f id ≡ result → g id ≡ result) → IsTested part f result pages scan left id → IsTested part g result pages scan left id
tested_as part f g result pages scan left id to t = record { next = t.next; test = to t.test }
