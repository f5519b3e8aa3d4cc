-- A row of a gazetteer is accepted.
use Rattle.std.proofs.Common.{◌≡◌, ℕ, List, [], ◌∷◌, true, sym, ◌∙◌, Some, None, Result, Ok, Err, MatchResult}
use Rattle.std.specs.Prelude.{is_err}
use Rattle.gaz_num.specs.Check.{reason_against}
use Rattle.gaz_num.specs.Numbers.{id_in}
use Rattle.gaz_num.specs.Pieces.{column}
use Rattle.gaz_num.specs.declared.words.Kind.TheVariants.{Row}
use Rattle.gaz_num.specs.declared.words.Table.TheVariants.{Rows}
use Rattle.gaz_num.specs.declared.words.Reason.{Reason}
use Rattle.gaz_plain.specs.Gazetteer.{Gazetteer, IsGazetteer, line_with}
use Rattle.gaz_plain.proofs.Named.{row_accepted}

-- so its check finds no reason against it
pub not_refused : (gaz : Gazetteer) → IsGazetteer gaz → (id : ℕ) (row : List ℕ) (checked : Result ℕ Reason) → line_with Rows (id ∷ []) gaz ≡ Some row
    → MatchResult checked (λ id. (reason_against Row row ≡ None) × (id_in (column 1 row) ≡ Some id)) (λ reason. reason_against Row row ≡ Some reason) → is_err checked ≡ true → ⊥
not_refused gaz is id row (Ok n) at checks err = cc
not_refused gaz is id row (Err reason) at checks err = none_some (sym (row_accepted gaz is id row at) ∙ checks)
  where
    none_some : None ≡ Some reason → ⊥
    none_some none = cc
