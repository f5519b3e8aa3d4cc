-- What a check of a line answers.
use Rattle.std.specs.Prelude.{◌≡◌, ℕ, List, Some, None, Result, MatchResult}
use Rattle.gaz_num.specs.Numbers.{id_in}
use Rattle.gaz_num.specs.Pieces.{column}
use Rattle.gaz_num.specs.Check.{reason_against}
use Rattle.gaz_num.specs.declared.words.Kind.{Kind}
use Rattle.gaz_num.specs.declared.words.Reason.{Reason}

-- the id in the first column where the line is accepted as one of the kind, and else the first reason against it
abbrev pub IsChecked : Kind → List ℕ → Result ℕ Reason → Type 0
IsChecked kind line result =
    MatchResult result
    (λ id. (reason_against kind line ≡ None) × (id_in (column 1 line) ≡ Some id))
    (λ reason. reason_against kind line ≡ Some reason)
