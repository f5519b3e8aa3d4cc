-- What a request for children asks, or its first bad word.
use Rattle.std.specs.Prelude.{ℕ, Bool, List, length, take, drop, codes, Option, Some, None, Result, Ok, Err, ok_or, if◌then◌else◌}
use Rattle.std.specs.Str.{bytes_eq}
use Rattle.gaz_num.specs.Numbers.{id_in, count_in}
use Rattle.gaz_num.specs.Refusal.{◌>>=◌}
use Rattle.gaz_words.specs.declared.parameter.Parameter.TheVariants.{MaxRows}
use Rattle.gaz_words.specs.declared.request.BadRequest.{BadRequest}
use Rattle.gaz_words.specs.declared.request.BadRequest.TheVariants as bad
use Rattle.gaz_words.specs.Spaces.{before_space, behind_space}

-- the text begins with another
abbrev pub begins_with : List ℕ → List ℕ → Bool
begins_with front text = bytes_eq (take (length front) text) front

-- the count behind `maxRows=`, at most 1,000
abbrev pub max_rows_in : List ℕ → Result ℕ BadRequest
max_rows_in text =
    if begins_with (codes "maxRows=") text
    then ok_or (count_in 1000 (drop (length (codes "maxRows=")) text)) (bad.Value MaxRows)
    else Err bad.Parameter

-- the count behind an id, and 200 where nothing stands behind it
abbrev pub max_rows_behind_id : Option (List ℕ) → Result ℕ BadRequest
max_rows_behind_id None = Ok 200
max_rows_behind_id (Some text) = max_rows_in text

-- an id, or an id, one space and `maxRows=` with a count
abbrev pub children_by : List ℕ → Result (ℕ × ℕ) BadRequest
children_by text =
    ok_or (id_in (before_space text)) bad.Id
    >>= λ id. max_rows_behind_id (behind_space text)
    >>= λ max. Ok (id, max)

-- whose children are asked for, and how many at most
abbrev pub children_in : Option (List ℕ) → Result (ℕ × ℕ) BadRequest
children_in None = Err bad.Id
children_in (Some text) = children_by text
